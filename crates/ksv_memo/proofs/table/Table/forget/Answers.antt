use Rattle.ksv_memo.proofs.Common.{◌≤◌, ◌+◌, ◌-◌, length, ◌∙◌, ap, refl, arith, Frames}
use Rattle.std.proofs.Common.{max}
use Rattle.ksv_memo.proofs.Sweeping.{swept, swept-links, kept-within, waits-in, none-also}
use Rattle.ksv_memo.proofs.Resting.{no-frames, no-opens}
use Rattle.ksv_memo.proofs.table.Table.forget.Goals as goal

pub forget-requires-clause-within : goal.forget-requires-clause-within
forget-requires-clause-within g c moves =
    kept-within _ _ _ c.self.invariant.kept
    (rw (← c.self.view_is) at c.requires.within)

pub swept-requires-clause-inside : goal.swept-requires-clause-inside
swept-requires-clause-inside g c = waits-in _ _ _ _ _ c.self.invariant.kept c.forget.ensures.forgets

pub invariant_of-self : goal.invariant_of-self
invariant_of-self g c =
    let t = c.self.inside in
    let none : Frames _ = record { frames = t.frames.frames; asked = c.clear.new.self; uses = t.frames.uses; has_grown = t.frames.has_grown } in
    let e = c.swept.ensures.emptied in
    record {
      kept = swept-links _ _ _ _ _ _ _ _ _ _ c.self.invariant.kept (none-also _) c.forget.ensures.forgets e;
      waits = no-frames _ _ e.taken.opens _ none c.self.invariant.waits (ap (λ v. v.opened) c.self.view_is ∙ c.requires.opened) refl c.clear.ensures.items;
    }

pub returns-clause-opened : goal.returns-clause-opened
returns-clause-opened g c =
    let t = c.self.inside in
    let none : Frames _ = record { frames = t.frames.frames; asked = c.clear.new.self; uses = t.frames.uses; has_grown = t.frames.has_grown } in
    no-opens _ _ c.swept.ensures.emptied.taken.opens _ none c.self.invariant.waits (ap (λ v. v.opened) c.self.view_is ∙ c.requires.opened) refl

pub returns-clause-kept : goal.returns-clause-kept
returns-clause-kept g c =
    let t = c.self.inside in
    let l = t.links in
    let m = c.forget.new.self in
    let n = c.swept.new.links in
    let count = c.swept.new.slots.looks in
    let from = t.slots.looks in
    let looked = c.swept.result in
    let x = c.looks_at-before.ensures in let y = c.swept.ensures.looked in
    let most : looked ≤ max (n.looks + count - (l.looks + from)) (length m.waits) = omega arith in
    rw (← c.self.view_is) (swept _ _ _ _ _ _ _ _ _ _ c.self.invariant.kept (none-also _) c.forget.ensures.forgets c.swept.ensures.emptied c.args.pages
    c.forget.ensures.vacant c.forget.ensures.most c.forget.ensures.behind from looked (omega arith) (omega arith) most looked (omega arith) (omega arith))
