use Rattle.ksv_memo.proofs.Common.{◌≤◌, ◌+◌, ◌-◌, length, ◌∙◌, ap, refl, sym, arith, Frames}
use Rattle.std.proofs.Common.{max}
use Rattle.std.proofs.lemmas.List.Elements.{Contains-get_or}
use Rattle.ksv_memo.specs.Emptying.{IsEmptied}
use Rattle.ksv_memo.specs.Lending.{AreSlotsOf, is_lent_from}
use Rattle.ksv_memo.proofs.Listing.{all-kept}
use Rattle.ksv_memo.proofs.Sweeping.{swept, swept-links, kept-within, waits-in}
use Rattle.ksv_memo.proofs.Resting.{no-frames, no-opens}
use Rattle.ksv_memo.proofs.table.Table.forget_lent.Given
use Rattle.ksv_memo.proofs.table.Table.forget_lent.Goals.{After-swept}
use Rattle.ksv_memo.proofs.table.Table.forget_lent.Goals as goal

pub find_from-requires-clause-kept : goal.find_from-requires-clause-kept
find_from-requires-clause-kept g c =
    all-kept g.R.Node.PartialEq.eq g.met.R.Rules.exact c.self.inside.slots.entries c.self.inside.links c.args.lent.now.items
    (rw (← c.self.view_is) at c.requires.lent)

pub forget-requires-clause-within : goal.forget-requires-clause-within
forget-requires-clause-within g c moves =
    kept-within _ _ _ c.self.invariant.kept
    (rw (← c.self.view_is) at c.requires.within)

pub forget-requires-clause-also_kept : goal.forget-requires-clause-also_kept
forget-requires-clause-also_kept g c k d lt =
    let those = rw (sym c.found.ensures) at c.find_from.ensures.found in
    c.self.invariant.kept.kept _ ∙ (those.each _ (Contains-get_or c.found.result.now k d lt)).0

pub swept-requires-clause-inside : goal.swept-requires-clause-inside
swept-requires-clause-inside g c =
    rw c.find_from.ensures.entries (waits-in _ _ _ _ _ c.self.invariant.kept c.forget.ensures.forgets)

-- the slots that were found, and those that were emptied
those : (g : Given.Over) (c : After-swept g)
    → AreSlotsOf (is_lent_from g.R.Node.PartialEq.eq c.args.left c.args.lent.now.items) c.self.inside.slots.entries c.found.result.now
those g c = rw (sym c.found.ensures) at c.find_from.ensures.found

emptied : (g : Given.Over) (c : After-swept g)
    → IsEmptied c.self.inside.slots.entries c.swept.new.slots.entries c.forget.new.self c.swept.new.links c.find_from.new.slots.looks c.swept.new.slots.looks
emptied g c = rw c.find_from.ensures.entries at c.swept.ensures.emptied

pub invariant_of-self : goal.invariant_of-self
invariant_of-self g c =
    let t = c.self.inside in
    let none : Frames _ = record { frames = t.frames.frames; asked = c.clear.new.self; uses = t.frames.uses; has_grown = t.frames.has_grown } in
    let e = emptied g (goal.at.invariant_of-self g c).After-swept in
    record {
      kept = swept-links _ _ _ _ _ _ _ _ _ _ c.self.invariant.kept (those g (goal.at.invariant_of-self g c).After-swept) c.forget.ensures.forgets e;
      waits = no-frames _ _ e.taken.opens _ none c.self.invariant.waits (ap (λ v. v.opened) c.self.view_is ∙ c.requires.opened) refl c.clear.ensures.items;
    }

pub returns-clause-opened : goal.returns-clause-opened
returns-clause-opened g c =
    let t = c.self.inside in
    let none : Frames _ = record { frames = t.frames.frames; asked = c.clear.new.self; uses = t.frames.uses; has_grown = t.frames.has_grown } in
    no-opens _ _ (emptied g (goal.at.returns-clause-opened g c).After-swept).taken.opens _ none c.self.invariant.waits
    (ap (λ v. v.opened) c.self.view_is ∙ c.requires.opened) refl

pub returns-clause-kept : goal.returns-clause-kept
returns-clause-kept g c =
    let t = c.self.inside in
    let a = (goal.at.returns-clause-kept g c).After-swept in
    let m = c.forget.new.self in
    let n = c.swept.new.links in
    let count = c.swept.new.slots.looks in
    let looked = c.swept.result in
    let x = c.looks_at-first.ensures in let y = c.swept.ensures.looked in let z = c.find_from.ensures.looks in let few = ap length c.found.ensures in
    let most : looked ≤ max (n.looks + count - (t.links.looks + t.slots.looks)) (length m.waits) = omega arith in
    rw (← c.self.view_is) (swept _ _ _ _ _ _ _ _ _ _ c.self.invariant.kept (those g a) c.forget.ensures.forgets (emptied g a) c.args.pages
    c.forget.ensures.vacant c.forget.ensures.most c.forget.ensures.behind t.slots.looks looked (omega arith) (omega arith) most looked (omega arith)
    (omega arith))

pub returns-clause-room : goal.returns-clause-room
returns-clause-room g c =
    let t = c.self.inside in
    let a = (goal.at.returns-clause-room g c).After-swept in
    let m = c.forget.new.self in
    let n = c.swept.new.links in
    let count = c.swept.new.slots.looks in
    let looked = c.swept.result in
    let x = c.looks_at-first.ensures in let y = c.swept.ensures.looked in let z = c.find_from.ensures.looks in let few = ap length c.found.ensures in
    let most : looked ≤ max (n.looks + count - (t.links.looks + t.slots.looks)) (length m.waits) = omega arith in
    rw (← c.self.view_is) (swept _ _ _ _ _ _ _ _ _ _ c.self.invariant.kept (those g a) c.forget.ensures.forgets (emptied g a) c.args.pages
    c.forget.ensures.vacant c.forget.ensures.most c.forget.ensures.behind t.slots.looks looked (omega arith) (omega arith) most (looked + 2) (omega arith)
    (omega arith))
