use Rattle.ksv_memo.proofs.Common.{common_steps, arith}
use Rattle.ksv_memo.proofs.Common.{◌≤◌, ◌∙◌, ap, refl, sym, subst, length, slice_get_within, EndsWith, IsKept, entries_of, opens_of, Closes, MayKeep, nodes}
use Rattle.std.proofs.Common.{◌==◌}
use Rattle.ksv_memo.proofs.Laying.{All-drop}
use Rattle.ksv_memo.proofs.Topping.{IsClosed, top, pops, closes-laid, closes-last, closes-more, hears-laid, may-keep, may-lose, no-items, same-frames}
use Rattle.ksv_memo.proofs.Topping.{unchanged-laid, keep_part, kept_part, keep-asks, keep-out, keep-in}
use Rattle.ksv_memo.specs.Nodes.{MayLose}
use Rattle.ksv_memo.proofs.Turns.{on_err_always}
use Rattle.ksv_memo.proofs.table.Table.close.Given
use Rattle.ksv_memo.proofs.table.Table.close.Goals.{After-take_last}
use Rattle.ksv_memo.proofs.table.Table.close.Goals as goal

-- its part of what open nodes asked and used is there
pub slice_bounds-uses-count : goal.slice_bounds-uses-count
slice_bounds-uses-count g c =
    let t = top _ _ _ c.self.invariant.waits (subst (EndsWith c.in-Some.frame.now) c.as_slice.ensures.value c.in-Some.ensures.some) in
    subst (λ uses. c.in-Some.frame.now.uses ≤ length uses) (sym c.deref.ensures.value) t.count

pub slice_bounds-asked-count : goal.slice_bounds-asked-count
slice_bounds-asked-count g c =
    let t = top _ _ _ c.self.invariant.waits (subst (EndsWith c.in-Some.frame.now) c.as_slice.ensures.value c.in-Some.ensures.some) in
    subst (λ asked. c.in-Some.frame.now.asked ≤ length asked) (sym c.deref-2.ensures.value) t.asks

pub set-requires : goal.set-requires
set-requires g c =
    let t = top _ _ _ c.self.invariant.waits
    (subst (EndsWith c.in-Some.frame.now) c.as_slice.ensures.value c.in-Some.ensures.some) in
    slice_get_within c.self.inside.slots.entries c.in-Some.frame.now.slot _ t.there

pub keep_once-requires : goal.keep_once-requires
keep_once-requires g c =
    let ps = c.self.inside.slots.entries in
    let t = top _ _ _ c.self.invariant.waits
    (subst (EndsWith c.in-Some.frame.now) c.as_slice.ensures.value c.in-Some.ensures.some) in
    record {
      idle = c.self.invariant.kept.idle;
      slot_in = keep-in _ _ _ _ c.self.invariant.kept t;
      out = keep-out _ _ _ _ c.self.invariant.kept t;
      asked_kept = keep-asks _ _ _ c.in-Some.frame.now c.self.invariant _ c.deref-2.ensures.value;
    }

-- memory is refused before it is kept
pub invariant_of-self : goal.invariant_of-self
invariant_of-self g c = unchanged-laid _ _ _ _ c.in_err-keep_once.ensures.err
    c.self.invariant

-- it is kept with its answer, and taken out
closed : (g : Given.Over) (c : After-take_last g) → IsClosed c.self.inside.slots.entries c.self.inside.links c.self.inside.frames c.take_last.new.self
    c.in-Some.frame.now c.set.new.self.entries c.slot_of.result c.args.answer c.keep_once.new.links
closed g c =
    let f = c.in-Some.frame.now in
    let before = c.self.inside in
    let ends = subst (EndsWith f) c.as_slice.ensures.value c.in-Some.ensures.some in
    let k = c.in_ok-keep_once.ensures.ok in
    record {
      once = k.once;
      each = keep_part f.uses _ _ _ c.deref.ensures.value k.each;
      shut = record {
        pops = pops _ _ _ _ _ _ _ c.self.invariant ends
            (c.take_last.ensures f ends) c.set.ensures.slots;
        is = c.slot_of.ensures;
        asked = All-drop (IsKept before.slots.entries) f.asked before.frames.asked.items c.self.invariant.waits.asked;
        in_asked = k.keeps.in_asked;
        in_uses = k.keeps.in_uses;
        kept = kept_part before.links c.keep_once.new.links f.slot f.asked _ _ _ _
            c.deref-2.ensures.value refl k.keeps;
      };
    }

-- no node is below it
pub invariant_of-self-then-is_empty : goal.invariant_of-self-then-is_empty
invariant_of-self-then-is_empty g c = closes-laid c.self.inside.slots.entries (closed g (goal.at.invariant_of-self-then-is_empty g c).After-take_last)

pub returns-then-is_empty-clause-ok : goal.returns-then-is_empty-clause-ok
returns-then-is_empty-clause-ok g c =
    subst (λ v. Closes c.args.answer v.opened (nodes v)
    (record { kept = entries_of c.set.new.self.entries c.keep_once.new.links; opened = opens_of c.set.new.self.entries c.take_last.new.self }))
    c.self.view_is
    (closes-last c.self.inside.slots.entries (closed g (goal.at.returns-then-is_empty-clause-ok g c).After-take_last)
    (no-items c.take_last.new.self.frames.items (ap (λ xs. length xs == 0) (sym c.as_slice-2.ensures.value) ∙ sym c.if-is_empty.ensures)))

-- the one below gets its answer
pub invariant_of-self-2 : goal.invariant_of-self-2
invariant_of-self-2 g c =
    hears-laid c.self.inside.slots.entries (closed g (goal.at.invariant_of-self-2 g c).After-take_last) _ c.in_ok-hear.ensures.ok

pub returns-clause-ok : goal.returns-clause-ok
returns-clause-ok g c =
    subst (λ v. Closes c.args.answer v.opened (nodes v)
    (record { kept = entries_of c.set.new.self.entries c.keep_once.new.links; opened = opens_of c.set.new.self.entries c.hear.new.self })) c.self.view_is
    (closes-more c.self.inside.slots.entries (closed g (goal.at.returns-clause-ok g c).After-take_last) c.hear.new.self c.in_ok-hear.ensures.ok)

-- memory is refused once it is kept
pub invariant_of-self-in_err-hear : goal.invariant_of-self-in_err-hear
invariant_of-self-in_err-hear g c =
    let laid = closes-laid c.self.inside.slots.entries (closed g (goal.at.invariant_of-self-in_err-hear g c).After-take_last) in
    record { kept = laid.kept; waits = same-frames _ _ _ c.in_err-hear.ensures.err laid.waits }

pub returns-in_err-hear-clause-err : goal.returns-in_err-hear-clause-err
returns-in_err-hear-clause-err g c =
    on_err_always c.from_residual-in_err-hear.result
    (subst (λ v. MayKeep c.args.answer v.opened v.kept (entries_of c.set.new.self.entries c.keep_once.new.links)) c.self.view_is
    (may-keep c.self.inside.slots.entries (closed g (goal.at.returns-in_err-hear-clause-err g c).After-take_last)))

pub returns-in_err-hear-clause-waiting : goal.returns-in_err-hear-clause-waiting
returns-in_err-hear-clause-waiting g c =
    on_err_always c.from_residual-in_err-hear.result
    (subst (λ v. MayLose v.opened (opens_of c.set.new.self.entries c.hear.new.self)) c.self.view_is
    (may-lose c.self.inside.slots.entries (closed g (goal.at.returns-in_err-hear-clause-waiting g c).After-take_last) c.hear.new.self
    c.in_err-hear.ensures.err))

-- c

pub slice_bounds-uses-start : goal.slice_bounds-uses-start
slice_bounds-uses-start g c = grind (arith, common_steps)

pub slice_bounds-asked-start : goal.slice_bounds-asked-start
slice_bounds-asked-start g c = grind (arith, common_steps)
