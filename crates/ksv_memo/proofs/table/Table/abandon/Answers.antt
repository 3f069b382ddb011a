use Rattle.ksv_memo.proofs.Common.{◌∙◌, ap, subst, slice_get_within, Empty, EndsWith}
use Rattle.ksv_memo.proofs.Topping.{IsPopped, top, pops, abandons-laid, abandons-kept, abandons-rest}
use Rattle.ksv_memo.proofs.table.Table.abandon.Given
use Rattle.ksv_memo.proofs.table.Table.abandon.Goals.{After-take_last}
use Rattle.ksv_memo.proofs.table.Table.abandon.Goals as goal

pub set-requires : goal.set-requires
set-requires g c =
    let t = top _ _ _ c.self.invariant.waits
    (subst (EndsWith c.in-Some.frame.now) c.as_slice.ensures.value c.in-Some.ensures.some) in
    slice_get_within c.self.inside.slots.entries c.in-Some.frame.now.slot _ t.there

-- its slot is empty, and it is taken out
popped : (g : Given.Over) (c : After-take_last g)
    → IsPopped c.self.inside.slots.entries c.self.inside.links c.self.inside.frames c.take_last.new.self c.in-Some.frame.now c.set.new.self.entries Empty
popped g c =
    let ends = subst (EndsWith c.in-Some.frame.now) c.as_slice.ensures.value c.in-Some.ensures.some in
    pops _ _ _ _ _ _ _
    c.self.invariant ends (c.take_last.ensures c.in-Some.frame.now ends) c.set.ensures.slots

pub invariant_of-self : goal.invariant_of-self
invariant_of-self g c = abandons-laid c.self.inside.slots.entries (popped g (goal.at.invariant_of-self g c).After-take_last)

pub returns-clause-kept : goal.returns-clause-kept
returns-clause-kept g c =
    abandons-kept c.self.inside.slots.entries (popped g (goal.at.returns-clause-kept g c).After-take_last) ∙ ap (λ v. v.kept) c.self.view_is

pub returns-clause-rest : goal.returns-clause-rest
returns-clause-rest g c =
    rw (← c.self.view_is) (abandons-rest c.self.inside.slots.entries (popped g (goal.at.returns-clause-rest g c).After-take_last))
