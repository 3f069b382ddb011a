use Rattle.ksv_memo.proofs.Common.{◌≡◌, ◌∙◌, ap, refl, subst, length, slice_get, Some, Empty, IsVacant}
use Rattle.std.proofs.lemmas.Option.{slice_get_read}
use Rattle.ksv_memo.proofs.Zipping.{slot-zip}
use Rattle.ksv_memo.proofs.slots.Slots.is_vacant.Goals as goal

pub returns-in-Empty : goal.returns-in-Empty
returns-in-Empty g c = λ _.
    let t = c.self.inside in
    let lent = c.as_slice.result.now in
    let read = slice_get_read lent (length lent) c.args.place c.in-Some.slot.now refl c.in-Some.ensures.lookup.3.0 c.in-Some.ensures.lookup.1 in
    subst (λ v. IsVacant v.entries c.args.place) c.self.view_is
    (slot-zip (g.P.Places.nodes t.places) t.slots.items c.args.place Empty c.self.invariant
    (subst (λ ss. slice_get ss c.args.place ≡ Some Empty) c.as_slice.ensures.value (read ∙ ap Some c.in-Empty.is)))
