use Rattle.std.proofs.Common.{◌∙◌, sym, ap, slice_get}
use Rattle.std.specs.Option.{option_map}
use Rattle.ksv_memo_rules.specs.Slots.{lent}
use Rattle.ksv_memo_rules.proofs.Replying.{lent_at, lent_past}
use Rattle.ksv_memo_rules.proofs.replies.Replies.get.Goals as goal

-- it wasn't asked yet
pub returns-in_err-slot_at : goal.returns-in_err-slot_at
returns-in_err-slot_at g c =
    ap (option_map lent) c.from_residual.ensures
    ∙ sym (lent_past c.self.inside.slots.now c.self.inside.asked.now c.args.place c.self.invariant (sym c.slot_at.ensures ∙ c.in_err-slot_at.was))
    ∙ ap (λ rs. slice_get rs c.args.place) c.self.view_is

pub returns : goal.returns
returns g c =
    c.answer_at.ensures
    ∙ sym (lent_at c.self.inside.slots.now c.self.inside.asked.now c.args.place c.in_ok-slot_at.field-0 c.self.invariant
    (sym c.slot_at.ensures ∙ c.in_ok-slot_at.was))
    ∙ ap (λ rs. slice_get rs c.args.place) c.self.view_is
