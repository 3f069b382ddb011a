use Rattle.ksv_questions.proofs.Common.{String, Global, string_bytes, err_from_is_err_and}
use Rattle.ksv_questions.specs.Questions.{of_object}
use Rattle.ksv_questions.proofs.Steps.{runs_ended, runs_failed}
use Rattle.ksv_questions.proofs.get.of_object.Goals as goal

pub returns-in_err-head : goal.returns-in_err-head
unfolding of_object
returns-in_err-head g c =
    let e = err_from_is_err_and c.from_residual.result c.from_residual.ensures.1 in
    rw (e.1, e.2) (runs_failed _ _ _ _ (λ h. h) (λ (text : String Global). string_bytes text)
    _ c.ask_head.new.engine c.in_err-head.field-0.0 c.in_err-head.ensures)

pub returns : goal.returns
unfolding of_object
returns g c =
    runs_ended _ _ _ _ (λ h. h) (λ (text : String Global). string_bytes text) _ c.ask_head.new.engine c.in_ok-head.head c.object_text.result
    c.in_ok-head.ensures c.object_text.ensures
