use Rattle.ksv_questions.proofs.Common.{String, Global, string_bytes, err_from_is_err_and}
use Rattle.ksv_questions.specs.Questions.{place_question}
use Rattle.ksv_questions.proofs.Steps.{runs_on, runs_failed}
use Rattle.ksv_questions.proofs.place.place_question.Goals as goal

pub returns-in_err-head : goal.returns-in_err-head
unfolding place_question
returns-in_err-head g c =
    let e = err_from_is_err_and c.from_residual.result c.from_residual.ensures.1 in
    rw (e.1, e.2) (runs_failed _ _ _ _ (λ h. h) (λ (text : String Global). string_bytes text)
    _ c.ask_head.new.engine c.in_err-head.field-0.0 c.in_err-head.ensures)

pub returns : goal.returns
unfolding place_question
returns g c =
    runs_on _ _ _ _ (λ h. h) (λ (text : String Global). string_bytes text) _ c.ask_head.new.engine c.of_head.new.engine c.in_ok-head.head c.of_head.result
    c.in_ok-head.ensures c.of_head.ensures
