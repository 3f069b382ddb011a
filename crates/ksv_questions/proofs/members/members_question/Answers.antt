use Rattle.ksv_questions.proofs.Common.{String, Global, string_bytes, err_from_is_err_and}
use Rattle.ksv_questions.specs.Questions.{members_question}
use Rattle.ksv_questions.proofs.Steps.{runs_on, runs_failed}
use Rattle.ksv_questions.proofs.members.members_question.Goals as goal

pub returns-in_err-head : goal.returns-in_err-head
unfolding members_question
returns-in_err-head g c =
    let e = err_from_is_err_and c.from_residual.result c.from_residual.ensures.1 in
    rw (e.1, e.2) (runs_failed _ _ _ _ (λ h. h) (λ (text : String Global). string_bytes text)
    _ c.ask_head.new.engine c.in_err-head.field-0.0 c.in_err-head.ensures)

pub returns : goal.returns
unfolding members_question
returns g c =
    runs_on _ _ _ _ (λ h. h) (λ (text : String Global). string_bytes text) _ c.ask_head.new.engine c.parts_of.new.engine c.in_ok-head.head
    c.parts_of.result c.in_ok-head.ensures c.parts_of.ensures
