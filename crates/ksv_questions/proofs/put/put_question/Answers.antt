use Rattle.ksv_questions.proofs.Common.{err_from_is_err_and}
use Rattle.ksv_questions.specs.Seen.{overwrite_of}
use Rattle.ksv_questions.specs.Writing.{put_question}
use Rattle.ksv_questions.proofs.Steps.{runs_ended, runs_failed}
use Rattle.ksv_questions.proofs.put.put_question.Goals as goal

pub returns-in_err-head : goal.returns-in_err-head
unfolding put_question
returns-in_err-head g c =
    let e = err_from_is_err_and c.from_residual.result c.from_residual.ensures.1 in
    rw (e.1, e.2) (runs_failed _ _ _ _ (λ h. h) (λ o. overwrite_of o) _ c.ask_head.new.engine c.in_err-head.field-0.0 c.in_err-head.ensures)

pub returns : goal.returns
unfolding put_question
returns g c =
    runs_ended _ _ _ _ (λ h. h) (λ o. overwrite_of o) _ c.ask_head.new.engine c.in_ok-head.head c.over_head.result c.in_ok-head.ensures c.over_head.ensures
