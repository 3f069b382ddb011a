use Rattle.ksv_questions.proofs.Common.{err_from_is_err_and, ask_head}
use Rattle.ksv_questions.proofs.AskLemmas.{asked_ended, asked_failed}
use Rattle.ksv_questions.proofs.parts.ask_head.Goals as goal

pub returns-in_err-given : goal.returns-in_err-given
unfolding ask_head
returns-in_err-given g c =
    let e = err_from_is_err_and c.from_residual.result c.from_residual.ensures.1 in
    rw (e.1, e.2) (asked_failed _ _ _ _ (λ h. h) _ c.ask.new.engine c.in_err-given.field-0.0 c.in_err-given.ensures)

pub returns : goal.returns
unfolding ask_head
returns g c =
    asked_ended _ _ _ _ (λ h. h) _ c.ask.new.engine c.in_ok-given.given c.in_head.result c.in_ok-given.ensures c.in_head.ensures
