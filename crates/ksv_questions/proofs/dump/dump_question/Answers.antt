use Rattle.ksv_questions.proofs.Common.{String, Global, string_bytes, err_from_is_err_and}
use Rattle.ksv_questions.specs.Dumps.{dump_question}
use Rattle.ksv_questions.proofs.Steps.{runs_on, runs_failed}
use Rattle.ksv_questions.proofs.dump.dump_question.Goals as goal

pub returns-in_err-value : goal.returns-in_err-value
unfolding dump_question
returns-in_err-value g c =
    let e = err_from_is_err_and c.from_residual.result c.from_residual.ensures.1 in
    rw (e.1, e.2) (runs_failed _ _ _ _ (λ v. v) (λ (text : String Global). string_bytes text)
    _ c.ask_value.new.engine c.in_err-value.field-0.0 c.in_err-value.ensures)

pub returns : goal.returns
unfolding dump_question
returns g c =
    runs_on _ _ _ _ (λ v. v) (λ (text : String Global). string_bytes text) _ c.ask_value.new.engine c.whole_text.new.engine c.in_ok-value.value
    c.whole_text.result c.in_ok-value.ensures c.whole_text.ensures
