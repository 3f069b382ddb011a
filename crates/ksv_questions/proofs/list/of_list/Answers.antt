use Rattle.ksv_questions.proofs.Common.{String, Global, string_bytes, err_from_is_err_and}
use Rattle.ksv_questions.specs.Questions.{of_list}
use Rattle.ksv_questions.proofs.Steps.{runs_ended, runs_failed}
use Rattle.ksv_questions.proofs.list.of_list.Goals as goal

pub returns-in_err-count : goal.returns-in_err-count
unfolding of_list
returns-in_err-count g c =
    let e = err_from_is_err_and c.from_residual.result c.from_residual.ensures.1 in
    rw (e.1, e.2) (runs_failed _ _ _ _ (λ n. n) (λ (text : String Global). string_bytes text)
    _ c.first_asked.new.engine c.in_err-count.field-0.0 c.in_err-count.ensures)

pub returns : goal.returns
unfolding of_list
returns g c =
    runs_ended _ _ _ _ (λ n. n) (λ (text : String Global). string_bytes text) _ c.first_asked.new.engine c.in_ok-count.count c.list_text.result
    c.in_ok-count.ensures c.list_text.ensures
