use Rattle.ksv_questions.proofs.Common.{String, Global, string_bytes, err_from_is_err_and}
use Rattle.ksv_questions.specs.Questions.{from_place}
use Rattle.ksv_questions.proofs.Steps.{runs_ended, runs_failed}
use Rattle.ksv_questions.proofs.place.from_place.Goals as goal

pub returns-in_err-to : goal.returns-in_err-to
unfolding from_place
returns-in_err-to g c =
    let e = err_from_is_err_and c.from_residual.result c.from_residual.ensures.1 in
    rw (e.1, e.2) (runs_failed _ _ _ _ (λ n. n) (λ (text : String Global). string_bytes text) _ c.ask_end.new.engine c.in_err-to.field-0.0 c.in_err-to.ensures)

pub returns : goal.returns
unfolding from_place
returns g c =
    runs_ended _ _ _ _ (λ n. n) (λ (text : String Global). string_bytes text) _ c.ask_end.new.engine c.in_ok-to.to c.places_text.result c.in_ok-to.ensures
    c.places_text.ensures
