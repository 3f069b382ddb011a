use Rattle.ksv_questions.proofs.Common.{◌-◌, String, Global, string_bytes, err_from_is_err_and, bytes_of, desc_of, dumped}
use Rattle.ksv_questions.specs.Dumps.{depth_limit, part_limit, whole_text}
use Rattle.ksv_questions.proofs.Exact.{whole_exact}
use Rattle.ksv_questions.proofs.Steps.{runs_ended, runs_failed}
use Rattle.ksv_questions.proofs.dump.whole_text.Goals as goal

pub returns-in_err-whole : goal.returns-in_err-whole
unfolding whole_text
returns-in_err-whole g c =
    let e = err_from_is_err_and c.from_residual.result c.from_residual.ensures.1 in
    rw (e.1, e.2) (runs_failed _ _ _ _ dumped (λ (text : String Global). string_bytes text)
    _ c.value_part.new.engine c.in_err-whole.field-0.0 c.in_err-whole.ensures)

pub returns : goal.returns
unfolding whole_text
returns g c =
    runs_ended _ _ _ _ dumped (λ (text : String Global). string_bytes text) _ c.value_part.new.engine c.in_ok-whole.whole c.written_text.result
    c.in_ok-whole.ensures c.written_text.ensures

-- what was written has no float
pub written_text-requires : goal.written_text-requires
written_text-requires g c =
    let d = desc_of c.args.file.now in
    let b = bytes_of c.args.file.now in
    whole_exact d b depth_limit c.args.path.now (part_limit - 1) c.args.value.now (dumped c.in_ok-whole.whole) c.in_ok-whole.ensures.0
