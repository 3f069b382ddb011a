use Rattle.ksv_basics.proofs.Running.{run_bind}
use Rattle.ksv_expr_meaning.specs.Meaning.{text_in}
use Rattle.std.proofs.Common.{arith}
use Rattle.ksv_expr_eval.proofs.asking.text_in.Goals as goal

pub returns-in_err-bytes : goal.returns-in_err-bytes
unfolding text_in
returns-in_err-bytes g c = grind (arith, run_bind)

pub returns : goal.returns
unfolding text_in
returns g c = grind (arith, run_bind)
