use Rattle.ksv_basics.proofs.Running.{run_bind}
use Rattle.ksv_expr_meaning.specs.Meaning.{byte_from}
use Rattle.std.proofs.Common.{arith}
use Rattle.ksv_expr_eval.proofs.asking.byte_from.Goals as goal

pub returns-in_err-bytes : goal.returns-in_err-bytes
unfolding byte_from
returns-in_err-bytes g c = grind (arith, run_bind)

pub returns : goal.returns
unfolding byte_from
returns g c = grind (arith, run_bind)
