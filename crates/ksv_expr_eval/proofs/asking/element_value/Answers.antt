use Rattle.ksv_basics.proofs.Running.{run_bind}
use Rattle.ksv_expr_meaning.specs.Meaning.{element_value}
use Rattle.std.proofs.Common.{arith}
use Rattle.ksv_expr_eval.proofs.asking.element_value.Goals as goal

pub returns-in_err-path : goal.returns-in_err-path
unfolding element_value
returns-in_err-path g c = grind (arith, run_bind)

pub returns : goal.returns
unfolding element_value
returns g c = grind (arith, run_bind)
