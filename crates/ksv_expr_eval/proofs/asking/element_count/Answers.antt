use Rattle.ksv_basics.proofs.Running.{run_bind}
use Rattle.ksv_expr_meaning.specs.Meaning.{element_count}
use Rattle.std.proofs.Common.{arith}
use Rattle.ksv_expr_eval.proofs.asking.element_count.Goals as goal

pub returns-in_err-first-2 : goal.returns-in_err-first-2
unfolding element_count
returns-in_err-first-2 g c = grind (arith, run_bind)

pub returns : goal.returns
unfolding element_count
returns g c = grind (arith, run_bind)
