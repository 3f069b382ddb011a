use Rattle.ksv_basics.proofs.Running.{run_bind}
use Rattle.ksv_expr_meaning.specs.Meaning.{at_end}
use Rattle.std.proofs.Common.{arith}
use Rattle.ksv_expr_eval.proofs.asking.at_end.Goals as goal

pub returns-in_err-done : goal.returns-in_err-done
unfolding at_end
returns-in_err-done g c = grind (arith, run_bind)

pub returns : goal.returns
unfolding at_end
returns g c = grind (arith, run_bind)
