use Rattle.ksv_basics.proofs.Running.{run_bind}
use Rattle.ksv_expr_meaning.specs.Meaning.{last_element}
use Rattle.std.proofs.Common.{arith}
use Rattle.ksv_expr_eval.proofs.asking.last_element.Goals as goal

pub returns-in_err-count : goal.returns-in_err-count
unfolding last_element
returns-in_err-count g c = grind (arith, run_bind)

pub returns : goal.returns
unfolding last_element
returns g c = grind (arith, run_bind)
