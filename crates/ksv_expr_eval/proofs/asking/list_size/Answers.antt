use Rattle.ksv_basics.proofs.Running.{run_bind}
use Rattle.ksv_expr_meaning.specs.Meaning.{list_size}
use Rattle.std.proofs.Common.{arith}
use Rattle.ksv_expr_eval.proofs.asking.list_size.Goals as goal

pub returns-in_err-count : goal.returns-in_err-count
unfolding list_size
returns-in_err-count g c = grind (arith, run_bind)

pub returns : goal.returns
unfolding list_size
returns g c = grind (arith, run_bind)
