use Rattle.ksv_basics.proofs.Running.{run_bind}
use Rattle.ksv_expr_meaning.specs.Meaning.{same_bytes}
use Rattle.std.proofs.Common.{arith}
use Rattle.ksv_expr_eval.proofs.forms.same_bytes.Goals as goal

pub returns-in_err-left : goal.returns-in_err-left
unfolding same_bytes
returns-in_err-left g c = grind (arith, run_bind)

pub returns-in_err-right : goal.returns-in_err-right
unfolding same_bytes
returns-in_err-right g c = grind (arith, run_bind)

pub returns-in_ok-right : goal.returns-in_ok-right
unfolding same_bytes
returns-in_ok-right g c = grind (arith, run_bind)
