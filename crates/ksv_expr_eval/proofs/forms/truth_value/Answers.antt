use Rattle.ksv_basics.proofs.Running.{run_bind}
use Rattle.ksv_expr_meaning.specs.Meaning.{truth_value}
use Rattle.std.proofs.Common.{arith}
use Rattle.ksv_expr_eval.proofs.forms.truth_value.Goals as goal

pub returns-in_err-truth : goal.returns-in_err-truth
unfolding truth_value
returns-in_err-truth g c = grind (arith, run_bind)

pub returns : goal.returns
unfolding truth_value
returns g c = grind (arith, run_bind)
