use Rattle.ksv_basics.proofs.Running.{run_bind}
use Rattle.ksv_expr_meaning.specs.Meaning.{bytes_with}
use Rattle.std.proofs.Common.{arith}
use Rattle.ksv_expr_eval.proofs.forms.bytes_with.Goals as goal

pub returns-in_err-same-in-Equal : goal.returns-in_err-same-in-Equal
unfolding bytes_with
returns-in_err-same-in-Equal g c = grind (arith, run_bind)

pub returns-in_ok-same-in-Equal : goal.returns-in_ok-same-in-Equal
unfolding bytes_with
returns-in_ok-same-in-Equal g c = grind (arith, run_bind)
