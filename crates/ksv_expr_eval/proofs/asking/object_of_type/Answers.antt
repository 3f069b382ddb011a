use Rattle.ksv_basics.proofs.Running.{run_bind}
use Rattle.ksv_expr_meaning.specs.Meaning.{object_of_type}
use Rattle.std.proofs.Common.{arith}
use Rattle.ksv_expr_eval.proofs.asking.object_of_type.Goals as goal

pub returns-in_err-opened : goal.returns-in_err-opened
unfolding object_of_type
returns-in_err-opened g c = grind (arith, run_bind)

pub returns-in_ok-copy : goal.returns-in_ok-copy
unfolding object_of_type
returns-in_ok-copy g c = grind (arith, run_bind)

pub returns-else-opened-type_number : goal.returns-else-opened-type_number
unfolding object_of_type
returns-else-opened-type_number g c = grind (arith, run_bind)
