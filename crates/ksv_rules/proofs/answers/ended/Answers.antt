use Rattle.ksv_basics.proofs.Running.{run_bind}
use Rattle.std.proofs.Common.{arith}
use Rattle.ksv_rules.proofs.answers.ended.Goals as goal

pub returns-in_err-is_done : goal.returns-in_err-is_done
returns-in_err-is_done c = grind (arith, run_bind)

pub returns : goal.returns
returns c = grind (arith, run_bind)
