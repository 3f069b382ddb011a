use Rattle.ksv_basics.proofs.Running.{run_bind}
use Rattle.std.proofs.Common.{arith}
use Rattle.ksv_rules.proofs.answers.sized.Goals as goal

pub returns-in_err-size : goal.returns-in_err-size
returns-in_err-size c = grind (arith, run_bind)

pub returns : goal.returns
returns c = grind (arith, run_bind)
