use Rattle.ksv_basics.proofs.Running.{run_bind}
use Rattle.std.proofs.Common.{arith}
use Rattle.ksv_rules.proofs.answers.valued.Goals as goal

pub returns-in_err-value : goal.returns-in_err-value
returns-in_err-value c = grind (arith, run_bind)

pub returns : goal.returns
returns c = grind (arith, run_bind)
