use Rattle.ksv_basics.proofs.Running.{run_bind}
use Rattle.std.proofs.Common.{arith}
use Rattle.ksv_rules.proofs.answers.rested.Goals as goal

pub returns-in_err-rested : goal.returns-in_err-rested
returns-in_err-rested c = grind (arith, run_bind)

pub returns : goal.returns
returns c = grind (arith, run_bind)
