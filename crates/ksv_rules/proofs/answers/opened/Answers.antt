use Rattle.ksv_basics.proofs.Running.{run_bind}
use Rattle.std.proofs.Common.{arith}
use Rattle.ksv_rules.proofs.answers.opened.Goals as goal

pub returns-in_err-head : goal.returns-in_err-head
returns-in_err-head c = grind (arith, run_bind)

pub returns-in_err-object : goal.returns-in_err-object
returns-in_err-object c = grind (arith, run_bind)

pub returns : goal.returns
returns c = grind (arith, run_bind)
