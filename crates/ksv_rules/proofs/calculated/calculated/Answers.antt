use Rattle.ksv_basics.proofs.Running.{run_bind}
use Rattle.ksv_rule_meaning.specs.Values.{calculated}
use Rattle.std.proofs.Common.{arith}
use Rattle.ksv_rules.proofs.calculated.calculated.Goals as goal

pub returns-in_err-kind : goal.returns-in_err-kind
unfolding calculated
returns-in_err-kind c = grind (arith, run_bind)

pub returns : goal.returns
unfolding calculated
returns c = grind (arith, run_bind)
