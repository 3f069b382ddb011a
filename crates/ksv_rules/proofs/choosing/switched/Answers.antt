use Rattle.ksv_basics.proofs.Running.{run_bind}
use Rattle.ksv_rule_meaning.specs.Choosing.{switched}
use Rattle.std.proofs.Common.{arith}
use Rattle.ksv_rules.proofs.choosing.switched.Goals as goal

pub returns-in_err-value : goal.returns-in_err-value
unfolding switched
returns-in_err-value c = grind (arith, run_bind)

pub returns : goal.returns
unfolding switched
returns c = grind (arith, run_bind)
