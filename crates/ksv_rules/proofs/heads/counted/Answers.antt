use Rattle.ksv_basics.proofs.Running.{run_bind}
use Rattle.ksv_rule_meaning.specs.Heads.{counted}
use Rattle.std.proofs.Common.{arith}
use Rattle.ksv_rules.proofs.heads.counted.Goals as goal

pub returns-in_err-count : goal.returns-in_err-count
unfolding counted
returns-in_err-count c = grind (arith, run_bind)

pub returns : goal.returns
unfolding counted
returns c = grind (arith, run_bind)
