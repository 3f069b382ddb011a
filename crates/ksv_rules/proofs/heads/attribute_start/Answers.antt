use Rattle.ksv_basics.proofs.Running.{run_bind}
use Rattle.ksv_rule_meaning.specs.Heads.{attribute_start}
use Rattle.std.proofs.Common.{arith}
use Rattle.ksv_rules.proofs.heads.attribute_start.Goals as goal

pub returns-in_err-ended-in-Some : goal.returns-in_err-ended-in-Some
unfolding attribute_start
returns-in_err-ended-in-Some c = grind (arith, run_bind)

pub returns-in_ok-ended-in-Some : goal.returns-in_ok-ended-in-Some
unfolding attribute_start
returns-in_ok-ended-in-Some c = grind (arith, run_bind)
