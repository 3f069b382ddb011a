use Rattle.ksv_basics.proofs.Running.{run_bind}
use Rattle.ksv_rule_meaning.specs.Values.{leaf_value}
use Rattle.std.proofs.Common.{arith}
use Rattle.ksv_rules.proofs.values.leaf_value.Goals as goal

pub returns-in_err-field : goal.returns-in_err-field
unfolding leaf_value
returns-in_err-field c = grind (arith, run_bind)

pub returns-in_err-content : goal.returns-in_err-content
unfolding leaf_value
returns-in_err-content c = grind (arith, run_bind)

pub returns : goal.returns
unfolding leaf_value
returns c = grind (arith, run_bind)
