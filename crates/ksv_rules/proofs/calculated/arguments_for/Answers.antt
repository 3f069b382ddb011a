use Rattle.ksv_basics.proofs.Running.{run_bind}
use Rattle.ksv_rule_meaning.specs.Values.{arguments_for}
use Rattle.std.proofs.Common.{arith}
use Rattle.ksv_rules.proofs.calculated.arguments_for.Goals as goal

pub returns-in_err-field : goal.returns-in_err-field
unfolding arguments_for
returns-in_err-field c = grind (arith, run_bind)

pub returns-in_err-content : goal.returns-in_err-content
unfolding arguments_for
returns-in_err-content c = grind (arith, run_bind)

pub returns : goal.returns
unfolding arguments_for
returns c = grind (arith, run_bind)
