use Rattle.ksv_basics.proofs.Running.{run_bind}
use Rattle.ksv_rule_meaning.specs.Values.{bits_value}
use Rattle.std.proofs.Common.{arith}
use Rattle.ksv_rules.proofs.values.bits_value.Goals as goal

pub returns-in_err-bytes : goal.returns-in_err-bytes
unfolding bits_value
returns-in_err-bytes c = grind (arith, run_bind)

pub returns : goal.returns
unfolding bits_value
returns c = grind (arith, run_bind)
