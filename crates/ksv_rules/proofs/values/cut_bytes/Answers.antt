use Rattle.ksv_basics.proofs.Running.{run_bind}
use Rattle.ksv_rule_meaning.specs.Values.{cut_bytes}
use Rattle.std.proofs.Common.{arith}
use Rattle.ksv_rules.proofs.values.cut_bytes.Goals as goal

pub returns-in_err-bytes : goal.returns-in_err-bytes
unfolding cut_bytes
returns-in_err-bytes c = grind (arith, run_bind)

pub returns : goal.returns
unfolding cut_bytes
returns c = grind (arith, run_bind)
