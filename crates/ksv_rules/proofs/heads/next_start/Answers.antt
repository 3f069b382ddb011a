use Rattle.ksv_basics.proofs.Running.{run_bind}
use Rattle.ksv_rule_meaning.specs.Heads.{next_start}
use Rattle.std.proofs.Common.{arith}
use Rattle.ksv_rules.proofs.heads.next_start.Goals as goal

pub returns-in_err-ended : goal.returns-in_err-ended
unfolding next_start
returns-in_err-ended c = grind (arith, run_bind)

pub returns : goal.returns
unfolding next_start
returns c = grind (arith, run_bind)
