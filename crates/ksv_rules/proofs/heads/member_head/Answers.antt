use Rattle.ksv_basics.proofs.Running.{run_bind}
use Rattle.ksv_rule_meaning.specs.Heads.{member_head}
use Rattle.std.proofs.Common.{arith}
use Rattle.ksv_rules.proofs.heads.member_head.Goals as goal

pub returns-in_err-head : goal.returns-in_err-head
unfolding member_head
returns-in_err-head c = grind (arith, run_bind)

pub returns-in_err-object : goal.returns-in_err-object
unfolding member_head
returns-in_err-object c = grind (arith, run_bind)

pub returns-in_err-sought : goal.returns-in_err-sought
unfolding member_head
returns-in_err-sought c = grind (arith, run_bind)

pub returns : goal.returns
unfolding member_head
returns c = grind (arith, run_bind)
