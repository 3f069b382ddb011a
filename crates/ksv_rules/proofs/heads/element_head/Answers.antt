use Rattle.ksv_basics.proofs.Running.{run_bind}
use Rattle.ksv_rule_meaning.specs.Heads.{element_head}
use Rattle.std.proofs.Common.{arith}
use Rattle.ksv_rules.proofs.heads.element_head.Goals as goal

pub returns-in_err-head : goal.returns-in_err-head
unfolding element_head
returns-in_err-head c = grind (arith, run_bind)

pub returns-in_err-list : goal.returns-in_err-list
unfolding element_head
returns-in_err-list c = grind (arith, run_bind)

pub returns-in_err-start : goal.returns-in_err-start
unfolding element_head
returns-in_err-start c = grind (arith, run_bind)

pub returns-in_err-field : goal.returns-in_err-field
unfolding element_head
returns-in_err-field c = grind (arith, run_bind)

pub returns : goal.returns
unfolding element_head
returns c = grind (arith, run_bind)
