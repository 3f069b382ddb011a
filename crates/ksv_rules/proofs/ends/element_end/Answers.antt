use Rattle.ksv_basics.proofs.Running.{run_bind}
use Rattle.ksv_rule_meaning.specs.Ends.{element_end}
use Rattle.std.proofs.Common.{arith}
use Rattle.ksv_rules.proofs.ends.element_end.Goals as goal

pub returns-in_err-list_head : goal.returns-in_err-list_head
unfolding element_end
returns-in_err-list_head c = grind (arith, run_bind)

pub returns-in_err-list : goal.returns-in_err-list
unfolding element_end
returns-in_err-list c = grind (arith, run_bind)

pub returns-in_err-field : goal.returns-in_err-field
unfolding element_end
returns-in_err-field c = grind (arith, run_bind)

pub returns-in_err-not_empty : goal.returns-in_err-not_empty
unfolding element_end
returns-in_err-not_empty c = grind (arith, run_bind)

pub returns-in_err-last : goal.returns-in_err-last
unfolding element_end
returns-in_err-last c = grind (arith, run_bind)

pub returns : goal.returns
unfolding element_end
returns c = grind (arith, run_bind)
