use Rattle.ksv_rule_laws.proofs.Meeting.{expressions_are_met}
use Rattle.ksv_rule_laws.proofs.laws.expressions_are_met.Goals as goal

pub returns : goal.returns
returns c = expressions_are_met
