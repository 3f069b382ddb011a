use Rattle.ksv_rule_meaning.proofs.Direct.{answers_are_direct, asks_are_direct, answers_follow_rules}
use Rattle.ksv_rule_meaning.proofs.laws.evaluation_is_direct.Goals as goal

pub returns-clause-answers : goal.returns-clause-answers
returns-clause-answers c = answers_are_direct

pub returns-clause-asks : goal.returns-clause-asks
returns-clause-asks c = asks_are_direct

pub returns-clause-rules : goal.returns-clause-rules
returns-clause-rules c = answers_follow_rules
