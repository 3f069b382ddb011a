use Rattle.ksv_rule_laws.proofs.Following.{first_attributes_begin, attributes_touch}
use Rattle.ksv_rule_laws.proofs.laws.attributes_touch.Goals as goal

pub returns-clause-first : goal.returns-clause-first
returns-clause-first c = first_attributes_begin

pub returns-clause-further : goal.returns-clause-further
returns-clause-further c = attributes_touch
