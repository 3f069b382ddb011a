use Rattle.ksv_rule_laws.proofs.Touching.{elements_touch}
use Rattle.ksv_rule_laws.proofs.laws.elements_touch.Goals as goal

pub returns : goal.returns
returns c = elements_touch
