use Rattle.ksv_rule_laws.proofs.Circles.{no_rule_makes_circles}
use Rattle.ksv_rule_laws.proofs.laws.no_rule_makes_circles.Goals as goal

pub returns : goal.returns
returns c = no_rule_makes_circles
