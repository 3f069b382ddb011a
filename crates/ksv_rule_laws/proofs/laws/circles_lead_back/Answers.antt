use Rattle.ksv_rule_laws.proofs.Circles.{circles_lead_back}
use Rattle.ksv_rule_laws.proofs.laws.circles_lead_back.Goals as goal

pub returns : goal.returns
returns c = circles_lead_back
