use Rattle.ksv_rule_meaning.proofs.Completing.{cost_is_direct}
use Rattle.ksv_rule_meaning.proofs.laws.cost_is_direct.Goals as goal

pub returns : goal.returns
returns c = cost_is_direct
