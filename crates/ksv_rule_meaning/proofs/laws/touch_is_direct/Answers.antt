use Rattle.ksv_rule_meaning.proofs.Completing.{touch_is_direct}
use Rattle.ksv_rule_meaning.proofs.laws.touch_is_direct.Goals as goal

pub returns : goal.returns
returns c = touch_is_direct
