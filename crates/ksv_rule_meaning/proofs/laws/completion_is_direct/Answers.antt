use Rattle.ksv_rule_meaning.proofs.Completing.{completion_is_direct}
use Rattle.ksv_rule_meaning.proofs.laws.completion_is_direct.Goals as goal

pub returns : goal.returns
returns c = completion_is_direct
