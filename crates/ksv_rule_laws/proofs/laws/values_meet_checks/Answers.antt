use Rattle.ksv_rule_laws.proofs.Forms.{values_meet_checks}
use Rattle.ksv_rule_laws.proofs.laws.values_meet_checks.Goals as goal

pub returns : goal.returns
returns c = values_meet_checks
