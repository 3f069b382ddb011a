use Rattle.ksv_rule_laws.proofs.Forms.{values_have_heads}
use Rattle.ksv_rule_laws.proofs.laws.values_have_heads.Goals as goal

pub returns : goal.returns
returns c = values_have_heads
