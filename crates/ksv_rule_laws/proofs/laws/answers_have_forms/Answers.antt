use Rattle.ksv_rule_laws.proofs.Forms.{answers_have_forms}
use Rattle.ksv_rule_laws.proofs.laws.answers_have_forms.Goals as goal

pub returns : goal.returns
returns c = answers_have_forms
