use Rattle.ksv_rule_laws.proofs.Answering.{answers_stay}
use Rattle.ksv_rule_laws.proofs.laws.answers_stay.Goals as goal

pub returns : goal.returns
returns c = answers_stay
