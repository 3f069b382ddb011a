use Rattle.ksv_rule_meaning.specs.Lemmas.Bounds.{rule_nodes, settles}
use Rattle.ksv_rule_meaning.proofs.laws.rules_are_bounded.Goals as goal

pub returns : goal.returns
returns c = λ d n. record { asks = rule_nodes d n; settles = λ bytes replies h. settles d bytes n replies h }
