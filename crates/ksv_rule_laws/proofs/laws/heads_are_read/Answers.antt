use Rattle.ksv_rule_laws.proofs.Sources.{heads_are_read}
use Rattle.ksv_rule_laws.proofs.laws.heads_are_read.Goals as goal

pub returns : goal.returns
returns c = heads_are_read
