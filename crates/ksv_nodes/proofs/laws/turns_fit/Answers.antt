use Rattle.ksv_nodes.proofs.Resuming.{fits}
use Rattle.ksv_nodes.proofs.laws.turns_fit.Goals as goal

pub returns : goal.returns
returns c = λ rule here bytes replies. fits rule here bytes replies
