use Rattle.ksv_nodes.proofs.Resuming.{is_bounded}
use Rattle.ksv_nodes.proofs.laws.turns_are_bounded.Goals as goal

pub returns : goal.returns
returns c = λ n rule here bytes replies few long. is_bounded n rule here bytes replies few long
