use Rattle.ksv_nodes.proofs.Resuming.{is_local}
use Rattle.ksv_nodes.proofs.laws.turns_are_local.Goals as goal

pub returns : goal.returns
returns c = λ rule here bytes others replies agree. is_local rule here bytes others replies agree
