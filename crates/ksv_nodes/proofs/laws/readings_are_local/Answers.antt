use Rattle.ksv_nodes.proofs.Looks.{look_same}
use Rattle.ksv_nodes.proofs.laws.readings_are_local.Goals as goal

pub returns : goal.returns
returns c = λ reading bytes others agree. look_same bytes others reading agree
