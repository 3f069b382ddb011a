use Rattle.ksv_list_laws.proofs.Trees.{trees_are_asked}
use Rattle.ksv_list_laws.proofs.laws.trees_are_asked.Goals as goal

pub returns : goal.returns
returns c = trees_are_asked
