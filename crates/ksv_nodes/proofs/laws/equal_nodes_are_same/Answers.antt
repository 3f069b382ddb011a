use Rattle.ksv_nodes.specs.Exact.{node_exact}
use Rattle.ksv_nodes.proofs.laws.equal_nodes_are_same.Goals as goal

pub returns : goal.returns
returns c = node_exact
