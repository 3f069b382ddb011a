use Rattle.ksv_nodes.specs.Numbers.{node_number-one, node_number-below}
use Rattle.ksv_nodes.proofs.laws.nodes_are_numbered.Goals as goal

pub returns : goal.returns
returns c = record { one = node_number-one; below = node_number-below }
