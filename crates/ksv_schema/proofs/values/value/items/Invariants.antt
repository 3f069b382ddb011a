use Rattle.ksv_schema.proofs.Common.{drop, map, items, seen_fault}
use Rattle.ksv_yaml_tree.specs.View.{view}
use Rattle.ksv_schema.specs.Code.{items_of}
use Rattle.ksv_schema.proofs.Items.{AreSoFar}
use Rattle.ksv_schema.proofs.values.value.items.Given as goal

abbrev pub invariant-loop-node : goal.invariant-loop-node
invariant-loop-node l = AreSoFar (items (map view l.nodes)) (items (map view (drop l.node-index l.nodes))) (items_of l.made) (seen_fault l.fn.least)
    (seen_fault l.least)
