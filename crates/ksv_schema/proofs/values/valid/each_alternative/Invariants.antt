use Rattle.ksv_schema.proofs.Common.{drop, map, option_map, view, each, each_from}
use Rattle.ksv_yaml_tree.specs.View.{view as view_node}
use Rattle.ksv_schema.specs.Valid.{alternative}
use Rattle.ksv_schema.specs.Code.{seen_home}
use Rattle.ksv_schema.proofs.Each.{IsSoFar}
use Rattle.ksv_schema.proofs.values.valid.each_alternative.Given as goal

abbrev pub invariant-loop-node : goal.invariant-loop-node
invariant-loop-node l =
    let read = alternative (seen_home l.home) in
    IsSoFar (each read (map view_node l.nodes)) (each_from (λ i. read) l.node-index (map view_node (drop l.node-index l.nodes)))
    (option_map (λ v. map view v.items) l.made) l.fn.reader l.reader
