use Rattle.std.proofs.Common.{◌≡◌, map, drop}
use Rattle.std.specs.List.{flat_map}
use Rattle.ksv_expr_tree.specs.Tree.{view}
use Rattle.ksv_desc.specs.Names.{distinct_behind, dotted}
use Rattle.ksv_desc.proofs.names.+dots.Given as goal

-- with the names in the arguments from this one on, those in all are there
abbrev pub invariant-add_in_each-loop-argument : goal.invariant-add_in_each-loop-argument
invariant-add_in_each-loop-argument l =
    distinct_behind l.names (flat_map dotted (map view (drop l.argument-index l.arguments)))
    ≡ distinct_behind l.fn.names (flat_map dotted (map view l.arguments))
