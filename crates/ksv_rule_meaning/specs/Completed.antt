-- What evaluation from nothing completes on the way, by direct recursion on the rules of a description. There is no table, no reply, no
-- turn and no stack in it.
use Rattle.std.specs.Prelude.{ℕ, zero, suc, Bool, true, false, List, [], ◌∷◌, ◌++◌, Result, Ok, Err, if◌then◌else◌}
use Rattle.std.specs.List.{flat_map}
use Rattle.ksv_desc.specs.Description.{Description}
use Rattle.ksv_memo_rules.specs.Evaluation.{is_among}
use Rattle.ksv_nodes.specs.declared.given.Given.{Given}
use Rattle.ksv_nodes.specs.declared.node.Node.{Node}
use Rattle.ksv_nodes.specs.declared.node_fault.NodeFault.{NodeFault}
use Rattle.ksv_nodes.specs.declared.node_fault.NodeFault.TheVariants as faults
use Rattle.ksv_nodes.specs.Numbers.{node_number, node_bound}
use Rattle.ksv_rule_meaning.specs.FromNothing.{asks, from_nothing}

-- whether an answer is a circle
abbrev pub is_circle : Result Given NodeFault → Bool
is_circle (Ok g) = false
is_circle (Err (faults.Raised f)) = false
is_circle (Err (faults.Circle p)) = true

-- whether evaluating a node while these are open comes upon an open node: that is its answer, since no rule makes a circle and none
-- goes on after one
unfoldable pub meets_circle : Description → List ℕ → List Node → Node → Bool
meets_circle d bytes opened n = is_circle (from_nothing d bytes opened n)

-- the nodes that evaluating a node completes, in order, with repeats, at most this many deep: all that each node that it asks
-- completes, and then the node itself, unless a circle was met; an open node completes nothing
unfoldable pub completed_within : Description → List ℕ → ℕ → List Node → Node → List Node
completed_within d bytes zero opened n = []
completed_within d bytes (suc depth) opened n =
    if is_among node_number opened n then []
    else flat_map (completed_within d bytes depth (n ∷ opened)) (asks d bytes opened n) ++ (if meets_circle d bytes opened n then [] else n ∷ [])

-- the same to any depth
unfoldable pub completed : Description → List ℕ → List Node → Node → List Node
completed d bytes opened n = completed_within d bytes node_bound opened n
