-- Evaluation from nothing: what a node answers by its rule on some bytes, each node that it asks answered in the same way with
-- one node more open. A node that is asked while it is open is the fault circle, which is at its path. There is no table,
-- no reply, no turn and no stack in it.
use Rattle.std.specs.Prelude.{ℕ, zero, suc, cond, List, ◌∷◌, Result, Err}
use Rattle.ksv_bytes.specs.declared.uses.Use.{Use}
use Rattle.ksv_desc.specs.Description.{Description}
use Rattle.ksv_memo_rules.specs.Evaluation.{is_among}
use Rattle.ksv_nodes.specs.declared.node.Node.{Node}
use Rattle.ksv_nodes.specs.declared.given.Given.{Given}
use Rattle.ksv_nodes.specs.declared.node_fault.NodeFault.{NodeFault}
use Rattle.ksv_nodes.specs.declared.node_fault.NodeFault.TheVariants as faults
use Rattle.ksv_nodes.specs.Numbers.{node_number, node_bound}
use Rattle.ksv_nodes.specs.Truth.{answer_of, asks_of, uses_of}
use Rattle.ksv_rule_meaning.specs.Meaning.{rule_of}

-- a node was asked while it was open
abbrev pub circle : Node → Result Given NodeFault
circle n = Err (faults.Circle n.path)

-- the answer while these nodes are open, at most this many deep
unfoldable pub answer_within : Description → List ℕ → ℕ → List Node → Node → Result Given NodeFault
answer_within d bytes zero opened n = circle n
answer_within d bytes (suc depth) opened n = cond (is_among node_number opened n) (circle n) (answer_of (answer_within d bytes depth (n ∷ opened)) n.path bytes (rule_of d n))

-- the answer; open nodes differ, so as many nodes as there are suffice for the depth
unfoldable pub from_nothing : Description → List ℕ → List Node → Node → Result Given NodeFault
from_nothing d bytes opened n = answer_within d bytes node_bound opened n

-- the nodes that a node asks while these are open, in order, and what its readings rest on
abbrev pub asks : Description → List ℕ → List Node → Node → List Node
asks d bytes opened n = asks_of (from_nothing d bytes (n ∷ opened)) n.path bytes (rule_of d n)

abbrev pub uses : Description → List ℕ → List Node → Node → List Use
uses d bytes opened n = uses_of (from_nothing d bytes (n ∷ opened)) n.path bytes (rule_of d n)
