-- What an expression of a description means in a rule: its value as ksv_expr_meaning tells it, each want answered as the rules answer
-- it. The language of expressions is that of the Kaitai Struct User Guide; what they ask and use is this project's own.
use Rattle.std.specs.Prelude.{◌≡◌, ℕ, List, flat_map, Result}
use Rattle.ksv_expr_tree.specs.Tree.{Tree}
use Rattle.ksv_expr_meaning.specs.Heard.{Heard}
use Rattle.ksv_expr_value.specs.Setting.{Setting}
use Rattle.ksv_basics.specs.Asking as plans
use Rattle.ksv_expr_meaning.specs.Meaning.{value_of}
use Rattle.ksv_expr_value.specs.declared.value.Value.{Value}
use Rattle.ksv_expr_meaning.specs.declared.want.Want.{Want}
use Rattle.ksv_nodes.specs.Truth.{answer_of, asks_of, uses_of}
use Rattle.ksv_nodes.specs.declared.node.Node.{Node}
use Rattle.ksv_nodes.specs.declared.node_fault.NodeFault.{NodeFault}
use Rattle.ksv_nodes.specs.NodeFaults.{raised_at}
use Rattle.ksv_nodes.specs.declared.given.Given.{Given}
use Rattle.ksv_rule_meaning.specs.Wanted.{wanted, expression}

-- what the rules answer a want, over a map of nodes to answers
abbrev pub wants_met : (Node → Result Given NodeFault) → List ℕ → Setting → Want → Result Heard NodeFault
wants_met met bytes s w = answer_of met s.here bytes (wanted s w)

-- the value of an expression over a map from wants to answers, and its wants there, as in ksv_expr_meaning (`Ev`, `wants_made`); here
-- what answers a want may fail as nodes do
abbrev pub Ev : (Want → Result Heard NodeFault) → Setting → Tree → Result Value NodeFault
Ev met s e = plans.answer_of (raised_at s.here) met (value_of s e)

abbrev pub wants_made : (Want → Result Heard NodeFault) → Setting → Tree → List Want
wants_made met s e = plans.asks_of met (value_of s e)

-- Over any map of nodes to answers, and on any bytes: an expression whose faults stand at the node's path answers what it means
-- over the map from wants to what the rules answer them; and what it asks and uses is what its wants do, one after the other.
pub record IsExpressionMet (met : Node → Result Given NodeFault) (bytes : List ℕ) (s : Setting) (e : Tree) : Type 0 where
  pub answer : answer_of met s.here bytes (expression s e) ≡ Ev (wants_met met bytes s) s e
  pub asks : asks_of met s.here bytes (expression s e) ≡ flat_map (λ w. asks_of met s.here bytes (wanted s w)) (wants_made (wants_met met bytes s) s e)
  pub uses : uses_of met s.here bytes (expression s e) ≡ flat_map (λ w. uses_of met s.here bytes (wanted s w)) (wants_made (wants_met met bytes s) s e)

abbrev pub ExpressionsAreMet : Type 0
ExpressionsAreMet = (met : Node → Result Given NodeFault) (bytes : List ℕ) (s : Setting) (e : Tree) → IsExpressionMet met bytes s e
