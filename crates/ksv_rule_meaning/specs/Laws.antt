-- What an engine's contracts say in its own words, in those of the direct definitions; and how many nodes a rule asks. These laws
-- are this project's own.
use Rattle.std.specs.Prelude.{◌≡◌, ◌↔◌, ◌≤◌, ℕ, false, List, length, Result}
use Rattle.ksv_bytes.specs.declared.uses.Change.{Change}
use Rattle.ksv_expr_value.specs.declared.fault.Fault.{Fault}
use Rattle.ksv_desc.specs.Description.{Description}
use Rattle.ksv_memo_rules.specs.Evaluation.{IsAnswered, done, tells}
use Rattle.ksv_memo_rules.specs.Meaning.{on, IsDone}
use Rattle.ksv_memo_rules.specs.Right.{AreDistinct, cost}
use Rattle.ksv_memo_rules.specs.Touched as engines
use Rattle.ksv_nodes.specs.Bounds.{NodesAtMost}
use Rattle.ksv_nodes.specs.declared.given.Given.{Given}
use Rattle.ksv_nodes.specs.declared.node.Node.{Node}
use Rattle.ksv_rule_meaning.specs.Described.{described, most_asks, resumed, step_of}
use Rattle.ksv_rule_meaning.specs.Meaning.{rule_of}
use Rattle.ksv_rule_meaning.specs.Completed.{completed, meets_circle}
use Rattle.ksv_rule_meaning.specs.Kept.{calls, is_touched}

-- a node has an answer by replies just where evaluating it meets no circle, and completes the same nodes
pub record CompletesDirectly (d : Description) (bytes : List ℕ) (opened : List Node) (n : Node) : Type 0 where
  pub answered : IsAnswered (tells (on (described d) bytes) opened n).outcome ↔ (meets_circle d bytes opened n ≡ false)
  pub completed : done (on (described d) bytes) opened n ≡ completed d bytes opened n

abbrev pub CompletionIsDirect : Type 0
CompletionIsDirect = (d : Description) (bytes : List ℕ) (opened : List Node) (n : Node) → AreDistinct (on (described d) bytes) opened → CompletesDirectly d bytes opened n

abbrev pub TouchIsDirect : Type 0
TouchIsDirect = (d : Description) (bytes : List ℕ) (change : Change) (n : Node) → engines.is_touched (on (described d) bytes) change n ≡ is_touched d bytes change n

abbrev pub CostIsDirect : Type 0
CostIsDirect = (d : Description) (bytes : List ℕ) (n : Node) → cost (on (described d) bytes) n ≡ calls d bytes n

-- Each rule of a description asks a number of nodes that the description tells, whatever nodes answer and bytes say; so a node
-- that has as many replies, true or not, is done.
pub record AreRulesBounded (d : Description) (n : Node) : Type 0 where
  pub asks : NodesAtMost (most_asks d) (rule_of d n)
  pub settles : (bytes : List ℕ) (replies : List (Result Given Fault)) → most_asks d ≤ length replies → IsDone (step_of (resumed d bytes n replies))

abbrev pub RulesAreBounded : Type 0
RulesAreBounded = (d : Description) (n : Node) → AreRulesBounded d n
