-- Evaluation from nothing is said twice: for every engine by replies (`ksv_memo`), and for a description by direct recursion on
-- its rules (`FromNothing`). Here is what it means that both are the same. These laws are this project's own.
use Rattle.std.specs.Prelude.{◌≡◌, ◌↔◌, ℕ, ◌<◌, false, List, ◌∷◌, length, map, take, slice_get, Some, Contains, Result, Ok, Err}
use Rattle.ksv_bytes.specs.declared.uses.Use.{Use}
use Rattle.ksv_expr_value.specs.declared.fault.Fault.{Fault}
use Rattle.ksv_desc.specs.Description.{Description}
use Rattle.ksv_memo_rules.specs.declared.rules.Outcome.{Outcome}
use Rattle.ksv_memo_rules.specs.declared.rules.Outcome.TheVariants.{Answered, Circle}
use Rattle.ksv_memo_rules.specs.declared.rules.Next.TheVariants.{Need, Done}
use Rattle.ksv_memo_rules.specs.Meaning.{on, IsAddedTo}
use Rattle.ksv_memo_rules.specs.Evaluation.{is_among, tells}
use Rattle.ksv_memo_rules.specs.Right.{AreDistinct}
use Rattle.ksv_nodes.specs.declared.node.Node.{Node}
use Rattle.ksv_nodes.specs.declared.given.Given.{Given}
use Rattle.ksv_nodes.specs.declared.node_fault.NodeFault.{NodeFault}
use Rattle.ksv_nodes.specs.declared.node_fault.NodeFault.TheVariants as faults
use Rattle.ksv_nodes.specs.Numbers.{node_number}
use Rattle.ksv_nodes.specs.Truth.{answer_of, plain_answer, asks_of, uses_of}
use Rattle.ksv_rule_meaning.specs.Meaning.{rule_of}
use Rattle.ksv_rule_meaning.specs.FromNothing.{circle, from_nothing, asks, uses}
use Rattle.ksv_rule_meaning.specs.Described.{described}

-- an outcome as an answer: a fault of the rule's is one that it raised, and a node that was asked while it was open is the fault
-- circle at its path
abbrev pub flattened : Outcome Node (Result Given Fault) → Result Given NodeFault
flattened (Answered (Ok g)) = Ok g
flattened (Answered (Err f)) = Err (faults.Raised f)
flattened (Circle c) = circle c

-- the same uses, in whatever order and however often
abbrev pub AreSameUses : List Use → List Use → Type 0
AreSameUses us vs = (u : Use) → Contains us u ↔ Contains vs u

-- these nodes differ, and this one isn't among them
pub record IsFree (d : Description) (bytes : List ℕ) (opened : List Node) (n : Node) : Type 0 where
  pub distinct : AreDistinct (on (described d) bytes) opened
  pub apart : is_among node_number opened n ≡ false

-- ---- evaluation by replies is the direct one

-- What a node answers by replies, whatever is open, is what it answers directly.
abbrev pub AnswersAreDirect : Type 0
AnswersAreDirect = (d : Description) (bytes : List ℕ) (opened : List Node) (n : Node) → flattened (tells (on (described d) bytes) opened n).outcome ≡ from_nothing d bytes opened n

-- What a node that isn't open asks and uses by replies is what it asks and uses directly. By replies the rule is run anew after
-- each, so that uses come again.
pub record IsDirect (d : Description) (bytes : List ℕ) (opened : List Node) (n : Node) : Type 0 where
  pub asked : (tells (on (described d) bytes) opened n).asked ≡ asks d bytes opened n
  pub uses : AreSameUses (tells (on (described d) bytes) opened n).uses (uses d bytes opened n)

abbrev pub AsksAreDirect : Type 0
AsksAreDirect = (d : Description) (bytes : List ℕ) (opened : List Node) (n : Node) → IsFree d bytes opened n → IsDirect d bytes opened n

-- The answer of a node that isn't open is its rule's, each node that it asks answered in the same way with this one open: the
-- depth doesn't matter.
abbrev pub AnswersFollowRules : Type 0
AnswersFollowRules = (d : Description) (bytes : List ℕ) (opened : List Node) (n : Node) → IsFree d bytes opened n → from_nothing d bytes opened n ≡ answer_of (from_nothing d bytes (n ∷ opened)) n.path bytes (rule_of d n)

-- ---- the next step of a node, by replies

-- where each asked node has the answer that `met` gives
module _ (d : Description) (bytes : List ℕ) (met : Node → Result Given Fault) (n : Node) where
  -- the nodes that its rule asks
  abbrev pub asked_by : List Node
  asked_by = asks_of met n.path bytes (rule_of d n)

  -- the answers of the first i of them
  abbrev pub first_answers : ℕ → List (Result Given Fault)
  first_answers i = map met (take i asked_by)

  -- with these it needs the next one, and has used a beginning of its uses
  pub record NeedsNext (i : ℕ) : Type 0 where
    pub node : Node
    pub is_next : slice_get asked_by i ≡ Some node
    pub step : (described d).follow bytes n (first_answers i) ≡ Need node
    pub uses : IsAddedTo ((described d).added bytes n (first_answers i)) (uses_of met n.path bytes (rule_of d n))

  -- with all of them it is done, and has used just its uses
  pub record MeetsTruth : Type 0 where
    pub step : (described d).follow bytes n (map met asked_by) ≡ Done (plain_answer met n.path bytes (rule_of d n))
    pub uses : (described d).added bytes n (map met asked_by) ≡ uses_of met n.path bytes (rule_of d n)
    pub goes_on : (i : ℕ) → i < length asked_by → NeedsNext i

-- Whatever nodes answer, but for circles, which are no replies: where the replies are true, a node asks one node after the other of
-- those that its rule asks, and is then done with the answer of its rule.
abbrev pub NextMeetsTruth : Type 0
NextMeetsTruth = (d : Description) (bytes : List ℕ) (met : Node → Result Given Fault) (n : Node) → MeetsTruth d bytes met n
