-- Laws of every rule: run with true replies it meets the truth, it depends on its uses alone, its uses fit the
-- bytes, and it has an end. These laws are this project's own; because of them an engine may keep answers.
use Rattle.std.specs.Prelude.{◌≡◌, ℕ, ◌≤◌, ◌<◌, List, [], ◌++◌, length, map, take, slice_get, Some, Result}
use Rattle.std.specs.List.{AllByRecursion}
use Rattle.ksv_basics.specs.Plan.{Ran, Need, Failed, Done, run, behind, IsEnded}
use Rattle.ksv_basics.specs.Asking.{ended}
use Rattle.ksv_bytes.specs.declared.uses.Use.{Use}
use Rattle.ksv_bytes.specs.Uses.{AgreeOn, CanUse}
use Rattle.ksv_expr_value.specs.Trail.{Trail}
use Rattle.ksv_expr_value.specs.declared.fault.Fault.{Fault}
use Rattle.ksv_nodes.specs.declared.given.Given.{Given}
use Rattle.ksv_nodes.specs.declared.node.Node.{Node}
use Rattle.ksv_nodes.specs.Reading.{Reading, look}
use Rattle.ksv_nodes.specs.Rule.{Rule}
use Rattle.ksv_nodes.specs.Turning.{State, fresh, turns}
use Rattle.ksv_nodes.specs.Truth.{plain_answer, asks_of, uses_of}
use Rattle.ksv_nodes.specs.Bounds.{NodesAtMost}

-- a state, and the result of a run, with other bytes
abbrev pub state_on : List ℕ → State → State
state_on others s = record s { bytes = others }

abbrev pub ran_on : {A : Type 0} → List ℕ → Ran Node Fault State A → Ran Node Fault State A
ran_on others (Need n s) = Need n (state_on others s)
ran_on others (Failed f s) = Failed f (state_on others s)
ran_on others (Done a s) = Done a (state_on others s)

-- a rule, run from its beginning on these replies
abbrev pub resumed : {A : Type 0} → Rule A → Trail → List ℕ → List (Result Given Fault) → Ran Node Fault State A
resumed rule here bytes replies = run turns rule (fresh here bytes replies)

-- what a run used
abbrev pub used : {A : Type 0} → Ran Node Fault State A → List Use
used ran = (behind ran).uses

-- ---- readings

-- On bytes that agree on all that a reading depends on, it gives the same.
abbrev pub ReadingsAreLocal : Type 0
ReadingsAreLocal = (reading : Reading) (bytes others : List ℕ) → AllByRecursion (AgreeOn bytes others) (look reading bytes).uses → look reading others ≡ look reading bytes

-- What a reading depends on fits the bytes: a used range isn't empty, and each used place is within the bytes.
abbrev pub ReadingsFit : Type 0
ReadingsFit = (reading : Reading) (bytes : List ℕ) → AllByRecursion (CanUse bytes) (look reading bytes).uses

-- ---- runs

-- at a path, on these bytes, where each asked node has the answer that `met` gives
module _ (met : Node → Result Given Fault) (here : Trail) (bytes : List ℕ) (rule : Rule Given) where
  -- the nodes that the rule asks
  abbrev pub asked : List Node
  asked = asks_of met here bytes rule

  -- the state after these uses, with replies that are left
  abbrev pub left : List (Result Given Fault) → List Use → State
  left replies us = record { here = here; bytes = bytes; replies = replies; uses = us }

  -- With only the first i of the replies it needs the next node that it asks, and has used a beginning of its uses.
  pub record NeedsNext (i : ℕ) : Type 0 where
    pub node : Node
    pub is_next : slice_get asked i ≡ Some node
    pub before : List Use
    pub after : List Use
    pub ran : resumed rule here bytes (map met (take i asked)) ≡ Need node (left [] before)
    pub begins : uses_of met here bytes rule ≡ before ++ after

  -- With the replies to all nodes that it asks it ends with its answer, and its uses are exactly the rule's.
  -- Further replies change nothing.
  pub record MeetsTruth : Type 0 where
    pub ends : (more : List (Result Given Fault)) → resumed rule here bytes (map met asked ++ more) ≡ ended (plain_answer met here bytes rule) (left more (uses_of met here bytes rule))
    pub goes_on : (i : ℕ) → i < length asked → NeedsNext i

abbrev pub TurnsMeetTruth : Type 0
TurnsMeetTruth = (met : Node → Result Given Fault) (here : Trail) (bytes : List ℕ) (rule : Rule Given) → MeetsTruth met here bytes rule

-- On bytes that agree on all that a run used, whatever the replies, the run is the same, with the same uses.
abbrev pub TurnsAreLocal : Type 0
TurnsAreLocal = (rule : Rule Given) (here : Trail) (bytes others : List ℕ) (replies : List (Result Given Fault)) → AllByRecursion (AgreeOn bytes others) (used (resumed rule here bytes replies))
    → resumed rule here others replies ≡ ran_on others (resumed rule here bytes replies)

-- Whatever the replies, all that a run uses fits the bytes.
abbrev pub TurnsFit : Type 0
TurnsFit = (rule : Rule Given) (here : Trail) (bytes : List ℕ) (replies : List (Result Given Fault)) → AllByRecursion (CanUse bytes) (used (resumed rule here bytes replies))

-- With as many replies as a rule asks nodes at most, its run has no open question, whatever the replies are.
abbrev pub TurnsAreBounded : Type 0
TurnsAreBounded = (n : ℕ) (rule : Rule Given) (here : Trail) (bytes : List ℕ) (replies : List (Result Given Fault)) → NodesAtMost n rule → n ≤ length replies → IsEnded (resumed rule here bytes replies)
