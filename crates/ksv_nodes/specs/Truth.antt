-- What a rule answers, asks and uses where each node that it asks has an answer: by direct recursion on the rule.
-- It has no list of replies, and no turn.
use Rattle.std.specs.Prelude.{ℕ, List, [], ◌∷◌, ◌++◌, Option, Some, None, Result, Ok, Err}
use Rattle.ksv_basics.specs.Plan.{Answer, Fail, Ask}
use Rattle.ksv_bytes.specs.declared.uses.Use.{Use}
use Rattle.ksv_expr_value.specs.Trail.{Trail}
use Rattle.ksv_expr_value.specs.declared.fault.Fault.{Fault}
use Rattle.ksv_expr_value.specs.declared.fault.FaultKind.TheVariants as kinds
use Rattle.ksv_nodes.specs.declared.node.Node.{Node}
use Rattle.ksv_nodes.specs.declared.given.Given.{Given}
use Rattle.ksv_nodes.specs.declared.node_fault.NodeFault.{NodeFault}
use Rattle.ksv_nodes.specs.declared.node_fault.NodeFault.TheVariants as faults
use Rattle.ksv_nodes.specs.Reading.{look}
use Rattle.ksv_nodes.specs.Rule.{Rule, Of, See}
use Rattle.ksv_nodes.specs.Turning.{fault_at, raised}

-- goes on with an answer; a fault of an asked node is the rule's
abbrev pub with_given : {E A : Type 0} → Result Given E → (Given → Result A E) → Result A E
with_given (Ok g) f = f g
with_given (Err e) f = Err e

-- goes on with what was seen, where a fault of a rule's own is told as `own` says
abbrev pub seen_by : {E A B : Type 0} → (Fault → E) → Trail → Option A → (A → Result B E) → Result B E
seen_by own here (Some a) f = f a
seen_by own here None f = Err (own (fault_at here kinds.EndOfBytes))

-- the list after an answer, and after what was seen; after a fault there is nothing
abbrev pub behind_given : {E X : Type 0} → Result Given E → (Given → List X) → List X
behind_given (Ok g) f = f g
behind_given (Err e) f = []

abbrev pub behind_seen : {A X : Type 0} → Option A → (A → List X) → List X
behind_seen (Some a) f = f a
behind_seen None f = []

-- at a path, on these bytes, where each asked node has the answer that `met` gives
module _ {E : Type 0} (met : Node → Result Given E) (here : Trail) (bytes : List ℕ) where
  -- what a rule answers, where a fault of its own is told as `own` says
  abbrev pub answer_by : {A : Type 0} → (Fault → E) → Rule A → Result A E
  answer_by own (Answer a) = Ok a
  answer_by own (Fail e) = Err (own (raised e here))
  answer_by own (Ask (Of n) k) = with_given (met n) (λ g. answer_by own (k g))
  answer_by own (Ask (See r) k) = seen_by own here (look r bytes).seen (λ x. answer_by own (k x))

  -- the nodes that it asks, in order
  abbrev pub asks_of : {A : Type 0} → Rule A → List Node
  asks_of (Answer a) = []
  asks_of (Fail e) = []
  asks_of (Ask (Of n) k) = n ∷ behind_given (met n) (λ g. asks_of (k g))
  asks_of (Ask (See r) k) = behind_seen (look r bytes).seen (λ x. asks_of (k x))

  -- what its readings depend on, in order
  abbrev pub uses_of : {A : Type 0} → Rule A → List Use
  uses_of (Answer a) = []
  uses_of (Fail e) = []
  uses_of (Ask (Of n) k) = behind_given (met n) (λ g. uses_of (k g))
  uses_of (Ask (See r) k) = (look r bytes).uses ++ behind_seen (look r bytes).seen (λ x. uses_of (k x))

-- the same where answers have faults of nodes: a rule's own is one that it raised, and that of a node that it asks may be a circle
abbrev pub with_seen : {A B : Type 0} → Trail → Option A → (A → Result B NodeFault) → Result B NodeFault
with_seen here o f = seen_by faults.Raised here o f

module _ (met : Node → Result Given NodeFault) (here : Trail) (bytes : List ℕ) where
  abbrev pub answer_of : {A : Type 0} → Rule A → Result A NodeFault
  answer_of p = answer_by met here bytes faults.Raised p

-- and where they are replies, which are no circles
abbrev pub plain_seen : {A B : Type 0} → Trail → Option A → (A → Result B Fault) → Result B Fault
plain_seen here o f = seen_by (λ e. e) here o f

module _ (met : Node → Result Given Fault) (here : Trail) (bytes : List ℕ) where
  abbrev pub plain_answer : {A : Type 0} → Rule A → Result A Fault
  plain_answer p = answer_by met here bytes (λ e. e) p
