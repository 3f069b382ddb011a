-- Questions about a described file. A question is a plan: nodes that it asks, and what it does with what it hears of each, an
-- answer or the fault that prevents it. It ends in an A, or fails. Nothing here depends on who answers.
use Rattle.std.specs.Prelude.{List, [], ◌∷◌, Result, Ok, Err}
use Rattle.ksv_basics.specs.Plan.{Plan, Answer, Fail, Ask, ◌>>=◌}
use Rattle.ksv_expr_value.specs.Trail.{Trail}
use Rattle.ksv_expr_value.specs.declared.fault.FaultKind.{FaultKind}
use Rattle.ksv_expr_value.specs.declared.fault.FaultKind.TheVariants as kinds
use Rattle.ksv_nodes.specs.declared.given.Given.{Given}
use Rattle.ksv_nodes.specs.declared.node.Node.{Node}
use Rattle.ksv_nodes.specs.declared.node_fault.NodeFault.{NodeFault}
use Rattle.ksv_nodes.specs.NodeFaults.{raised_at}
use Rattle.ksv_texts.specs.declared.refusal.Refusal.{Refusal}

-- what is heard of a node
abbrev pub Heard : Type 0
Heard = Result Given NodeFault

-- why a question fails: by a fault that it passes on, or by a refusal of its own
pub data Failure : Type 0 where
  Faulty : NodeFault → Failure
  Refused : Refusal → Failure

abbrev pub Asking : Type 0 → Type 0
Asking A = Plan Node (λ _. Heard) Failure A

-- hears a node, and goes on also after a fault
abbrev pub hear : Node → Asking Heard
hear n = Ask n (λ h. Answer h)

-- a fault is passed on
abbrev pub passed : Heard → Asking Given
passed (Ok g) = Answer g
passed (Err f) = Fail (Faulty f)

-- asks a node for an answer
abbrev pub ask : Node → Asking Given
ask n = do
  h ← hear n
  passed h

abbrev pub fault_of_kind : {A : Type 0} → Trail → FaultKind → Asking A
fault_of_kind p k = Fail (Faulty (raised_at p k))

-- An answer of another form than its node's, and a stream as a value, never occur: the law `AnswersHaveForms` of ksv_rule_laws.
-- They are the fault bad-type at the asked path, so that questions are defined for all answers.
abbrev pub misfit : {A : Type 0} → Trail → Asking A
misfit p = fault_of_kind p kinds.BadType

-- where each node is heard as `met` says
module _ (met : Node → Heard) where
  -- what a question ends in
  abbrev pub result_of : {A : Type 0} → Asking A → Result A Failure
  result_of (Answer a) = Ok a
  result_of (Fail e) = Err e
  result_of (Ask n k) = result_of (k (met n))

  -- the nodes that it asks, in order
  abbrev pub asks_of : {A : Type 0} → Asking A → List Node
  asks_of (Answer a) = []
  asks_of (Fail e) = []
  asks_of (Ask n k) = n ∷ asks_of (k (met n))
