-- Evaluation from nothing to a given depth, so that it computes. `from_nothing` goes as deep as there are nodes, by numbers of
-- nodes that are shut outside their module. Here nodes are compared by what they are, and where the depth doesn't suffice
-- there is no answer. Where there is one, it is that of evaluation from nothing (proofs/Depth), and what a session writes by such
-- answers is what the session writes (proofs/Sessions).
use Rattle.std.specs.Prelude.{ℕ, ℤ, zero, suc, ◌==◌, ◌&&◌, ◌||◌, Bool, true, false, List, [], ◌∷◌, ◌++◌, map, codes, Option, Some, None, option_map, option_and_then, Result, Ok, Err}
use Rattle.ksv_basics.specs.Plan.{Answer, Fail, Ask}
use Rattle.ksv_desc.specs.Description.{Description}
use Rattle.ksv_expr_value.specs.Trail.{Trail}
use Rattle.ksv_expr_value.specs.declared.fault.FaultKind.TheVariants as kinds
use Rattle.ksv_expr_value.specs.declared.step.Step.{Step}
use Rattle.ksv_expr_value.specs.declared.step.Step.TheVariants.{Index, Name}
use Rattle.ksv_nodes.specs.Reading.{look}
use Rattle.ksv_nodes.specs.Rule.{Rule, Of, See}
use Rattle.ksv_nodes.specs.Turning.{fault_at, raised}
use Rattle.ksv_nodes.specs.declared.given.Given.{Given}
use Rattle.ksv_nodes.specs.declared.node.Node.{Node}
use Rattle.ksv_nodes.specs.declared.node_fault.NodeFault.{NodeFault}
use Rattle.ksv_nodes.specs.declared.node_fault.NodeFault.TheVariants as faults
use Rattle.ksv_nodes.specs.declared.node.NodeKind.{NodeKind}
use Rattle.ksv_nodes.specs.declared.node.NodeKind.TheVariants.{Head, Value as ItsValue, End, Rest}
use Rattle.ksv_rule_meaning.specs.FromNothing.{circle}
use Rattle.ksv_rule_meaning.specs.Meaning.{rule_of}
use Rattle.ksv_questions.specs.Answers.{asking, told}
use Rattle.ksv_questions.specs.Asking.{Asking, Failure, Heard}
use Rattle.ksv_questions.specs.Writing.{put_question}
use Rattle.ksv_commands.specs.declared.command.Question.{Question}
use Rattle.ksv_commands.specs.Commands.{by_asking, command_of}
use Rattle.ksv_session.specs.Replies.{Replied, Event, Tally, said, answer_to, put_answer}
use Rattle.ksv_session.specs.Session.{Standing, answered}

-- ---- the same node

abbrev pub same_step : Step → Step → Bool
same_step (Name m) (Name n) = m == n
same_step (Name m) (Index j) = false
same_step (Index i) (Name n) = false
same_step (Index i) (Index j) = i == j

abbrev pub same_steps : List Step → List Step → Bool
same_steps [] [] = true
same_steps [] (t ∷ q) = false
same_steps (s ∷ p) [] = false
same_steps (s ∷ p) (t ∷ q) = same_step s t && same_steps p q

abbrev pub kind_digit : NodeKind → ℕ
kind_digit Head = 0
kind_digit ItsValue = 1
kind_digit End = 2
kind_digit Rest = 3

abbrev pub same_node : Node → Node → Bool
same_node a b = (kind_digit a.kind == kind_digit b.kind) && same_steps a.path.upward b.path.upward

-- one of the open nodes is this one
abbrev pub is_open : List Node → Node → Bool
is_open [] n = false
is_open (m ∷ ms) n = same_node n m || is_open ms n

-- ---- what a node answers

-- goes on with the answer of a node, if there is one
abbrev pub with_met : {A : Type 0} → Option (Result Given NodeFault) → (Given → Option (Result A NodeFault)) → Option (Result A NodeFault)
with_met None f = None
with_met (Some (Ok g)) f = f g
with_met (Some (Err e)) f = Some (Err e)

-- goes on with what was seen
abbrev pub with_look : {A B : Type 0} → Trail → Option A → (A → Option (Result B NodeFault)) → Option (Result B NodeFault)
with_look here None f = Some (Err (faults.Raised (fault_at here kinds.EndOfBytes)))
with_look here (Some a) f = f a

-- what a rule answers at a path, on these bytes, where `met` answers its nodes as far as it goes
module _ (met : Node → Option (Result Given NodeFault)) (here : Trail) (bytes : List ℕ) where
  abbrev pub rule_answer : {A : Type 0} → Rule A → Option (Result A NodeFault)
  rule_answer (Answer a) = Some (Ok a)
  rule_answer (Fail e) = Some (Err (faults.Raised (raised e here)))
  rule_answer (Ask (Of n) k) = with_met (met n) (λ g. rule_answer (k g))
  rule_answer (Ask (See r) k) = with_look here (look r bytes).seen (λ x. rule_answer (k x))

-- what a node answers while these are open, where no more nodes than this wait for one another
unfoldable pub answer_at : Description → List ℕ → ℕ → List Node → Node → Option (Result Given NodeFault)
answer_at d bytes zero opened n = None
answer_at d bytes (suc k) opened n = elim (is_open opened n) [ true ↦ Some (circle n) | false ↦ rule_answer (answer_at d bytes k (n ∷ opened)) n.path bytes (rule_of d n) ]

-- ---- what a session says

-- what a question ends in, where `met` says what is heard of its nodes as far as it goes
module _ (met : Node → Option Heard) where
  abbrev pub ends_in : {A : Type 0} → Asking A → Option (Result A Failure)
  ends_in (Answer a) = Some (Ok a)
  ends_in (Fail e) = Some (Err e)
  ends_in (Ask n k) = option_and_then (λ h. ends_in (k h)) (met n)

-- what a question ends in, where each node is asked with none open
unfoldable pub outcome_to : {A : Type 0} → Description → ℕ → List ℕ → Asking A → Option (Result A Failure)
outcome_to d depth bytes q = ends_in (answer_at d bytes depth []) q

-- the answer to a question, and to an integer that is to be written
abbrev pub question_answer : Description → ℕ → List ℕ → Question → Option Replied
question_answer d depth bytes question = option_map (λ r. said bytes (told d r ++ codes "\n")) (outcome_to d depth bytes (asking d bytes question))

abbrev pub writing_answer : Description → ℕ → List ℕ → Trail → ℤ → Option Replied
writing_answer d depth bytes path n = option_map (put_answer d bytes) (outcome_to d depth bytes (put_question d bytes path n))

-- the examples of `Dialogues` have no line `stats`, so that what it would tell doesn't matter
abbrev pub untold : Tally
untold = record { kept = 0; turns = None }

-- the answer to a line, where `stats` tells this
abbrev pub line_answer : Description → ℕ → List ℕ → Tally → List ℕ → Option Replied
line_answer d depth bytes tally line = by_asking (question_answer d depth bytes) (writing_answer d depth bytes) (Some (answer_to d bytes tally (command_of d line))) (command_of d line)

-- the lines of a session in which no memory is refused
abbrev pub spoken : List (List ℕ) → List Event
spoken lines = map (λ line. record { line = line; refused = false; tally = untold }) lines

-- the session after lines
unfoldable pub session_to : Description → ℕ → Standing → List (List ℕ) → Option Standing
session_to d depth s [] = Some s
session_to d depth s (line ∷ lines) = elim (s.ended) [
  | true ↦ Some s
  | false ↦ option_and_then (λ a. session_to d depth (answered s a true) lines) (line_answer d depth s.bytes untold line)
]
