-- What evaluating a node from nothing yields, to a given depth, so that it computes: all at once what it answers, which nodes it asks,
-- what its readings rest on, whether it meets a circle, and which nodes it completes. The definitions of these go over a rule once for
-- each, and as deep as there are nodes. Where the depth doesn't suffice there is nothing; where there is something, it is what these
-- definitions say (proofs/Walks), and so is what is kept by it (proofs/Stats).
use Rattle.std.specs.Prelude.{ℕ, zero, suc, ◌+◌, ◌-◌, ◌^◌, min, ◌||◌, Bool, true, false, List, [], ◌∷◌, ◌++◌, length, if◌then◌else◌, Option, Some, None, option_map, option_and_then, Result, Ok, Err}
use Rattle.std.specs.List.{list_any}
use Rattle.ksv_basics.specs.Plan.{Answer, Fail, Ask}
use Rattle.ksv_bytes.specs.Edits.{append, delete, insert, overwrite}
use Rattle.ksv_bytes.specs.declared.edit.EditRefusal.{EditRefusal}
use Rattle.ksv_bytes.specs.declared.uses.Change.{Change}
use Rattle.ksv_bytes.specs.declared.uses.Change.TheVariants as changes
use Rattle.ksv_bytes.specs.declared.uses.Use.{Use}
use Rattle.ksv_commands.specs.declared.command.Command.{Command}
use Rattle.ksv_commands.specs.declared.command.Command.TheVariants as commands
use Rattle.ksv_desc.specs.Description.{Description}
use Rattle.ksv_expr_value.specs.Trail.{Trail}
use Rattle.ksv_expr_value.specs.declared.fault.FaultKind.TheVariants as kinds
use Rattle.ksv_bytes.specs.Uses.{is_use_touched}
use Rattle.ksv_nodes.specs.Reading.{look}
use Rattle.ksv_nodes.specs.Rule.{Rule, Of, See}
use Rattle.ksv_nodes.specs.Turning.{fault_at, raised}
use Rattle.ksv_nodes.specs.declared.given.Given.{Given}
use Rattle.ksv_nodes.specs.declared.node.Node.{Node}
use Rattle.ksv_nodes.specs.declared.node_fault.NodeFault.{NodeFault}
use Rattle.ksv_nodes.specs.declared.node_fault.NodeFault.TheVariants as faults
use Rattle.ksv_questions.specs.Answers.{asking}
use Rattle.ksv_questions.specs.Asking.{Asking, Failure}
use Rattle.ksv_rule_meaning.specs.Completed.{is_circle}
use Rattle.ksv_rule_meaning.specs.FromNothing.{circle}
use Rattle.ksv_rule_meaning.specs.Meaning.{rule_of}
use Rattle.ksv_session.specs.Kept.{Memory}
use Rattle.ksv_examples.specs.Depth.{is_open}

-- what an evaluation that ends in an A, or fails by an E, yields
pub record Walk (A E : Type 0) : Type 0 where
  pub answer : Result A E
  pub asks : List Node
  pub uses : List Use
  pub circle : Bool
  pub completed : List Node

abbrev pub ended : {A E : Type 0} → Result A E → Walk A E
ended r = record { answer = r; asks = []; uses = []; circle = false; completed = [] }

-- a node was asked before
abbrev pub behind_node : {A E B F : Type 0} → Node → Walk B F → Walk A E → Walk A E
behind_node n w rest = record { answer = rest.answer; asks = n ∷ rest.asks; uses = rest.uses; circle = w.circle || rest.circle; completed = w.completed ++ rest.completed }

-- bytes were read before
abbrev pub behind_look : {A E : Type 0} → List Use → Walk A E → Walk A E
behind_look us rest = record { answer = rest.answer; asks = rest.asks; uses = us ++ rest.uses; circle = rest.circle; completed = rest.completed }

-- ---- a node

-- goes on with the answer of a node; its fault is the rule's
abbrev pub with_answer : {A : Type 0} → Node → Walk Given NodeFault → Result Given NodeFault → (Given → Option (Walk A NodeFault)) → Option (Walk A NodeFault)
with_answer n w (Ok g) f = option_map (behind_node n w) (f g)
with_answer n w (Err e) f = Some (behind_node n w (ended (Err e)))

abbrev pub with_walk : {A : Type 0} → Node → Option (Walk Given NodeFault) → (Given → Option (Walk A NodeFault)) → Option (Walk A NodeFault)
with_walk n None f = None
with_walk n (Some w) f = with_answer n w w.answer f

-- goes on with what was seen
abbrev pub with_sight : {A B : Type 0} → Trail → List Use → Option A → (A → Option (Walk B NodeFault)) → Option (Walk B NodeFault)
with_sight here us None f = Some (behind_look us (ended (Err (faults.Raised (fault_at here kinds.EndOfBytes)))))
with_sight here us (Some a) f = option_map (behind_look us) (f a)

-- what running a rule yields at a path, on these bytes, where `met` has what its nodes yield
module _ (met : Node → Option (Walk Given NodeFault)) (here : Trail) (bytes : List ℕ) where
  abbrev pub rule_walk : {A : Type 0} → Rule A → Option (Walk A NodeFault)
  rule_walk (Answer a) = Some (ended (Ok a))
  rule_walk (Fail e) = Some (ended (Err (faults.Raised (raised e here))))
  rule_walk (Ask (Of n) k) = with_walk n (met n) (λ g. rule_walk (k g))
  rule_walk (Ask (See r) k) = with_sight here (look r bytes).uses (look r bytes).seen (λ x. rule_walk (k x))

-- an open node is a circle, and completes nothing
abbrev pub open_walk : Node → Walk Given NodeFault
open_walk n = record { answer = circle n; asks = []; uses = []; circle = true; completed = [] }

-- a node is completed after all that it asks, unless its answer is a circle
abbrev pub closed : Node → Walk Given NodeFault → Walk Given NodeFault
closed n w = record {
  answer = w.answer;
  asks = w.asks;
  uses = w.uses;
  circle = is_circle w.answer;
  completed = w.completed ++ (if is_circle w.answer then [] else n ∷ []);
}

-- a node while these are open, where no more nodes than this wait for one another
unfoldable pub walk_at : Description → List ℕ → ℕ → List Node → Node → Option (Walk Given NodeFault)
walk_at d bytes zero opened n = None
walk_at d bytes (suc k) opened n = elim (is_open opened n) [ true ↦ Some (open_walk n) | false ↦ option_map (closed n) (rule_walk (walk_at d bytes k (n ∷ opened)) n.path bytes (rule_of d n)) ]

-- ---- a question

abbrev pub with_heard : {A : Type 0} → Node → Option (Walk Given NodeFault) → (Result Given NodeFault → Option (Walk A Failure)) → Option (Walk A Failure)
with_heard n None f = None
with_heard n (Some w) f = option_map (behind_node n w) (f w.answer)

module _ (met : Node → Option (Walk Given NodeFault)) where
  abbrev pub question_walk : {A : Type 0} → Asking A → Option (Walk A Failure)
  question_walk (Answer a) = Some (ended (Ok a))
  question_walk (Fail e) = Some (ended (Err e))
  question_walk (Ask n k) = with_heard n (met n) (λ h. question_walk (k h))

-- ---- what is kept

-- the nodes of the second list that aren't in the first, each once, in order
abbrev pub new_nodes : List Node → List Node → List Node
new_nodes kept [] = []
new_nodes kept (m ∷ ms) = elim (is_open kept m) [ true ↦ new_nodes kept ms | false ↦ m ∷ new_nodes (kept ++ m ∷ []) ms ]

module _ (d : Description) (depth : ℕ) (bytes : List ℕ) where
  -- the calls of these nodes, and this many more
  abbrev pub calls_to : ℕ → List Node → Option ℕ
  calls_to count [] = Some count
  calls_to count (n ∷ ns) = option_and_then (λ w. calls_to (count + (length w.asks + 1)) ns) (walk_at d bytes depth [] n)

  -- the turns of a question that evaluates these nodes, if it met no circle
  abbrev pub turns_to : Bool → List Node → Option (Option ℕ)
  turns_to true ns = Some None
  turns_to false ns = option_map (λ count. Some (min count (2 ^ 64 - 1))) (calls_to 0 ns)

  -- after a question
  abbrev pub memory_asked : {A : Type 0} → Memory → Walk A Failure → Option Memory
  memory_asked m w = option_map (λ turns. record { kept = m.kept ++ new_nodes m.kept w.completed; turns = turns }) (turns_to w.circle (new_nodes m.kept w.completed))

  -- whether a change touches what one of these nodes rests on
  abbrev pub touches_to : Change → List Node → Option Bool
  touches_to change [] = Some false
  touches_to change (n ∷ ns) = option_and_then (λ w. elim (list_any (is_use_touched change) w.uses) [ true ↦ Some true | false ↦ touches_to change ns ]) (walk_at d bytes depth [] n)

  -- whether it touches what a node, or a node that it completes, rests on
  abbrev pub touched_to : Change → Node → Option Bool
  touched_to change n = option_and_then (λ w. touches_to change w.completed) (walk_at d bytes depth [] n)

  -- the nodes of a list that a change leaves
  abbrev pub kept_to : Change → List Node → Option (List Node)
  kept_to change [] = Some []
  kept_to change (n ∷ ns) = option_and_then (λ touched. option_map (λ rest. if touched then rest else n ∷ rest) (kept_to change ns)) (touched_to change n)

  -- after an edit that was tried
  abbrev pub memory_edited : Change → Result (List ℕ) EditRefusal → Memory → Option Memory
  memory_edited change (Ok edited) m = option_map (λ kept. record { kept = kept; turns = m.turns }) (kept_to change m.kept)
  memory_edited change (Err refusal) m = Some m

  -- after a command; a `put` isn't followed here
  abbrev pub memory_to : Command → Memory → Option Memory
  memory_to (commands.Ask question) m = option_and_then (memory_asked m) (question_walk (walk_at d bytes depth []) (asking d bytes question))
  memory_to (commands.Put path n) m = None
  memory_to (commands.Set at new) m = memory_edited (changes.Overwrite at (length new)) (overwrite bytes at new) m
  memory_to (commands.Ins at new) m = memory_edited (changes.Insert at (length new)) (insert bytes at new) m
  memory_to (commands.Del at count) m = memory_edited (changes.Delete at count) (delete bytes at count) m
  memory_to (commands.App new) m = memory_edited changes.Append (append bytes new) m
  memory_to commands.Blank m = Some m
  memory_to (commands.Refused refusal) m = Some m
  memory_to (commands.Bytes at count) m = Some m
  memory_to commands.Size m = Some m
  memory_to commands.Stats m = Some m
  memory_to commands.Quit m = Some m
