-- What is kept across the lines of a session: a fold beside that of replies. It speaks of evaluation from nothing alone, and names nothing
-- that an engine stores.
use Rattle.std.specs.Prelude.{◌≡◌, ℕ, Bool, true, false, List, [], length, map, nat_eq, Option, Some, None, Result, Ok, Err}
use Rattle.std.specs.List.{AllByRecursion, IsDistinct}
use Rattle.ksv_bytes.specs.Edits.{append, delete, insert, overwrite}
use Rattle.ksv_bytes.specs.declared.edit.EditRefusal.{EditRefusal}
use Rattle.ksv_bytes.specs.declared.uses.Change.{Change}
use Rattle.ksv_bytes.specs.declared.uses.Change.TheVariants as changes
use Rattle.ksv_desc.specs.Description.{Description}
use Rattle.ksv_rule_meaning.specs.Kept.{kept_after, kept_with, turns_of}
use Rattle.ksv_memo_rules.specs.Evaluation.{is_among}
use Rattle.ksv_nodes.specs.Numbers.{node_number}
use Rattle.ksv_nodes.specs.declared.node.Node.{Node}
use Rattle.ksv_questions.specs.Answers.{asking, asks, outcome}
use Rattle.ksv_questions.specs.Asking.{Failure}
use Rattle.ksv_questions.specs.Writing.{Overwrite, put_question}
use Rattle.ksv_rule_meaning.specs.FromNothing.{asks as asks_of_node}
use Rattle.ksv_session.specs.Explored.{Explored}
use Rattle.ksv_commands.specs.declared.command.Command.{Command}
use Rattle.ksv_commands.specs.declared.command.Command.TheVariants.{App, Ask, Blank, Bytes, Del, Ins, Put, Quit, Refused, Set, Size, Stats}

-- the kept nodes, and the turns of the last question, where they are known
pub record Memory : Type 0 where
  pub kept : List Node
  pub turns : Option ℕ

-- before the first line
abbrev pub nothing_kept : Memory
nothing_kept = record { kept = []; turns = Some 0 }

-- after a question that asks these nodes
abbrev pub after_asking : Description → List ℕ → List Node → Memory → Memory
after_asking d b ns m = record { kept = kept_with d b m.kept ns; turns = turns_of d b m.kept ns }

-- after an edit that was tried
abbrev pub after_edit : Description → List ℕ → Change → Result (List ℕ) EditRefusal → Memory → Memory
after_edit d b change (Ok edited) m = record { kept = kept_after d b change m.kept; turns = m.turns }
after_edit d b change (Err refusal) m = m

-- after a `put` that has asked
abbrev pub after_put : Description → List ℕ → Result Overwrite Failure → Memory → Memory
after_put d b (Ok o) m = after_edit d b (changes.Overwrite o.at (length o.bytes)) (overwrite b o.at o.bytes) m
after_put d b (Err e) m = m

-- after a command that wasn't refused memory
abbrev pub memory_after : Description → List ℕ → Command → Memory → Memory
memory_after d b Blank m = m
memory_after d b (Refused refusal) m = m
memory_after d b (Ask question) m = after_asking d b (asks d b (asking d b question)) m
memory_after d b (Put path n) m = after_put d b (outcome d b (put_question d b path n)) (after_asking d b (asks d b (put_question d b path n)) m)
memory_after d b (Set at bytes) m = after_edit d b (changes.Overwrite at (length bytes)) (overwrite b at bytes) m
memory_after d b (Ins at bytes) m = after_edit d b (changes.Insert at (length bytes)) (insert b at bytes) m
memory_after d b (Del at count) m = after_edit d b (changes.Delete at count) (delete b at count) m
memory_after d b (App bytes) m = after_edit d b changes.Append (append b bytes) m
memory_after d b (Bytes at count) m = m
memory_after d b Size m = m
memory_after d b Stats m = m
memory_after d b Quit m = m

-- no node is in a list twice
abbrev pub IsEachOnce : List Node → Type 0
IsEachOnce ns = IsDistinct nat_eq (map node_number ns)

-- two lists have the same nodes, each once
pub record AreTheSame (ns ms : List Node) : Type 0 where
  pub once : IsEachOnce ns
  pub each : IsEachOnce ms
  pub same : (n : Node) → is_among node_number ns n ≡ is_among node_number ms n
  pub size : length ns ≡ length ms

-- a session keeps just these nodes, and tells these turns
pub record Holds (s : Explored) (m : Memory) : Type 0 where
  pub kept : AreTheSame s.kept m.kept
  pub turns : s.turns ≡ m.turns

-- After a question that was refused memory: the session keeps what it kept, and of what the question would have kept some, with all nodes
-- that those ask. Turns aren't told until the next question. The fold goes on from what is kept then.
pub record HoldsSome (d : Description) (b : List ℕ) (ns : List Node) (m : Memory) (s : Explored) : Type 0 where
  pub once : IsEachOnce s.kept
  pub holds : (n : Node) → is_among node_number m.kept n ≡ true → is_among node_number s.kept n ≡ true
  pub within : (n : Node) → is_among node_number s.kept n ≡ true → is_among node_number (kept_with d b m.kept ns) n ≡ true
  pub closed : AllByRecursion (λ n. AllByRecursion (λ a. is_among node_number s.kept a ≡ true) (asks_of_node d b [] n)) s.kept
  pub turns : s.turns ≡ None

-- After a command that was refused memory. One that asks nothing leaves all as it was.
abbrev pub LeftBy : Description → List ℕ → Command → Memory → Explored → Type 0
LeftBy d b (Ask question) m s = HoldsSome d b (asks d b (asking d b question)) m s
LeftBy d b (Put path n) m s = HoldsSome d b (asks d b (put_question d b path n)) m s
LeftBy d b _ m s = Holds s m

-- After a command, whether it was refused memory or not.
abbrev pub Remembers : Description → List ℕ → Command → Bool → Memory → Explored → Type 0
Remembers d b command false m s = Holds s (memory_after d b command m)
Remembers d b command true m s = LeftBy d b command m s
