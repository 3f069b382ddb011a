-- Words that only private contracts cite: a reader of the public contracts may skip this file.
use Rattle.std.specs.Prelude.{◌≡◌, ℕ, List, [], ◌∷◌, Result, Ok, Err}
use Rattle.ksv_basics.specs.Plan.{Answer, Fail}
use Rattle.ksv_desc.specs.Description.{Description}
use Rattle.ksv_desc.specs.Whole.{plain_pieces}
use Rattle.ksv_expr_value.specs.declared.fault.Fault.{Fault}
use Rattle.ksv_memo_rules.specs.Entry.{Memo}
use Rattle.ksv_memo_rules.specs.Right.{IsRight}
use Rattle.ksv_memo.specs.declared.engine.Answer.{Answer as EngineAnswer}
use Rattle.ksv_memo.specs.declared.engine.Answer.TheVariants as answers
use Rattle.ksv_nodes.specs.declared.given.Given.{Given}
use Rattle.ksv_nodes.specs.declared.node.Node.{Node}
use Rattle.ksv_nodes.specs.declared.node_fault.NodeFault.{NodeFault}
use Rattle.ksv_nodes.specs.declared.node_fault.NodeFault.TheVariants as faults
use Rattle.ksv_rule_meaning.specs.FromNothing.{circle}
use Rattle.ksv_questions.specs.Answers.{answered, asks, failure_told, outcome}
use Rattle.ksv_questions.specs.Asking.{Asking, Faulty, Heard, Refused}
use Rattle.ksv_questions.specs.Dumps.{Found, Part}
use Rattle.ksv_questions.specs.Engines.{HasAsked, HasAskedSome, Ruled, world}
use Rattle.ksv_questions.specs.declared.asking.Untold.{Untold}
use Rattle.ksv_questions.specs.declared.asking.Untold.TheVariants as untolds
use Rattle.ksv_questions.specs.declared.dump.Dumped.{Dumped}
use Rattle.ksv_questions.specs.declared.file.File.{File}
use Rattle.ksv_texts.specs.declared.refusal.Refusal.{Refusal}
use Rattle.serde_json.specs.View.{view}
use Rattle.serde_json.specs.declared.value.Value.{Value as Json}

-- what an engine answers of a node: a node that was asked while it was open is the fault circle at its path
abbrev pub plain_answer : EngineAnswer Node Given Fault → Heard
plain_answer (answers.Value given) = Ok given
plain_answer (answers.Fault f) = Err (faults.Raised f)
plain_answer (answers.Circle n) = circle n

-- what was returned, seen by view, is what a question that asks nothing ends in, unless memory ran out
abbrev pub Settles : {X A : Type 0} → Asking A → (X → A) → Result X Untold → Type 0
Settles q view (Ok x) = q ≡ Answer (view x)
Settles q view (Err untolds.NoMemory) = Unit {0}
Settles q view (Err (untolds.Fault f)) = q ≡ Fail (Faulty f)
Settles q view (Err (untolds.Refused r)) = q ≡ Fail (Refused r)

-- An engine was asked what a question asks, and what was returned, seen by view, is its result, unless memory ran out.
abbrev pub Runs : {X A : Type 0} → Description → List ℕ → Asking A → (X → A) → Memo Node Ruled → Memo Node Ruled → Result X Untold → Type 0
Runs d b q view old new (Ok x) = (outcome d b q ≡ Ok (view x)) × HasAsked (world d b) (asks d b q) old new
Runs d b q view old new (Err untolds.NoMemory) = HasAskedSome (world d b) (asks d b q) old new
Runs d b q view old new (Err (untolds.Fault f)) = (outcome d b q ≡ Err (Faulty f)) × HasAsked (world d b) (asks d b q) old new
Runs d b q view old new (Err (untolds.Refused r)) = (outcome d b q ≡ Err (Refused r)) × HasAsked (world d b) (asks d b q) old new

-- ---- what is heard of a node

-- this is what was heard
abbrev pub IsHeard : Heard → Result Given Untold → Type 0
IsHeard h (Ok g) = h ≡ Ok g
IsHeard h (Err untolds.NoMemory) = ⊥
IsHeard h (Err (untolds.Fault f)) = h ≡ Err f
IsHeard h (Err (untolds.Refused r)) = ⊥

-- an engine was asked a node, and what was returned is heard of it, unless memory ran out
abbrev pub Hears : Description → List ℕ → Node → Memo Node Ruled → Memo Node Ruled → Result Given Untold → Type 0
Hears d b n old new (Ok g) = (answered d b n ≡ Ok g) × HasAsked (world d b) (n ∷ []) old new
Hears d b n old new (Err untolds.NoMemory) = HasAskedSome (world d b) (n ∷ []) old new
Hears d b n old new (Err (untolds.Fault f)) = (answered d b n ≡ Err f) × HasAsked (world d b) (n ∷ []) old new
Hears d b n old new (Err (untolds.Refused r)) = ⊥

-- what was returned is what a question ends in that asks nothing after this was heard, unless memory ran out
abbrev pub SettlesHeard : {X A : Type 0} → (Heard → Asking A) → (X → A) → Result Given Untold → Result X Untold → Type 0
SettlesHeard q view (Ok g) r = Settles (q (Ok g)) view r
SettlesHeard q view (Err untolds.NoMemory) r = r ≡ Err untolds.NoMemory
SettlesHeard q view (Err (untolds.Fault f)) r = Settles (q (Err f)) view r
SettlesHeard q view (Err (untolds.Refused refusal)) r = r ≡ Err (untolds.Refused refusal)

-- ---- a file under its description

abbrev pub desc_of : {N : Type 0} → File N → Description
desc_of f = plain_pieces f.described.now.desc

abbrev pub bytes_of : {N : Type 0} → File N → List ℕ
bytes_of f = f.buffer.now

-- an engine is right for it
abbrev pub IsRightFor : {N : Type 0} → File N → Memo Node Ruled → Type 0
IsRightFor f engine = IsRight (world (desc_of f) (bytes_of f)) engine.kept

-- an engine was asked what a question about it asks; the question may depend on the description and the bytes
abbrev pub RunsOn : {N X A : Type 0} → File N → (Description → List ℕ → Asking A) → (X → A) → Memo Node Ruled → Memo Node Ruled → Result X Untold → Type 0
RunsOn f q view old new r = Runs (desc_of f) (bytes_of f) (q (desc_of f) (bytes_of f)) view old new r

-- ---- dumps

-- what was written, and how many parts may still begin
abbrev pub dumped : Dumped → Part
dumped x = record { json = view x.json; left = x.left }

-- what is found, or what is written in its place
abbrev pub found_of : {X : Type 0} → Result X Json → Found X
found_of (Ok x) = Ok x
found_of (Err json) = Err (view json)

-- the fault that prevents an answer is this one, unless memory ran out
abbrev pub IsFault : NodeFault → Untold → Type 0
IsFault f untolds.NoMemory = Unit {0}
IsFault f (untolds.Fault e) = e ≡ f
IsFault f (untolds.Refused r) = ⊥

-- this is told of why a question fails, unless memory ran out
abbrev pub Tells : Description → Untold → Result (List ℕ) Refusal → Type 0
Tells d untolds.NoMemory told = ⊥
Tells d (untolds.Fault f) told = told ≡ failure_told d (Faulty f)
Tells d (untolds.Refused r) told = told ≡ failure_told d (Refused r)
