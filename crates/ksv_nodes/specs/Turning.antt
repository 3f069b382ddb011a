-- Turns: a rule runs on the replies so far, over the bytes. What it asks is answered by the replies in their order,
-- and each reading adds what it depends on to the uses.
use Rattle.std.specs.Prelude.{◌≡◌, ℕ, ◌<◌, ◌≤◌, List, [], ◌∷◌, ◌++◌, Option, Some, None, Result, Ok, Err}
use Rattle.std.specs.Borrow.{Bor}
use Rattle.ksv_basics.specs.Plan.{Answer, Fail, Ask, Ran, Need, Failed, Done, Handler, run}
use Rattle.ksv_bytes.specs.declared.uses.Use.{Use}
use Rattle.ksv_expr_value.specs.Trail.{Trail}
use Rattle.ksv_expr_value.specs.declared.fault.Fault.{Fault}
use Rattle.ksv_expr_value.specs.declared.fault.FaultKind.{FaultKind}
use Rattle.ksv_expr_value.specs.declared.fault.FaultKind.TheVariants as kinds
use Rattle.ksv_memo_rules.specs.Slots.{lent}
use Rattle.ksv_expr_value.specs.declared.value.Value.{Value}
use Rattle.ksv_nodes.specs.declared.node.Node.{Node}
use Rattle.ksv_nodes.specs.declared.given.Given.{Given}
use Rattle.ksv_nodes.specs.declared.turn.readings.Found.{Found}
use Rattle.ksv_nodes.specs.declared.turn.readings.Found.TheVariants as founds
use Rattle.ksv_nodes.specs.declared.turn.Halt.{Halt}
use Rattle.ksv_nodes.specs.declared.turn.Halt.TheVariants as halts
use Rattle.ksv_nodes.specs.Reading.{Look, look}
use Rattle.ksv_nodes.specs.declared.given.Head.{Head}
use Rattle.ksv_nodes.specs.declared.given.Ended.{Ended}
use Rattle.ksv_nodes.specs.Rule.{Query, Of, See, Reply, Raised, Here, There, Rule, in_head, in_value, in_end}

-- the path of the node, the file, the replies that are left, and the uses so far
pub record State : Type 0 where
  pub here : Trail
  pub bytes : List ℕ
  pub replies : List (Result Given Fault)
  pub uses : List Use

-- a fault of a kind at a path
abbrev pub fault_at : Trail → FaultKind → Fault
fault_at p k = record { kind = k; path = p }

-- what a reading gives; if the bytes end too early, the fault end-of-bytes
abbrev pub seen_in : {A : Type 0} → Option A → State → Ran Node Fault State A
seen_in (Some a) s = Done a s
seen_in None s = Failed (fault_at s.here kinds.EndOfBytes) s

-- a reading adds its uses
abbrev pub looked : {A : Type 0} → Look A → State → Ran Node Fault State A
looked l s = seen_in l.seen (record s { uses = s.uses ++ l.uses })

-- the reply to a node is the first of the list, which is removed; if there is none, the node is needed
abbrev pub replied : Node → List (Result Given Fault) → State → Ran Node Fault State Given
replied n [] s = Need n s
replied n (Ok g ∷ replies) s = Done g (record s { replies = replies })
replied n (Err f ∷ replies) s = Failed f (record s { replies = replies })

abbrev pub reply : (q : Query) → State → Ran Node Fault State (Reply q)
reply (Of n) s = replied n s.replies s
reply (See r) s = looked (look r s.bytes) s

-- a fault has the node's own path, unless its rule gives another
abbrev pub raised : Raised → Trail → Fault
raised (Here k) p = fault_at p k
raised (There k q) p = fault_at q k

abbrev pub turns : Handler Query Reply Raised State Node Fault
turns = record { reply = reply; raise = λ e s. raised e s.here }

-- the state before a rule has asked and seen anything
abbrev pub fresh : Trail → List ℕ → List (Result Given Fault) → State
fresh here bytes replies = record { here = here; bytes = bytes; replies = replies; uses = [] }

-- What a function returned, seen by view, is what running a rule gives, unless memory ran out.
abbrev pub Runs : {X A : Type 0} → Rule A → (X → A) → State → State → Result X Halt → Type 0
Runs rule view old new (Ok x) = run turns rule old ≡ Done (view x) new
Runs rule view old new (Err halts.Memory) = Unit {0}
Runs rule view old new (Err (halts.Need n)) = run turns rule old ≡ Need n new
Runs rule view old new (Err (halts.Fault f)) = run turns rule old ≡ Failed f new

-- the result of one reply
abbrev pub come : Result Given Fault → State → Ran Node Fault State Given
come (Ok g) s = Done g s
come (Err f) s = Failed f s

-- a reply as a head, as a value, and as an end
abbrev pub headed : Result Given Fault → Rule Head
headed (Ok g) = in_head g
headed (Err f) = Fail (There f.kind f.path)

abbrev pub valued : Result Given Fault → Rule Value
valued (Ok g) = in_value g
valued (Err f) = Fail (There f.kind f.path)

abbrev pub ended : Result Given Fault → Rule Ended
ended (Ok g) = in_end g
ended (Err f) = Fail (There f.kind f.path)

-- what a node answers, whatever its form
abbrev pub ask : Node → Rule Given
ask n = Ask (Of n) (λ g. Answer g)

-- the function took the next reply, to whatever node it is, or found none
abbrev pub TakesReply : State → State → Option (Result (Bor Given) (Bor Fault)) → Type 0
TakesReply old new (Some reply) = (n : Node) → run turns (ask n) old ≡ come (lent reply) new
TakesReply old new None = (n : Node) → run turns (ask n) old ≡ Need n new

-- the function took the reply to this node, or found none
abbrev pub RepliesWith : Node → State → State → Result (Result (Bor Given) (Bor Fault)) Halt → Type 0
RepliesWith n old new (Ok reply) = run turns (ask n) old ≡ come (lent reply) new
RepliesWith n old new (Err halts.Memory) = Unit {0}
RepliesWith n old new (Err (halts.Need m)) = run turns (ask n) old ≡ Need m new
RepliesWith n old new (Err (halts.Fault f)) = run turns (ask n) old ≡ Failed f new

-- it halted with this fault, unless memory ran out
abbrev pub IsFault : Fault → Halt → Type 0
IsFault f halts.Memory = Unit {0}
IsFault f (halts.Need n) = ⊥
IsFault f (halts.Fault e) = e ≡ f

-- a byte that was found is at a place below n, and a stream that has none ends no further on than n
abbrev pub StandsBelow : ℕ → Found → Type 0
StandsBelow n (founds.At q) = q < n
StandsBelow n (founds.Missing e) = e ≤ n
