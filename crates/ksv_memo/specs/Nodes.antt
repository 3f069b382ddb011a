-- The table of nodes, as the machine sees it.
use Rattle.std.specs.Prelude.{◌≡◌, ℕ, ◌+◌, ◌-◌, ◌^◌, min, Bool, true, false, List, [], ◌∷◌, ◌++◌, ◌⊎◌, Option, Some, None, Result}
use Rattle.std.specs.List.{list_any}
use Rattle.ksv_bytes.specs.declared.uses.Use.{Use}
use Rattle.ksv_memo.specs.declared.table.Asked.{Asked}
use Rattle.ksv_memo.specs.declared.table.Asked.TheVariants.{Kept, Opened, Circle}
use Rattle.ksv_memo_rules.specs.Entry.{Entry}
use Rattle.ksv_memo.specs.Open.{Open, newly, with_uses, heard}
use Rattle.ksv_memo_rules.specs.declared.rules.Next.{Next}
use Rattle.ksv_memo_rules.specs.Meaning.{Standing}
use Rattle.ksv_memo_rules.specs.Right.{HasEachOnce}
use Rattle.ksv_memo_links.specs.Links.{Linked}
use Rattle.ksv_memo_rules.specs.declared.replies.Slot.{Slot}
use Rattle.ksv_memo_rules.specs.declared.rules.Outcome.{Outcome}
use Rattle.ksv_memo_rules.specs.declared.rules.Outcome.TheVariants.{Answered, Circle as CircleOf}
use Rattle.ksv_memo.specs.declared.frames.Frames.{Frames}
use Rattle.ksv_memo.specs.declared.slots.Known.TheVariants.{Kept as KeptAt}
use Rattle.ksv_memo.specs.Layout.{IsOneOf, entries_of, opens_of}
use Rattle.ksv_memo.specs.Moves.{Knows}

-- the kept nodes, in the order of their slots, and the open ones, from the last opened to the first
pub record Nodes (N A : Type 0) : Type 0 where
  pub kept : List (Entry N A)
  pub opened : List (Open N A)

-- the table: its nodes, and the looks so far, which stop at 2^64 - 1
pub record Tabled (N A : Type 0) : Type 0 where
  pub kept : List (Entry N A)
  pub opened : List (Open N A)
  pub looks : ℕ

-- the nodes of the table
abbrev pub nodes : {N A : Type 0} → Tabled N A → Nodes N A
nodes t = record { kept = t.kept; opened = t.opened }

-- the looks at links and slots, as they are counted
abbrev pub looks_of : ℕ → ℕ → ℕ
looks_of links slots = min (links + slots) (2 ^ 64 - 1)

-- the nodes of slots, with these links and frames
abbrev pub nodes_with : {N V F : Type 0} → List (N × Slot V F) → Linked → Frames N → Nodes N (Result V F)
nodes_with ps l frames = record { kept = entries_of ps l; opened = opens_of ps frames }

-- a node is kept with this entry
pub record IsEntry {N A : Type 0} (eq : N → N → Bool) (es : List (Entry N A)) (n : N) (e : Entry N A) : Type 0 where
  pub there : IsOneOf es e
  pub passes : eq n e.node ≡ true

-- a node is kept
abbrev pub KeepsNode : {N A : Type 0} → (N → N → Bool) → List (Entry N A) → N → Type 0
KeepsNode {N} {A} eq es n = (e : Entry N A) × IsEntry eq es n e

-- a node is not kept
abbrev pub HasNoEntry : {N A : Type 0} → (N → N → Bool) → List (Entry N A) → N → Type 0
HasNoEntry eq es n = list_any (λ e. eq n e.node) es ≡ false

-- a node is kept with this answer
abbrev pub HasEntry : {N A : Type 0} → (N → N → Bool) → List (Entry N A) → N → A → Type 0
HasEntry {N} {A} eq es n a = (e : Entry N A) × IsEntry eq es n e × (e.answer ≡ a)

-- the last open node asked for a kept node, and got its answer
pub record Replies {N A : Type 0} (eq : N → N → Bool) (n : N) (old new : Nodes N A) : Type 0 where
  pub entry : Entry N A
  pub is : IsEntry eq old.kept n entry
  pub kept : new.kept ≡ old.kept
  pub opened : new.opened ≡ heard entry.node entry.answer old.opened

-- the last open node asked for a node that is neither kept nor open, and that is open now
pub record Opens {N A : Type 0} (eq : N → N → Bool) (n : N) (old new : Nodes N A) : Type 0 where
  pub node : N
  pub passes : eq n node ≡ true
  pub out : HasNoEntry eq old.kept n
  pub free : list_any (λ o. eq n o.node) old.opened ≡ false
  pub kept : new.kept ≡ old.kept
  pub opened : new.opened ≡ newly node ∷ old.opened

-- the last open node asked for an open node
pub record Circles {N A : Type 0} (eq : N → N → Bool) (n m : N) (old new : Nodes N A) : Type 0 where
  pub same : m ≡ n
  pub waits : list_any (λ o. eq n o.node) old.opened ≡ true
  pub kept : new.kept ≡ old.kept
  pub opened : new.opened ≡ old.opened

-- what came of looking for a node
abbrev pub Seeks : {N V F : Type 0} → (N → N → Bool) → N → List (N × Slot V F) → Nodes N (Result V F) → Nodes N (Result V F) → Asked N → Type 0
Seeks eq n ps old new (Kept i) = Knows eq ps n (KeptAt i) × (new ≡ old)
Seeks eq n ps old new Opened = Opens eq n old new
Seeks eq n ps old new (Circle m) = Circles eq n m old new

-- what came of asking for a node: it is kept or opened, or it is open
abbrev pub Asks : {N A : Type 0} → (N → N → Bool) → N → Nodes N A → Nodes N A → Option N → Type 0
Asks eq n old new None = Replies eq n old new ⊎ Opens eq n old new
Asks eq n old new (Some m) = Circles eq n m old new

-- what came of a question for a node: it is opened, or it is kept, or it is open
abbrev pub Starts : {N A : Type 0} → (N → N → Bool) → N → Nodes N A → Nodes N A → Option (Outcome N A) → Type 0
Starts eq n old new None = Opens eq n old new
Starts eq n old new (Some (Answered a)) = HasEntry eq old.kept n a × (new ≡ old)
Starts eq n old new (Some (CircleOf m)) = Circles eq n m old new

-- an open node as an entry, with its answer, and its uses each once
abbrev pub kept_of : {N A : Type 0} → Open N A → A → List Use → Entry N A
kept_of o a once = record { node = o.node; answer = a; asked = o.asked; uses = once }

-- an open node was kept with its answer, somewhere among the kept ones
pub record Keeps {N A : Type 0} (o : Open N A) (a : A) (before after : List (Entry N A)) : Type 0 where
  pub once : List Use
  pub each : HasEachOnce once o.uses
  pub front : List (Entry N A)
  pub back : List (Entry N A)
  pub was : before ≡ front ++ back
  pub kept : after ≡ front ++ kept_of o a once ∷ back

-- an entry was put somewhere among others
pub record IsPut {X : Type 0} (x : X) (before after : List X) : Type 0 where
  pub front : List X
  pub back : List X
  pub was : before ≡ front ++ back
  pub now : after ≡ front ++ x ∷ back

-- an entry was put among others, or they are the same
abbrev pub MayPut : {X : Type 0} → X → List X → List X → Type 0
MayPut x before after = (after ≡ before) ⊎ IsPut x before after

-- whether there is an element
abbrev pub is_there : {X : Type 0} → List X → Bool
is_there [] = false
is_there (x ∷ xs) = true

-- the last open node was run: this is its next step, and its call's uses were added
abbrev pub Steps : {N A : Type 0} → Standing N A → List (Open N A) → List (Open N A) → Next N A → Type 0
Steps w [] now s = ⊥
Steps w (o ∷ st) now s = (s ≡ w.follow o.node o.replies) × (now ≡ with_uses o (w.added o.node o.replies) ∷ st)

-- the last open node was kept with its answer, which the one below got, if there is one
abbrev pub Closes : {N A : Type 0} → A → List (Open N A) → Nodes N A → Nodes N A → Type 0
Closes a [] old new = ⊥
Closes a (o ∷ st) old new = Keeps o a old.kept new.kept × (new.opened ≡ heard o.node a st)

-- the last open node isn't open any more, and the one below got this answer, if there is one
abbrev pub IsHeard : {N A : Type 0} → A → List (Open N A) → List (Open N A) → Type 0
IsHeard a [] now = ⊥
IsHeard a (o ∷ st) now = now ≡ heard o.node a st

-- after a refused memory the last open node was kept, or nothing was
abbrev pub MayKeep : {N A : Type 0} → A → List (Open N A) → List (Entry N A) → List (Entry N A) → Type 0
MayKeep a [] before after = ⊥
MayKeep a (o ∷ st) before after = (after ≡ before) ⊎ Keeps o a before after

-- the same nodes are open, or all but the last
abbrev pub MayLose : {N A : Type 0} → List (Open N A) → List (Open N A) → Type 0
MayLose [] now = now ≡ []
MayLose (o ∷ st) now = (now ≡ o ∷ st) ⊎ (now ≡ st)

-- the first element was taken, if there was one
abbrev pub TakesFirst : {X : Type 0} → Bool → List X → List X → Type 0
TakesFirst {X} true xs ys = (x : X) × (xs ≡ x ∷ ys)
TakesFirst {X} false xs ys = (xs ≡ []) × (ys ≡ [])
