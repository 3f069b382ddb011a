-- Evaluation from nothing: what a node answers by the rules alone, with what it asks and uses on the way. It has no
-- table, no stack and no kept answer.
use Rattle.std.specs.Prelude.{ℕ, zero, suc, Bool, cond, List, [], ◌∷◌, ◌++◌, nat_eq, map}
use Rattle.std.specs.List.{list_any, flat_map}
use Rattle.ksv_bytes.specs.declared.uses.Use.{Use}
use Rattle.ksv_memo_rules.specs.declared.rules.Next.{Next}
use Rattle.ksv_memo_rules.specs.declared.rules.Next.TheVariants.{Need, Done}
use Rattle.ksv_memo_rules.specs.declared.rules.Outcome.{Outcome}
use Rattle.ksv_memo_rules.specs.declared.rules.Outcome.TheVariants.{Answered, Circle}
use Rattle.ksv_memo_rules.specs.Meaning.{Standing}

-- whether a node is in a list of nodes, by their numbers
abbrev pub is_among : {N : Type 0} → (N → ℕ) → List N → N → Bool
is_among number ms n = list_any (nat_eq (number n)) (map number ms)

-- the result of an evaluation: its outcome, the nodes that it asked in order, with repeats, and its uses, with
-- repeats
pub record Told (N A : Type 0) : Type 0 where
  pub outcome : Outcome N A
  pub asked : List N
  pub uses : List Use

-- a node was asked while it was open
abbrev pub only_circle : {N A : Type 0} → N → Told N A
only_circle n = record { outcome = Circle n; asked = []; uses = [] }

-- these nodes were asked and these uses made before
abbrev pub after : {N A : Type 0} → List N → List Use → Told N A → Told N A
after ms us t = record { outcome = t.outcome; asked = ms ++ t.asked; uses = us ++ t.uses }

-- goes on with the reply that an asked node gave; a circle gives none and ends the evaluation
unfoldable pub with_reply : {N A : Type 0} → (A → Told N A) → Outcome N A → Told N A
with_reply rest (Answered a) = rest a
with_reply rest (Circle c) = only_circle c

-- what follows a step
unfoldable pub with_step : {N A : Type 0} → (N → Outcome N A) → List Use → (A → Told N A) → Next N A → Told N A
with_step ask us rest (Done a) = record { outcome = Answered a; asked = []; uses = us }
with_step ask us rest (Need m) = after (m ∷ []) us (with_reply rest (ask m))

-- the result of a node from these replies on, where `ask` answers what it asks; a node that asks more often than
-- its rules allow, which the laws exclude, is a circle
unfoldable pub told : {N A : Type 0} → Standing N A → (N → Outcome N A) → N → ℕ → List A → Told N A
told w ask n zero replies = only_circle n
told w ask n (suc j) replies = with_step ask (w.added n replies) (λ a. told w ask n j (replies ++ a ∷ [])) (w.follow n replies)

-- the result of a node from nothing while the nodes of a list are open: an open node is a circle. What another node
-- asks is evaluated the same way, with that node on the list. The number bounds the depth
unfoldable pub eval : {N A : Type 0} → Standing N A → ℕ → List N → N → Told N A
eval w zero opened n = only_circle n
eval w (suc k) opened n = cond (is_among w.number opened n) (only_circle n) (told w (λ m. (eval w k (n ∷ opened) m).outcome) n (suc w.replies) [])

-- the result of a node while a list of nodes is open. Open nodes differ, so the number of nodes suffices for the
-- depth
abbrev pub tells : {N A : Type 0} → Standing N A → List N → N → Told N A
tells w opened n = eval w w.nodes opened n

-- what nodes answer while these are open
abbrev pub answering : {N A : Type 0} → Standing N A → List N → N → Outcome N A
answering w opened m = (tells w opened m).outcome

-- there is an answer
abbrev pub IsAnswered : {N A : Type 0} → Outcome N A → Type 0
IsAnswered (Answered a) = Unit {0}
IsAnswered (Circle c) = ⊥

-- the node itself, if there is an answer
abbrev pub if_answered : {N A : Type 0} → N → Outcome N A → List N
if_answered n (Answered a) = n ∷ []
if_answered n (Circle c) = []

-- the nodes that an evaluation completes, in order, with repeats: all that each asked node completes, and then the node
-- itself unless it met a circle; an open node completes nothing
unfoldable pub completed : {N A : Type 0} → Standing N A → ℕ → List N → N → List N
completed w zero opened n = []
completed w (suc k) opened n = cond (is_among w.number opened n) [] (flat_map (completed w k (n ∷ opened)) (eval w (suc k) opened n).asked ++ if_answered n (eval w (suc k) opened n).outcome)

-- the same, to any depth
abbrev pub done : {N A : Type 0} → Standing N A → List N → N → List N
done w opened n = completed w w.nodes opened n
