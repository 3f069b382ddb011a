-- What is right to keep, what a question keeps, and the turns that it takes.
use Rattle.std.specs.Prelude.{◌≡◌, ◌≢◌, ◌↔◌, ◌<◌, ◌≤◌, ◌||◌, ℕ, zero, suc, ◌+◌, ◌-◌, ◌^◌, min, length, Option, true, cond, List, [], ◌∷◌, ◌++◌, map}
use Rattle.std.specs.Prelude.{nat_eq, Contains, Any}
use Rattle.std.specs.Option.{option_map}
use Rattle.std.specs.List.{AllByRecursion, AllPairs, IsDistinct, list_any}
use Rattle.ksv_bytes.specs.declared.uses.Use.TheVariants.{Bytes}
use Rattle.ksv_bytes.specs.declared.uses.Change.{Change}
use Rattle.ksv_bytes.specs.Uses.{is_use_touched}
use Rattle.ksv_memo_rules.specs.declared.rules.Outcome.{Outcome}
use Rattle.ksv_memo_rules.specs.declared.rules.Outcome.TheVariants.{Answered}
use Rattle.ksv_memo_rules.specs.Meaning.{Standing}
use Rattle.ksv_memo_rules.specs.Evaluation.{is_among, tells}
use Rattle.ksv_memo_rules.specs.Entry.{Entry}
use Rattle.ksv_memo_rules.specs.Touched.{tree, is_touched}

-- the kept nodes
abbrev pub nodes_of : {N A : Type 0} → List (Entry N A) → List N
nodes_of es = map (λ e. e.node) es

-- this function answers each kept node with its kept answer
abbrev pub Agrees : {N A : Type 0} → List (Entry N A) → (N → Outcome N A) → Type 0
Agrees es g = AllByRecursion (λ e. g e.node ≡ Answered e.answer) es

-- no node is in a list twice
abbrev pub AreDistinct : {N A : Type 0} → Standing N A → List N → Type 0
AreDistinct w ns = IsDistinct nat_eq (map w.number ns)

-- the first list has the members of the second, each once
pub record HasEachOnce {X : Type 0} (once xs : List X) : Type 0 where
  pub distinct : AllPairs (λ a b. a ≢ b) once
  pub same : (x : X) → Contains once x ↔ Contains xs x

-- An entry stands in for its node's evaluation from nothing. It has the answer, and all that the node asked is kept. The nodes
-- that the entry names are kept, and have smaller trees. A change touches a use in the node's tree exactly if it touches one of
-- the entry's uses, or one in the tree of a node that the entry names. It names no more nodes than the node asked. It has no use
-- twice; its uses of bytes are those of the node itself, and each of its uses is made in the node's tree
pub record StandsIn {N A : Type 0} (w : Standing N A) (kept : List N) (e : Entry N A) : Type 0 where
  pub outcome : (tells w [] e.node).outcome ≡ Answered e.answer
  pub closed : AllByRecursion (λ m. is_among w.number kept m ≡ true) (tells w [] e.node).asked
  pub named : AllByRecursion (λ m. is_among w.number kept m ≡ true) e.asked
  pub lower : AllByRecursion (λ m. length (tree w m) < length (tree w e.node)) e.asked
  pub touched : (change : Change) → is_touched w change e.node ≡ (list_any (is_use_touched change) e.uses || list_any (is_touched w change) e.asked)
  pub few : length e.asked ≤ length (tells w [] e.node).asked
  pub once : AllPairs (λ a b. a ≢ b) e.uses
  pub bytes : (from to : ℕ) → Contains e.uses (Bytes from to) ↔ Contains (tells w [] e.node).uses (Bytes from to)
  pub made : AllByRecursion (λ used. Any (λ m. Contains (tells w [] m).uses used) (tree w e.node)) e.uses

-- each entry stands in for its node, and no node has two
pub record IsRight {N A : Type 0} (w : Standing N A) (es : List (Entry N A)) : Type 0 where
  pub each : AllByRecursion (StandsIn w (nodes_of es)) es
  pub once : AreDistinct w (nodes_of es)

-- a list of nodes is distinct, and has the members of another
pub record AreExactly {N A : Type 0} (w : Standing N A) (ns ms : List N) : Type 0 where
  pub once : AreDistinct w ns
  pub same : (x : N) → is_among w.number ns x ≡ is_among w.number ms x

-- a list of nodes is distinct, has all members of a second list, and only members of a third
pub record AreBetween {N A : Type 0} (w : Standing N A) (least ns most : List N) : Type 0 where
  pub once : AreDistinct w ns
  pub holds : (x : N) → is_among w.number least x ≡ true → is_among w.number ns x ≡ true
  pub within : (x : N) → is_among w.number ns x ≡ true → is_among w.number most x ≡ true

-- the nodes of the second list that aren't in the first, each once, in order
unfoldable pub fresh : {N : Type 0} → (N → ℕ) → List N → List N → List N
fresh number kept [] = []
fresh number kept (m ∷ ms) = cond (is_among number kept m) (fresh number kept ms) (m ∷ fresh number (kept ++ m ∷ []) ms)

-- the calls that a node takes from nothing: one, and one more after each reply
abbrev pub cost : {N A : Type 0} → Standing N A → N → ℕ
cost w m = length (tells w [] m).asked + 1

-- the calls of all nodes of a list
abbrev pub costs : {N A : Type 0} → Standing N A → List N → ℕ
costs w [] = 0
costs w (m ∷ ms) = cost w m + costs w ms

-- the count after this many more calls, which stops at the largest number
abbrev pub counted : ℕ → Option ℕ → Option ℕ
counted zero turns = turns
counted (suc k) turns = option_map (λ t. min (t + 1) (2 ^ 64 - 1)) (counted k turns)
