-- Nodes in an order that an engine can keep by numbers alone, once the first of all, their root, has its answer.
use Rattle.std.specs.Prelude.{◌≡◌, ℕ, zero, suc, ◌+◌, ◌<◌, ◌≤◌, nat_le, Bool, true, false, ◌||◌, List, [], ◌∷◌, ◌++◌, Option, Some, None, IfSome}
use Rattle.std.specs.List.{list_any}
use Rattle.ksv_bytes.specs.declared.uses.Use.{Use}
use Rattle.ksv_bytes.specs.declared.uses.Change.{Change}
use Rattle.ksv_bytes.specs.Uses.{is_use_touched}
use Rattle.ksv_memo_rules.specs.Meaning.{Standing}
use Rattle.ksv_memo_rules.specs.declared.rules.Outcome.TheVariants.{Answered}
use Rattle.ksv_memo_rules.specs.Evaluation.{is_among, tells}
use Rattle.ksv_memo_rules.specs.Entry.{Entry}
use Rattle.ksv_memo_rules.specs.Right.{StandsIn, nodes_of, cost}
use Rattle.ksv_memo_rules.specs.Touched.{tree}

-- a sequence of nodes: its root, how many nodes it has at most, what is kept of each, which earlier one that names, if it isn't the root, how many of the
-- first nodes evaluation of each completes, and the calls that each takes
pub record Fold (N A : Type 0) : Type 0 where
  pub root : N
  pub size : ℕ
  pub entry : ℕ → Entry N A
  pub prior : ℕ → Option ℕ
  pub whole : ℕ → ℕ
  pub calls : ℕ → ℕ

-- the root, or the node of a number
abbrev pub named_in : {N A : Type 0} → Fold N A → Option ℕ → N
named_in f None = f.root
named_in f (Some i) = (f.entry i).node

-- there may be a number, which is one from another on
abbrev pub is_from : ℕ → Option ℕ → Bool
is_from left None = false
is_from left (Some i) = nat_le left i

-- the first entries, in order
abbrev pub first_of : {N A : Type 0} → Fold N A → ℕ → List (Entry N A)
first_of f zero = []
first_of f (suc j) = first_of f j ++ f.entry j ∷ []

-- the calls of so many nodes, from one of a number on
abbrev pub calls_from : (ℕ → ℕ) → ℕ → ℕ → ℕ
calls_from calls from zero = 0
calls_from calls from (suc k) = calls_from calls from k + calls (from + k)

-- a use that there may be
abbrev pub used_of : Option Use → List Use
used_of None = []
used_of (Some used) = used ∷ []

-- what of the first nodes a change leaves, if it leaves the root: it touches no use of these, and of each of the others one, or the entry names another of them
pub record Leaves {N A : Type 0} (f : Fold N A) (change : Change) (kept left : ℕ) : Type 0 where
  pub within : left ≤ kept
  pub stays : (j : ℕ) → j < left → list_any (is_use_touched change) (f.entry j).uses ≡ false
  pub goes : (j : ℕ) → left ≤ j → j < kept → (list_any (is_use_touched change) (f.entry j).uses || is_from left (f.prior j)) ≡ true

-- a sequence begins as another: it has its root, and so many of its first nodes
pub record BeginsAs {N A : Type 0} (f g : Fold N A) (kept : ℕ) : Type 0 where
  pub root : g.root ≡ f.root
  pub in_size : kept ≤ g.size
  pub same : (j : ℕ) → j < kept → g.entry j ≡ f.entry j

-- each node of a sequence comes once, none is the root, and each entry names one node alone: the root, or an earlier one; evaluation of a node completes no
-- later one, and all before it but one at most
pub record IsLaid {N A : Type 0} (f : Fold N A) : Type 0 where
  pub once : (i j : ℕ) → i < f.size → j < f.size → (f.entry i).node ≡ (f.entry j).node → i ≡ j
  pub apart : (j : ℕ) → j < f.size → (f.entry j).node ≡ f.root → ⊥
  pub named : (j : ℕ) → (f.entry j).asked ≡ named_in f (f.prior j) ∷ []
  pub earlier : (j : ℕ) → j < f.size → IfSome (f.prior j) (λ i. i < j)
  pub whole : (j : ℕ) → j < f.size → (f.whole j ≤ suc j) × (j ≤ suc (f.whole j))

-- so many of the first nodes are kept with their answers
abbrev pub AreTold : {N A : Type 0} → Standing N A → Fold N A → ℕ → Type 0
AreTold w f kept = (j : ℕ) → j < kept → (tells w [] (f.entry j).node).outcome ≡ Answered (f.entry j).answer

-- The first nodes of a sequence are as it says, by rules over bytes: each entry stands in for its node where the root is kept and the nodes before it;
-- each node takes the calls that are told; and evaluation of a node completes the root, and as many of the first nodes as are told.
pub record IsFold {N A : Type 0} (w : Standing N A) (f : Fold N A) (count : ℕ) : Type 0 where
  pub in_size : count ≤ f.size
  pub stands : (j : ℕ) → j < count → StandsIn w (f.root ∷ nodes_of (first_of f j)) (f.entry j)
  pub calls : (j : ℕ) → j < count → cost w (f.entry j).node ≡ f.calls j
  pub rooted : (j : ℕ) → j < count → is_among w.number (tree w (f.entry j).node) f.root ≡ true
  pub within : (i j : ℕ) → i < f.whole j → j < count → is_among w.number (tree w (f.entry j).node) (f.entry i).node ≡ true
