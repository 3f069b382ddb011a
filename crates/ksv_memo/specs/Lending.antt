-- The nodes that are kept by numbers alone and have slots too. Only the table's own contracts use it.
use Rattle.std.specs.Prelude.{◌≡◌, ◌≢◌, ℕ, Bool, true, false, ◌&&◌, nat_le, List, [], ◌∷◌, Some, Contains}
use Rattle.std.specs.List.{AllByRecursion, AllPairs, list_any}
use Rattle.ksv_memo_rules.specs.declared.replies.Slot.{Slot}
use Rattle.ksv_memo.specs.declared.lendings.Lending.{Lending}
use Rattle.ksv_memo.specs.Layout.{IsKept, node_at}

-- the nodes that have slots, and the slots that were found last
pub record Listed (N : Type 0) : Type 0 where
  pub items : List (Lending N)
  pub found : List ℕ

-- all elements but the last
abbrev pub dropped_last : {X : Type 0} → List X → List X
dropped_last [] = []
dropped_last (x ∷ []) = []
dropped_last (x ∷ y ∷ xs) = x ∷ dropped_last (y ∷ xs)

-- whether a node is one of those from a number on
abbrev pub is_lent_from : {N : Type 0} → (N → N → Bool) → ℕ → List (Lending N) → N → Bool
is_lent_from eq left lendings n = list_any (λ l. nat_le left l.place && eq n l.node) lendings

-- the node of each is kept in a slot
abbrev pub AreAllKept : {N V F : Type 0} → List (N × Slot V F) → List (Lending N) → Type 0
AreAllKept ps lendings = AllByRecursion (λ l. (i : ℕ) × IsKept ps i × (node_at ps i ≡ Some l.node)) lendings

-- these are two nodes
abbrev pub AreTwo : {N : Type 0} → (N → N → Bool) → Lending N → Lending N → Type 0
AreTwo eq a b = eq a.node b.node ≡ false

-- these are the numbers of the slots of kept nodes that pass a test, each once
pub record AreSlotsOf {N V F : Type 0} (test : N → Bool) (ps : List (N × Slot V F)) (found : List ℕ) : Type 0 where
  pub each : (i : ℕ) → Contains found i → IsKept ps i × ((n : N) → node_at ps i ≡ Some n → test n ≡ true)
  pub all : (i : ℕ) (n : N) → IsKept ps i → node_at ps i ≡ Some n → test n ≡ true → Contains found i
  pub apart : AllPairs (λ (a b : ℕ). a ≢ b) found
