-- What is read of a part of a tree: its faults, the names after dots in its expressions, and what it states, with names
-- that have no numbers yet. Where something is missing it states nothing; then it has a fault.
use Rattle.std.specs.Prelude.{ℕ, ◌+◌, List, [], ◌∷◌, ◌++◌, Option, Some, None, option_map, option_and_then}
use Rattle.std.specs.Option.{option_map_or}
use Rattle.ksv_yaml_tree.specs.Tree.{Pair, text_of, mapping_of}
use Rattle.ksv_schema.specs.Faults.{Fault, fault, missing_key, bad_value}

pub record Reading (A : Type 0) : Type 0 where
  pub faults : List Fault
  pub words : List (List ℕ)
  pub value : Option A

-- something without faults, and nothing for one fault
abbrev pub gives : {A : Type 0} → A → Reading A
gives x = record { faults = []; words = []; value = Some x }

abbrev pub wrong : {A : Type 0} → ℕ → ℕ → Reading A
wrong line number = record { faults = fault line number; words = []; value = None }

-- what there is, or a fault
abbrev pub found : {A : Type 0} → ℕ → ℕ → Option A → Reading A
found line number None = wrong line number
found line number (Some x) = gives x

-- with further faults
abbrev pub also : {A : Type 0} → List Fault → Reading A → Reading A
also fs r = record { faults = fs ++ r.faults; words = r.words; value = r.value }

-- what is made of what is read, if it can be made
abbrev pub chosen : {A B : Type 0} → (A → Option B) → Reading A → Reading B
chosen f r = record { faults = r.faults; words = r.words; value = option_and_then f r.value }

abbrev pub made : {A B : Type 0} → (A → B) → Reading A → Reading B
made f r = record { faults = r.faults; words = r.words; value = option_map f r.value }

-- without its value
abbrev pub valueless : {A B : Type 0} → Reading A → Reading B
valueless r = record { faults = r.faults; words = r.words; value = None }

-- one and then another
abbrev pub both : {A B : Type 0} → Reading A → Reading B → Reading (A × B)
both r s = record { faults = r.faults ++ s.faults; words = r.words ++ s.words; value = option_and_then (λ x. option_map (λ y. (x, y)) s.value) r.value }

-- one and then another, whose value counts if the first one has one
abbrev pub after : {A B : Type 0} → Reading A → Reading B → Reading B
after r s = record { faults = r.faults ++ s.faults; words = r.words ++ s.words; value = option_and_then (λ x. s.value) r.value }

-- each of a list, the first of which has the number n
abbrev pub each_from : {A B : Type 0} → (ℕ → A → Reading B) → ℕ → List A → Reading (List B)
each_from f n [] = gives []
each_from f n (x ∷ xs) = made (λ p. p.0 ∷ p.1) (both (f n x) (each_from f (n + 1) xs))

abbrev pub each : {A B : Type 0} → (A → Reading B) → List A → Reading (List B)
each f xs = each_from (λ n. f) 0 xs

-- ---- keys

-- what is at a key that may be absent, and at one that must be in a mapping of this line
abbrev pub perhaps : {A : Type 0} → (Pair → Reading A) → Option Pair → Reading (Option A)
perhaps f None = gives None
perhaps f (Some p) = made Some (f p)

abbrev pub must : {A : Type 0} → ℕ → (Pair → Reading A) → Option Pair → Reading A
must line f None = wrong line missing_key
must line f (Some p) = f p

-- a text or a mapping at a key; another node is of the wrong kind
abbrev pub text : {A : Type 0} → (ℕ → List ℕ → Reading A) → Pair → Reading A
text f p = option_map_or (f p.line) (text_of p.value) (wrong p.line bad_value)

abbrev pub mapping : {A : Type 0} → (List Pair → Reading A) → Pair → Reading A
mapping f p = option_map_or f (mapping_of p.value) (wrong p.line bad_value)
