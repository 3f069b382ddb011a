-- The types in a type are smaller than it.
use Rattle.std.proofs.Common.{inl, inr}
use Rattle.std.proofs.lemmas.Bool.{cases_Bool}
use Rattle.ksv_schema_names.proofs.Common.{◌≡◌, ℕ, suc, ◌+◌, ◌<◌, ◌≤◌, List, [], ◌∷◌, ◌++◌, map, length, get_or, drop, refl, sym, ap, ◌∙◌, arith, bytes_eq, Row}
use Rattle.std.proofs.Common.{add-one, drop-cons}
use Rattle.std.specs.Prelude.{codes}
use Rattle.ksv_yaml_tree.specs.Tree.{Tree, Text, Seq, Map, Entries, no_entries, entry, Pair, pairs}
use Rattle.ksv_yaml_tree.specs.View.{entries_of}
use Rattle.ksv_yaml_tree.specs.Keys.{entries_in, entries_at}
use Rattle.ksv_schema_names.specs.Rows.{named_row, with_types, with_key, with_named, with_each}

abbrev mutual
  pub weight : Tree → ℕ
  weight (Text _ _ _) = 0
  weight (Seq _ _) = 0
  weight (Map _ es) = weights es + 1

  pub weights : Entries → ℕ
  weights no_entries = 0
  weights (entry _ _ value es) = weight value + weights es + 1

entries_again : (es : Entries) → entries_of (pairs es) ≡ es
entries_again no_entries = refl
entries_again (entry line name value es) = ap (entry line name value) (entries_again es)

-- the types that a type names
abbrev pub named_in : List Pair → Entries
named_in ps = entries_of (entries_at (codes "types") ps)

of_value : (n : ℕ) (value : Tree) (rows : List Row) → with_each n (entries_of (entries_in value)) rows ≡ with_named n value rows
of_value n (Map _ es) rows = ap (λ (es : Entries). with_each n es rows) (entries_again es)
of_value n _ rows = refl

value_weight : (value : Tree) → weights (entries_of (entries_in value)) ≤ weight value
value_weight (Map _ es) = rw (entries_again es) (omega arith)
value_weight _ = omega arith

in_keys : (n : ℕ) (es : Entries) (rows : List Row) → with_each n (named_in (pairs es)) rows ≡ with_key n es rows
in_keys n no_entries rows = refl
in_keys n (entry line key value es) rows =
    elim (cases_Bool (bytes_eq key (codes "types"))) [ inl e ↦ rw e (of_value n value rows) | inr e ↦ rw e (in_keys n es rows) ]

keys_weight : (es : Entries) → weights (named_in (pairs es)) ≤ weights es
keys_weight no_entries = omega arith
keys_weight (entry line key value es) = elim (cases_Bool (bytes_eq key (codes "types"))) [
  | inl e ↦ rw e (omega (arith, value_weight value))
  | inr e ↦ rw e (omega (arith, keys_weight es))
]

-- the loop over the types in a type, where it begins
pub all_named : (n : ℕ) (t : Tree) (rows : List Row) (ps : List Pair) → ps ≡ entries_at (codes "types") (entries_in t)
    → with_each n (entries_of ps) rows ≡ with_types n t rows
all_named n (Map _ es) rows ps e = rw e (in_keys n es rows)
all_named n _ rows ps e = rw e

-- the loop, one type further
module _ {X : Type 0} (see : X → Pair) (xs : List X) (i : ℕ) (x : X) (lt : i < length xs) (is : x ≡ get_or xs i x) where
  further : {A : Type 0} (f : Entries → A) → f (entries_of (map see (drop i xs))) ≡ f (entries_of (see x ∷ map see (drop (i + 1) xs)))
  further f = ap (λ (ys : List X). f (entries_of (map see ys))) (drop-cons xs i x lt)
      ∙ ap (λ (y : X). f (entries_of (see y ∷ map see (drop (suc i) xs)))) (sym is)
      ∙ ap (λ (j : ℕ). f (entries_of (see x ∷ map see (drop j xs)))) (sym (add-one i))

  pub more_named : (n number : ℕ) (value : Tree) (rows before more whole : List Row) → number ≡ length rows → value ≡ (see x).value
      → before ≡ rows ++ named_row n (see x) ∷ [] → more ≡ with_types number value before
      → with_each n (entries_of (map see (drop i xs))) rows ≡ whole → with_each n (entries_of (map see (drop (i + 1) xs))) more ≡ whole
  more_named n number value rows before more whole many same put new now =
      let one : more ≡ with_types (length rows) (see x).value (rows ++ named_row n (see x) ∷ []) = cc in
      ap (with_each n (entries_of (map see (drop (i + 1) xs)))) one ∙ sym (further (λ (es : Entries). with_each n es rows)) ∙ now

  -- this type and those after it are smaller than what they are in
  pub lighter : (most : ℕ) → weights (entries_of (map see (drop i xs))) ≤ most → weights (entries_of (map see (drop (i + 1) xs))) ≤ most
  lighter most h = omega (arith, further weights)

  pub one_lighter : (value : Tree) (most : ℕ) → value ≡ (see x).value → weights (entries_of (map see (drop i xs))) ≤ most → weight value < most
  one_lighter value most same h = rw same (omega (arith, further weights))

pub smaller_named : (t : Tree) (ps : List Pair) → ps ≡ entries_at (codes "types") (entries_in t) → weights (entries_of ps) ≤ weight t
smaller_named (Map _ es) ps e = rw e (omega (arith, keys_weight es))
smaller_named _ ps e = rw e (omega arith)
