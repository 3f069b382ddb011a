-- Keys that are read one after another are distinct.
use Rattle.ksv_yaml.proofs.Common.{◌≡◌, ℕ, Bool, true, false, cond, List, [], ◌∷◌, ◌++◌, refl, sym, ap, subst, ◌∙◌, ◌⊎◌, inl, inr, bytes_eq, Entries}
use Rattle.ksv_yaml.proofs.Common.{no_entries, entry, AreDistinct, is_among}
use Rattle.std.proofs.lemmas.Slice.Eq.{bytes_eq-Decides}
use Rattle.std.proofs.lemmas.Bool.{false_from_ne_true}
use Rattle.ksv_yaml_tree.specs.Tree.{IsApart}

same_is : (k j : List ℕ) → bytes_eq k j ≡ true → j ≡ k
same_is k j h = sym ((bytes_eq-Decides k j).0 h)

same_self : (k : List ℕ) → bytes_eq k k ≡ true
same_self k = (bytes_eq-Decides k k).1 refl

or_cases : (a b : Bool) → cond a true b ≡ true → (a ≡ true) ⊎ (b ≡ true)
or_cases true b h = inl refl
or_cases false b h = inr h

or_first : (a b : Bool) → a ≡ true → cond a true b ≡ true
or_first true b h = refl
or_first false b h = absurd cc

or_second : (a b : Bool) → b ≡ true → cond a true b ≡ true
or_second true b h = refl
or_second false b h = h

among_cases : (j k : List ℕ) (seen : List (List ℕ)) → is_among j (seen ++ k ∷ []) ≡ true → (is_among j seen ≡ true) ⊎ (j ≡ k)
among_cases j k [] h = elim (or_cases (bytes_eq k j) false h) [ inl a ↦ inr (same_is k j a) | inr b ↦ absurd cc ]
among_cases j k (s ∷ seen) h = elim (or_cases (bytes_eq s j) (is_among j (seen ++ k ∷ [])) h) [
  | inl a ↦ inl (or_first (bytes_eq s j) (is_among j seen) a)
  | inr b ↦ elim (among_cases j k seen b) [ inl c ↦ inl (or_second (bytes_eq s j) (is_among j seen) c) | inr c ↦ inr c ]
]

among_more : (j k : List ℕ) (seen : List (List ℕ)) → is_among j seen ≡ true → is_among j (seen ++ k ∷ []) ≡ true
among_more j k [] h = absurd cc
among_more j k (s ∷ seen) h = elim (or_cases (bytes_eq s j) (is_among j seen) h) [
  | inl a ↦ or_first (bytes_eq s j) _ a
  | inr b ↦ or_second (bytes_eq s j) _ (among_more j k seen b)
]

among_last : (k : List ℕ) (seen : List (List ℕ)) → is_among k (seen ++ k ∷ []) ≡ true
among_last k [] = or_first (bytes_eq k k) false (same_self k)
among_last k (s ∷ seen) = or_second (bytes_eq s k) _ (among_last k seen)

-- no key is among the ones before it
abbrev pub AreClear : List (List ℕ) → Entries → Type 0
AreClear seen no_entries = Unit {0}
AreClear seen (entry n k t es) = (is_among k seen ≡ false) × AreClear (seen ++ k ∷ []) es

clear_apart : (seen : List (List ℕ)) (j : List ℕ) (es : Entries) → AreClear seen es → is_among j seen ≡ true → IsApart j es
clear_apart seen j no_entries c h = tt
clear_apart seen j (entry n k t es) c h =
    (λ e. let f = ap (λ (k : List ℕ). is_among k seen) e in absurd (cc (c.0, h, f)), clear_apart (seen ++ k ∷ []) j es c.1 (among_more j k seen h))

pub clear_distinct : (seen : List (List ℕ)) (es : Entries) → AreClear seen es → AreDistinct es
clear_distinct seen no_entries c = tt
clear_distinct seen (entry n k t es) c = (clear_apart (seen ++ k ∷ []) k es c.1 (among_last k seen), clear_distinct (seen ++ k ∷ []) es c.1)

pub distinct_clear : (seen : List (List ℕ)) (es : Entries) → AreDistinct es → ((j : List ℕ) → is_among j seen ≡ true → IsApart j es) → AreClear seen es
distinct_clear seen no_entries d a = tt
distinct_clear seen (entry n k t es) d a = (
  false_from_ne_true (is_among k seen) (λ h. (a k h).0 refl),
  distinct_clear (seen ++ k ∷ []) es d.1
      (λ j h. elim (among_cases j k seen h) [ inl b ↦ (a j b).1 | inr e ↦ subst (λ (j : List ℕ). IsApart j es) (sym e) d.0 ]),
)

or_swap : (a b c : Bool) → cond a true (cond b true c) ≡ cond b true (cond a true c)
or_swap true true c = refl
or_swap _ _ c = refl

-- one more key
pub among_push : (j k : List ℕ) (seen : List (List ℕ)) → is_among j (seen ++ k ∷ []) ≡ cond (bytes_eq k j) true (is_among j seen)
among_push j k [] = refl
among_push j k (s ∷ seen) = ap (λ (b : Bool). cond (bytes_eq s j) true b) (among_push j k seen) ∙ or_swap (bytes_eq s j) (bytes_eq k j) (is_among j seen)
