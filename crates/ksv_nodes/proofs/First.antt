-- The first byte of a value in a list that is cut in two.
use Rattle.ksv_nodes.proofs.Common.{◌≡◌, ℕ, suc, ◌+◌, ◌<◌, List, [], ◌∷◌, ◌++◌, length, Option, Some, None, Bool, true, false, ◌==◌, if◌then◌else◌, ◌≤◌, take}
use Rattle.ksv_nodes.proofs.Common.{drop, refl, ap, ◌∙◌, arith, slice_range, first_at}
use Rattle.std.proofs.Common.{option_map, min, ◌-◌, inl, inr}
use Rattle.std.proofs.lemmas.List.{length-drop, take_all, take_min, drop_all}
use Rattle.std.proofs.lemmas.Bool.{cases_lt}

-- a place in what comes after n bytes
abbrev pub moved_on : ℕ → Option ℕ → Option ℕ
moved_on n None = None
moved_on n (Some k) = Some (n + k)

-- a place in the first part, or else in what comes after its n bytes
abbrev pub or_behind : ℕ → Option ℕ → Option ℕ → Option ℕ
or_behind n (Some i) o = Some i
or_behind n None o = moved_on n o

or_behind_suc : (n : ℕ) (o p : Option ℕ) → option_map suc (or_behind n o p) ≡ or_behind (suc n) (option_map suc o) p
or_behind_suc n (Some i) p = refl
or_behind_suc n None None = refl
or_behind_suc n None (Some k) = let e : suc (n + k) ≡ suc n + k = omega arith in ap Some e

moved_on_zero : (o : Option ℕ) → o ≡ moved_on 0 o
moved_on_zero None = refl
moved_on_zero (Some k) = let e : k ≡ 0 + k = omega arith in ap Some e

by_first : (c : Bool) (o p q : Option ℕ) (n : ℕ) → o ≡ or_behind n p q
    → (if c then Some 0 else option_map suc o) ≡ or_behind (suc n) (if c then Some 0 else option_map suc p) q
by_first true o p q n e = refl
by_first false o p q n e = ap (option_map suc) e ∙ or_behind_suc n p q

pub first_at_append : (b : ℕ) (xs ys : List ℕ) → first_at b (xs ++ ys) ≡ or_behind (length xs) (first_at b xs) (first_at b ys)
first_at_append b [] ys = moved_on_zero (first_at b ys)
first_at_append b (x ∷ xs) ys = by_first (x == b) (first_at b (xs ++ ys)) (first_at b xs) (first_at b ys) (length xs) (first_at_append b xs ys)

below : (c : Bool) (o : Option ℕ) (n i : ℕ) → ((k : ℕ) → o ≡ Some k → k < n) → (if c then Some 0 else option_map suc o) ≡ Some i → i < suc n
below true o n i h e = let z : 0 ≡ i = cc in omega arith
below false None n i h e = absurd (cc)
below false (Some k) n i h e = let s : suc k ≡ i = cc in let lt : k < n = h k refl in omega arith

-- the place is one of the list's
pub first_at_below : (b : ℕ) (xs : List ℕ) (i : ℕ) → first_at b xs ≡ Some i → i < length xs
first_at_below b [] i e = absurd (cc)
first_at_below b (x ∷ xs) i e = below (x == b) (first_at b xs) (length xs) i (λ k e'. first_at_below b xs k e') e

-- a range whose end lies after the bytes is that up to their end
pub range_cut : (bytes : List ℕ) (from to : ℕ) → slice_range bytes from (min to (length bytes)) ≡ slice_range bytes from to
range_cut bytes from to = let e : min to (length bytes) - from ≡ min (to - from) (length (drop from bytes)) =
    omega (arith, length-drop from bytes) in rw e (take_min (to - from) (drop from bytes))

take_nil : (n : ℕ) → ◌≡◌ {A = List ℕ} (take n []) []
take_nil n = take_all n [] (omega arith)

-- a range that ends in front of its beginning, or begins after the bytes, has none
pub range_none : (bytes : List ℕ) (from to : ℕ) → min to (length bytes) ≤ from → slice_range bytes from to ≡ []
range_none bytes from to h = elim (cases_lt from to) [
  | inl before ↦ (let e : drop from bytes ≡ [] = drop_all from bytes (omega arith) in rw e (take_nil (to - from)))
  | inr behind ↦ (let e : to - from ≡ 0 = omega arith in rw e refl)
]
