-- Tables of places: for each key the place of the first element that passes the key's test. They are made from the last element on.
use Rattle.std.proofs.Common.{◌≡◌, ℕ, suc, ◌+◌, ◌<◌, Bool, true, false, cond, List, [], ◌∷◌, map, length, get_or, drop, Option, Some, slice_get, refl}
use Rattle.std.proofs.Common.{sym, ap, ◌∙◌, arith, add-one, drop-cons}
use Rattle.std.specs.Prelude.{find, option_map, option_and_then}
use Rattle.std.specs.List.{position_from}

module _ {A K : Type 0} (test : K → A → Bool) (xs : List A) where
  -- a table finds the elements from the place k on
  abbrev pub AreFirstFrom : ℕ → (K → Option ℕ) → Type 0
  AreFirstFrom k table = (key : K) → table key ≡ position_from (test key) k (drop k xs)

  -- of one element more, in front of those
  pub one_before : (k j : ℕ) (x : A) (table more : K → Option ℕ) → k ≡ suc j → j < length xs → x ≡ get_or xs j x
      → ((key : K) → more key ≡ cond (test key x) (Some j) (table key)) → AreFirstFrom k table → AreFirstFrom j more
  one_before k j x table more next within is put from = λ key.
      put key
      ∙ ap (cond (test key x) (Some j))
      (from key ∙ ap (λ (i : ℕ). position_from (test key) i (drop i xs)) next
      ∙ ap (λ (i : ℕ). position_from (test key) i (drop (suc j) xs)) (sym (add-one j)))
      ∙ sym (ap (position_from (test key) j) (drop-cons xs j x within ∙ ap (λ (y : A). y ∷ drop (suc j) xs) (sym is)))

-- what is at the place of the first that passes is the first that passes
first_at : {A : Type 0} (test : A → Bool) (at : ℕ → Option A) (k : ℕ) (xs : List A) → ((i : ℕ) → at (k + i) ≡ slice_get xs i)
    → option_and_then at (position_from test k xs) ≡ find test xs
first_at test at k [] same = refl
first_at {A = A} test at k (x ∷ xs) same =
    by_test (test x) (ap at (omega arith) ∙ same 0) (first_at test at (k + 1) xs (λ i. ap at (omega arith) ∙ same (suc i)))
  where
    by_test : (b : Bool) → at k ≡ Some x → option_and_then at (position_from test (k + 1) xs) ≡ find test xs
        → option_and_then at (cond b (Some k) (position_from test (k + 1) xs)) ≡ cond b (Some x) (find test xs)
    by_test true here later = here
    by_test false here later = later

pub first_there : {A : Type 0} (test : A → Bool) (xs : List A) → option_and_then (slice_get xs) (position_from test 0 xs) ≡ find test xs
first_there test xs = first_at test (slice_get xs) 0 xs (λ i. ap (slice_get xs) (omega arith))

-- in plain data the place is the same, and the first that passes is the same
module _ {A B : Type 0} (see : A → B) (test : B → Bool) where
  pub position_seen : (k : ℕ) (xs : List A) → position_from (λ x. test (see x)) k xs ≡ position_from test k (map see xs)
  position_seen k [] = refl
  position_seen k (x ∷ xs) = ap (cond (test (see x)) (Some k)) (position_seen (k + 1) xs)

  pub find_seen : (xs : List A) → find test (map see xs) ≡ option_map see (find (λ x. test (see x)) xs)
  find_seen [] = refl
  find_seen (x ∷ xs) = by_test (test (see x)) (find_seen xs)
    where
      by_test : (b : Bool) → find test (map see xs) ≡ option_map see (find (λ x. test (see x)) xs)
          → cond b (Some (see x)) (find test (map see xs)) ≡ option_map see (cond b (Some x) (find (λ x. test (see x)) xs))
      by_test true later = refl
      by_test false later = later
