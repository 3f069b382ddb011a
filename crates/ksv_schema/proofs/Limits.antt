-- The lowest line by which there are more than a limit of some lines is, in the rising order of all of them, the first one past
-- the limit.
use Rattle.ksv_schema.proofs.Common.{◌≡◌, ℕ, zero, suc, ◌≤◌, ◌<◌, Bool, true, false, List, [], ◌∷◌, length, Option, Some, None, refl, sym, ap, ◌∙◌, arith, cond}
use Rattle.ksv_schema.proofs.Common.{nat_lt, nat_tests, slice_get}
use Rattle.std.proofs.Common.{inl, inr, ◌⊎◌, ltb-true}
use Rattle.std.specs.Prelude.{nat_le, min, filter, fold, slice_index_or}
use Rattle.std.specs.List.Sorted.{IsPermutation, IsNonDecreasing}
use Rattle.std.proofs.lemmas.List.Sums.{length-filter}
use Rattle.std.proofs.lemmas.List.Sorted.{sum_by-IsPermutation, length_permutation, Contains-permutation, IsPermutation-sym}
use Rattle.std.proofs.lemmas.Option.{slice_get_past, slice_get-get_or}
use Rattle.ksv_schema.specs.Description.{lower, line_past}
use Rattle.ksv_schema.specs.Plain.{AreRising}

-- ---- how many lines are not after one

abbrev up_to : ℕ → List ℕ → ℕ
up_to line lines = length (filter (λ other. nat_le other line) lines)

rest_rises : (y : ℕ) (ys : List ℕ) → IsNonDecreasing (y ∷ ys) → IsNonDecreasing ys
rest_rises y ys h i j d le lt = h (suc i) (suc j) d (omega (arith, le)) (omega (arith, lt))

counted : (line y : ℕ) (ys : List ℕ) → nat_le y line ≡ true → up_to line (y ∷ ys) ≡ suc (up_to line ys)
counted line y ys h = rw h refl

passed_over : (line y : ℕ) (ys : List ℕ) → nat_le y line ≡ false → up_to line (y ∷ ys) ≡ up_to line ys
passed_over line y ys h = rw h refl

at_most_one : (line y : ℕ) (ys : List ℕ) → up_to line (y ∷ ys) ≤ suc (up_to line ys)
at_most_one line y ys = by_test (nat_le y line) refl
  where
    by_test : (b : Bool) → nat_le y line ≡ b → up_to line (y ∷ ys) ≤ suc (up_to line ys)
    by_test true h = omega (arith, counted line y ys h)
    by_test false h = omega (arith, passed_over line y ys h)

-- of rising lines at least the first i + 1 are not after that of number i
many : (ys : List ℕ) (i d : ℕ) → IsNonDecreasing ys → i < length ys → i < up_to (slice_index_or ys i d) ys
many [] i d h lt = absurd (omega (arith, lt))
many (y ∷ ys) zero d h lt =
    let own : nat_le y y ≡ true = grind (arith, nat_tests) in
    omega (arith, counted y y ys own)
many (y ∷ ys) (suc i) d h lt =
    let le : y ≤ slice_index_or ys i d = h zero (suc i) d (omega arith) lt in
    let own : nat_le y (slice_index_or ys i d) ≡ true = grind (arith, nat_tests) in
    let more = many ys i d (rest_rises y ys h) (omega (arith, lt)) in
    omega (arith, more, counted (slice_index_or ys i d) y ys own)

-- and at most the first i are below it
few : (ys : List ℕ) (i d line : ℕ) → IsNonDecreasing ys → i < length ys → line < slice_index_or ys i d → up_to line ys ≤ i
few [] i d line h lt below = absurd (omega (arith, lt))
few (y ∷ []) zero d line h lt below =
    let own : nat_le y line ≡ false = grind (arith, nat_tests) in
    omega (arith, passed_over line y [] own)
few (y ∷ z ∷ ys) zero d line h lt below =
    let own : nat_le y line ≡ false = grind (arith, nat_tests) in
    let le : y ≤ z = h zero (suc zero) d (omega arith) (omega arith) in
    let less = few (z ∷ ys) zero d line (rest_rises y (z ∷ ys) h) (omega arith) (omega (arith, le, below)) in
    omega (arith, less, passed_over line y (z ∷ ys) own)
few (y ∷ ys) (suc i) d line h lt below =
    let less = few ys i d line (rest_rises y ys h) (omega (arith, lt)) below in
    omega (arith, less, at_most_one line y ys)

-- the order of the lines doesn't matter
same_count : (xs ys : List ℕ) (line : ℕ) → IsPermutation xs ys → up_to line xs ≡ up_to line ys
same_count xs ys line h =
    length-filter (λ other. nat_le other line) xs
    ∙ sym (sum_by-IsPermutation (λ other. cond (nat_le other line) 1 0) xs ys h)
    ∙ sym (length-filter (λ other. nat_le other line) ys)

no_more : (line : ℕ) (xs : List ℕ) → up_to line xs ≤ length xs
no_more line [] = omega arith
no_more line (x ∷ xs) = omega (arith, at_most_one line x xs, no_more line xs)

-- ---- the lowest of the lines that pass a test

module _ (p : ℕ → Bool) where
  none_passes : (lines : List ℕ) → ((line : ℕ) → p line ≡ false) → filter p lines ≡ []
  none_passes [] h = refl
  none_passes (line ∷ lines) h = rw (h line) (none_passes lines h)

  least_stays : (lines : List ℕ) (least : ℕ) → ((line : ℕ) → p line ≡ true → least ≤ line) → fold lower (Some least) (filter p lines) ≡ Some least
  least_stays [] least h = refl
  least_stays (line ∷ lines) least h = by_test (p line) refl (least_stays lines least h)
    where
      stays : p line ≡ true → min least line ≡ least
      stays e = omega (arith, h line e)

      by_test : (b : Bool) → p line ≡ b → fold lower (Some least) (filter p lines) ≡ Some least → fold lower (Some least) (filter p (line ∷ lines)) ≡ Some least
      by_test true e k = rw e (ap (λ n. fold lower (Some n) (filter p lines)) (stays e) ∙ k)
      by_test false e k = rw e k

  abbrev IsFrom : ℕ → Option ℕ → Type 0
  IsFrom least None = Unit {0}
  IsFrom least (Some line) = least ≤ line

  lowered : (o : Option ℕ) (least : ℕ) → IsFrom least o → lower o least ≡ Some least
  lowered None least h = refl
  lowered (Some line) least h = ap Some (omega (arith, h))

  still_from : (o : Option ℕ) (least line : ℕ) → IsFrom least o → least ≤ line → IsFrom least (lower o line)
  still_from None least line h le = le
  still_from (Some other) least line h le = omega (arith, h, le)

  -- the least of those that pass, where it is one of the lines
  least_is : (lines : List ℕ) (o : Option ℕ) (least i d : ℕ) → ((line : ℕ) → p line ≡ true → least ≤ line) → IsFrom least o
      → p least ≡ true → i < length lines → slice_index_or lines i d ≡ least → fold lower o (filter p lines) ≡ Some least
  least_is [] o least i d h from passes lt is = absurd (omega (arith, lt))
  least_is (line ∷ lines) o least zero d h from passes lt is =
      rw (ap p is ∙ passes) (ap (λ o. fold lower o (filter p lines)) (ap (lower o) is ∙ lowered o least from) ∙ least_stays lines least h)
  least_is (line ∷ lines) o least (suc i) d h from passes lt is =
      by_test (p line) refl
      (λ e. least_is lines (lower o line) least i d h (still_from o least line from (h line e)) passes (omega (arith, lt)) is)
      (least_is lines o least i d h from passes (omega (arith, lt)) is)
    where
      by_test : (b : Bool) → p line ≡ b → (p line ≡ true → fold lower (lower o line) (filter p lines) ≡ Some least)
          → fold lower o (filter p lines) ≡ Some least → fold lower o (filter p (line ∷ lines)) ≡ Some least
      by_test true e k l = rw e (k e)
      by_test false e k l = rw e l

-- ---- past a limit

same_at : (ys : List ℕ) (i d e : ℕ) → i < length ys → slice_index_or ys i d ≡ slice_index_or ys i e
same_at [] i d e lt = absurd (omega (arith, lt))
same_at (y ∷ ys) zero d e lt = refl
same_at (y ∷ ys) (suc i) d e lt = same_at ys i d e (omega (arith, lt))

split : (a b : ℕ) → (a ≤ b) ⊎ (b < a)
split a b = grind (arith)

module _ (limit : ℕ) (xs ys : List ℕ) (moved : IsPermutation xs ys) (rises : IsNonDecreasing ys) where
  abbrev passes : ℕ → Bool
  passes line = nat_lt limit (up_to line xs)

  is_past : limit < length ys → passes (slice_index_or ys limit 0) ≡ true
  is_past lt =
      let m = many ys limit 0 rises lt in
      let over : limit < up_to (slice_index_or ys limit 0) xs = omega (arith, m, same_count xs ys (slice_index_or ys limit 0) moved) in
      grind (arith, nat_tests, over)

  none_before : limit < length ys → (line : ℕ) → passes line ≡ true → slice_index_or ys limit 0 ≤ line
  none_before lt line h =
      let over : limit < up_to line xs = ltb-true limit (up_to line xs) h in
      elim (split (slice_index_or ys limit 0) line) [
        | inl le ↦ le
        | inr below ↦ absurd (omega (arith, over, same_count xs ys line moved, few ys limit 0 line rises lt below))
      ]

  none_past : length ys ≤ limit → (line : ℕ) → passes line ≡ false
  none_past le line =
      let few : up_to line xs ≤ limit = omega (arith, no_more line xs, length_permutation xs ys moved) in
      grind (arith, nat_tests, few)

  -- where there are more lines, the first past the limit
  pub line_past-some : limit < length ys → line_past limit xs ≡ Some (slice_index_or ys limit 0)
  unfolding line_past
  line_past-some lt =
      let c = Contains-permutation ys xs (slice_index_or ys limit 0) (IsPermutation-sym xs ys moved)
      (limit, lt, same_at ys limit (slice_index_or ys limit 0) 0 lt) in
      least_is passes xs None (slice_index_or ys limit 0) c.0 (slice_index_or ys limit 0) (none_before lt) tt (is_past lt) c.1 c.2

  -- else none
  pub line_past-none : length ys ≤ limit → line_past limit xs ≡ None
  unfolding line_past
  line_past-none le = ap (fold lower None) (none_passes passes xs (none_past le))

cut : (a b : ℕ) → (a < b) ⊎ (b ≤ a)
cut a b = grind (arith)

-- of lines in rising order the one past the limit
pub line_past_is : (limit : ℕ) (xs ys : List ℕ) → AreRising xs ys → slice_get ys limit ≡ line_past limit xs
line_past_is limit xs ys h =
    elim (cut limit (length ys)) [
      | inl lt ↦ slice_get-get_or ys limit 0 lt ∙ sym (line_past-some limit xs ys h.moved h.rises lt)
      | inr le ↦ slice_get_past ys limit le ∙ sym (line_past-none limit xs ys h.moved h.rises le)
    ]
