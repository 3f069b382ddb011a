-- Where the first part of a text ends that is cut at certain bytes.
use Rattle.std.proofs.Common.{◌≡◌, ◌∙◌, ◌+◌, ◌<◌, ◌≤◌, length, take, drop, Some, None, arith, ℕ, Bool, List, [], ◌∷◌, ap}
use Rattle.std.specs.Prelude.{position}
use Rattle.std.specs.List.{position_or_len, slice_split}
use Rattle.std.proofs.lemmas.Bool.Decides.{nat_tests}
use Rattle.std.proofs.lemmas.List.Splits.{slice_split_first, slice_split_none}
use Rattle.std.proofs.lemmas.List.Sums.{fails_before_first}

-- where an element that passes is found, it is the first; where none is, none passes
pub found_at : {X : Type 0} (p : X → Bool) (xs : List X) (n : ℕ) → position p xs ≡ Some n → (position_or_len p xs ≡ n) × (n < length xs)
found_at p xs n h = (grind (arith, nat_tests), grind (arith, nat_tests))

-- where none is found, the search runs to the end
pub not_found : {X : Type 0} (p : X → Bool) (xs : List X) → position p xs ≡ None → length xs ≤ position_or_len p xs
not_found p xs h = grind (arith, nat_tests)

pub split_found : {X : Type 0} (p : X → Bool) (xs : List X) (n : ℕ) (d : X) → position p xs ≡ Some n
    → slice_split p xs ≡ take n xs ∷ slice_split p (drop (n + 1) xs)
split_found p xs n d found =
    let at = found_at p xs n found in
    slice_split_first p xs d (omega (arith, at.0, at.1)) ∙ ap (λ k. take k xs ∷ slice_split p (drop (k + 1) xs)) at.0

pub split_none : {X : Type 0} (p : X → Bool) (xs : List X) → position p xs ≡ None → slice_split p xs ≡ xs ∷ []
split_none p xs none =
    let all = not_found p xs none in
    slice_split_none p xs (λ k d lt. fails_before_first p xs k d (omega arith))
