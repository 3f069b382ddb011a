-- A byte in the two slices that a window lends.
use Rattle.std.proofs.Common.{◌≡◌, ℕ, ◌+◌, ◌<◌, ◌≤◌, List, [], ◌∷◌, ◌++◌, length, get_or, ◌∙◌, ap, arith, Some}
use Rattle.std.specs.Prelude.{slice_get, slice_range}
use Rattle.ksv_test_engine.specs.Rows.{range_get}

pub byte-behind : (front back bytes : List ℕ) (place : ℕ) → front ++ back ≡ slice_range bytes place (place + 1) → place < length bytes → length front < 1
    → slice_get back 0 ≡ slice_get bytes place
byte-behind [] back bytes place is lt none = ap (λ xs. slice_get xs 0) is ∙ range_get bytes place lt
byte-behind (b ∷ front) back bytes place is lt none = absurd (omega arith)

pub byte-in_front : (front back bytes : List ℕ) (place : ℕ) → front ++ back ≡ slice_range bytes place (place + 1) → place < length bytes → 1 ≤ length front
    → Some (get_or front 0 0) ≡ slice_get bytes place
byte-in_front [] back bytes place is lt some = absurd (omega arith)
byte-in_front (b ∷ front) back bytes place is lt some = ap (λ xs. slice_get xs 0) is ∙ range_get bytes place lt
