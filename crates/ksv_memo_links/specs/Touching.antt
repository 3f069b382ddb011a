-- Which pages of 64 bytes a use meets, and where uses end.
use Rattle.std.specs.Prelude.{ℕ, zero, suc, ◌+◌, ◌-◌, ◌/◌, ◌<◌, ◌≤◌, max, Bool, true, false, cond, List, [], ◌∷◌, Contains}
use Rattle.std.specs.List.{flat_map, list_any}
use Rattle.ksv_bytes.specs.declared.uses.Use.{Use}
use Rattle.ksv_bytes.specs.declared.uses.Use.TheVariants.{Bytes, Reach, Size}

-- this many numbers from one on
abbrev pub numbers_from : ℕ → ℕ → List ℕ
numbers_from first zero = []
numbers_from first (suc n) = first ∷ numbers_from (first + 1) n

-- the page after the last one that a range of bytes meets; a used range isn't empty
abbrev pub pages_end : ℕ → ℕ → ℕ
pages_end from to = max from (to - 1) / 64 + 1

-- the pages that a use meets; only uses of bytes meet pages
abbrev pub pages_of : Use → List ℕ
pages_of (Bytes from to) = numbers_from (from / 64) (pages_end from to - from / 64)
pages_of (Reach to) = []
pages_of Size = []

-- the pages of these uses, one after the other, with repeats
abbrev pub pages_in : List Use → List ℕ
pages_in us = flat_map pages_of us

abbrev pub is_size : Use → Bool
is_size (Bytes from to) = false
is_size (Reach to) = false
is_size Size = true

-- the place that a use reaches; 0 if it isn't of reaching
abbrev pub reach_of : Use → ℕ
reach_of (Bytes from to) = 0
reach_of (Reach to) = to
reach_of Size = 0

-- the farthest place that these uses reach; 0 if there is none
abbrev pub farthest : List Use → ℕ
farthest [] = 0
farthest (used ∷ us) = max (reach_of used) (farthest us)

-- one more than the page of the byte before a place; none of place 0
abbrev pub end_at : ℕ → List ℕ
end_at zero = []
end_at (suc to) = (to / 64 + 1) ∷ []

-- where these uses end: 0 if one is of the size; else one more than the page of the last byte that they reach; none if
-- all are of bytes
abbrev pub ends_in : List Use → List ℕ
ends_in us = cond (list_any is_size us) (0 ∷ []) (end_at (farthest us))

-- these uses are within this many pages
pub record AreWithin (pages : ℕ) (us : List Use) : Type 0 where
  pub met : (g : ℕ) → Contains (pages_in us) g → g < pages
  pub ends : (l : ℕ) → Contains (ends_in us) l → l ≤ pages
