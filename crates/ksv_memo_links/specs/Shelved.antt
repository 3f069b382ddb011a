-- Rows of items, as contracts see them.
use Rattle.std.specs.Prelude.{◌≡◌, ◌≤◌, ℕ, ◌+◌, ◌-◌, ◌^◌, min, List, [], ◌∷◌, ◌++◌, length, take, slice_index_or, slice_set}

-- a count after this many looks more, and after one: it stops at 2^64 - 1
abbrev pub ticked_by : ℕ → ℕ → ℕ
ticked_by n looks = min (n + looks) (2 ^ 64 - 1)

abbrev pub ticked : ℕ → ℕ
ticked n = min (n + 1) (2 ^ 64 - 1)

-- a row, empty where there is none
abbrev pub row : {T : Type 0} → List (List T) → ℕ → List T
row rows r = slice_index_or rows r []

-- after a pop and a push in a row
abbrev pub pop_row : {T : Type 0} → List (List T) → ℕ → List (List T)
pop_row rows r = slice_set rows r (take (length (row rows r) - 1) (row rows r))

abbrev pub push_row : {T : Type 0} → List (List T) → ℕ → T → List (List T)
push_row rows r x = slice_set rows r (row rows r ++ x ∷ [])

-- a list with room, and how often a call looked at it
pub record Celled (T : Type 0) : Type 0 where
  pub items : List T
  pub room : ℕ
  pub looks : ℕ

-- there are as many rows or more, and each is as it was; a new one is empty
pub record HasSameRows {T : Type 0} (old new : List (List T)) : Type 0 where
  pub more : length old ≤ length new
  pub each : (r : ℕ) → row new r ≡ row old r
