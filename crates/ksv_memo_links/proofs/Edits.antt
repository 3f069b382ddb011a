-- What rows are after a write to one.
use Rattle.ksv_memo_links.proofs.Common.{◌≡◌, ◌≢◌, inl, inr, ℕ, ◌<◌, List, [], length, set, ap, arith, get_or-set_same, get_or-set_other, get_or_past}
use Rattle.ksv_memo_links.proofs.Common.{cases_lt, row}

pub row_set : {X : Type 0} (rows : List (List X)) (r : ℕ) (xs : List X) → r < length rows → row (set rows r xs) r ≡ xs
row_set rows r xs lt = get_or-set_same _ _ _ _ lt

pub row_other : {X : Type 0} (rows : List (List X)) (r q : ℕ) (xs : List X) → q ≢ r → row (set rows r xs) q ≡ row rows q
row_other rows r q xs ne = get_or-set_other rows r q xs [] ne

-- a row with an item is there
pub row_there : {X : Type 0} (rows : List (List X)) (r i : ℕ) → i < length (row rows r) → r < length rows
row_there {X} rows r i lt = elim (cases_lt r (length rows)) [
  | inl h ↦ h
  | inr h ↦ let e : length (row rows r) ≡ 0 = ap length (get_or_past rows r [] h) in absurd (omega arith)
]
