-- Rows that are copied one upon another.
use Rattle.ksv_memo_links.proofs.Common.{◌≡◌, inl, inr, ℕ, ◌+◌, ◌<◌, ◌≤◌, List, [], length, set, get_or, sym, ◌∙◌, arith}
use Rattle.ksv_memo_links.proofs.Common.{eqb_tells, length-set, get_or_default, Item, row, IsListed}
use Rattle.std.proofs.lemmas.List.{same_lists}
use Rattle.ksv_memo_links.proofs.Edits.{row_set, row_other, row_there}

-- the rows before one are copied, and the others are empty
pub record IsCopied (from to : List (List ℕ)) (o : ℕ) : Type 0 where
  pub size : length to ≡ length from
  pub done : (t : ℕ) → t < o → row to t ≡ row from t
  pub none : (t : ℕ) → o ≤ t → row to t ≡ []

pub copied-more : {from to then : List (List ℕ)} {o : ℕ} {xs : List ℕ} → IsCopied from to o → o < length from → xs ≡ row from o → then ≡ set to o xs
    → IsCopied from then (o + 1)
copied-more {to} {o} {xs} h lt e f = record {
  size = cc (length-set to o xs);
  done = λ t l. elim (eqb_tells t o) [
    | inl y ↦ cc (row_set to o xs (omega arith))
    | inr y ↦ cc (row_other to o t xs y.1, h.done t (omega arith))
  ];
  none = λ t l. cc (row_other to o t xs (λ y. absurd (omega arith)), h.none t (omega arith));
}

pub copied-all : {from to : List (List ℕ)} {o : ℕ} → IsCopied from to o → length from ≤ o → to ≡ from
copied-all {from} {to} h le = same_lists to from h.size
    (λ t d lt. get_or_default to t d [] lt ∙ h.done t (omega arith) ∙ sym (get_or_default from t d [] (omega arith)))

-- what is named is a list that is there
pub list-there : {lists : List (List Item)} {named : List (List ℕ)} (s : ℕ) → IsListed lists named → (k d : ℕ) → k < length (row named s)
    → get_or (row named s) k d < length lists
list-there {lists} {named} s h k d lt =
    let f = h.found s k lt in
    omega (arith, row_there lists (get_or (row named s) k 0) f.0 f.1, get_or_default (row named s) k d 0 lt)
