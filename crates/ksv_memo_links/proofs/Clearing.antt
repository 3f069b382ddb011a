-- A row that is cut from its end.
use Rattle.ksv_memo_links.proofs.Common.{◌≡◌, ℕ, ◌-◌, ◌<◌, ◌≤◌, List, length, take, set, ◌∙◌, ap, arith, set-set, row, pop_row}
use Rattle.std.proofs.lemmas.List.{take-take, length-take-le}
use Rattle.ksv_memo_links.proofs.Edits.{row_set}

-- of row o the first elements are left
pub record IsCutTo {X : Type 0} (before now : List (List X)) (o : ℕ) : Type 0 where
  pub inside : o < length before
  pub short : length (row now o) ≤ length (row before o)
  pub is : now ≡ set before o (take (length (row now o)) (row before o))

-- what is left of the row after one more pop
pub cut-next : {X : Type 0} {before now then : List (List X)} {o : ℕ} → IsCutTo before now o → then ≡ pop_row now o
    → (row then o ≡ take (length (row now o) - 1) (row before o)) × (then ≡ set before o (take (length (row now o) - 1) (row before o)))
cut-next {X} {before} {now} {then} {o} h e =
    let n = length (row now o) in
    let here : row now o ≡ take n (row before o) = cc (row_set before o (take n (row before o)) h.inside) in
    let less : take (n - 1) (row now o) ≡ take (n - 1) (row before o) =
    cc (take-take (n - 1) n (row before o) (omega arith)) in
    let whole : then ≡ set before o (take (n - 1) (row before o)) =
    cc (set-set before o (take n (row before o)) (take (n - 1) (row before o))) in
    (cc (row_set before o (take (n - 1) (row before o)) h.inside), whole)

pub cut-length : {X : Type 0} (before now then : List (List X)) (o : ℕ) → IsCutTo before now o → then ≡ pop_row now o
    → length (row then o) ≡ length (row now o) - 1
cut-length {X} before now then o h e =
    ap length (cut-next h e).0 ∙ length-take-le (length (row now o) - 1) (row before o) (omega arith)

pub cut-more : {X : Type 0} (before now then : List (List X)) (o : ℕ) → IsCutTo before now o → then ≡ pop_row now o → IsCutTo before then o
cut-more {X} before now then o h e =
    let n = cut-length _ _ _ _ h e in
    record {
      inside = h.inside;
      short = omega arith;
      is = cc (cut-next h e).1;
    }
