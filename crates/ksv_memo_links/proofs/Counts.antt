-- How often a list is named, after one more and one less.
use Rattle.ksv_memo_links.proofs.Common.{◌≡◌, ℕ, ◌+◌, ◌-◌, ◌<◌, List, [], ◌∷◌, ◌++◌, length, take, get_or, ap, arith, sum_by, take_all, sum_by-set, row}
use Rattle.ksv_memo_links.proofs.Common.{pop_row, push_row, one_if, naming}
use Rattle.std.proofs.lemmas.List.Sums.{sum_by_more, sum_by_push}

pub naming-push : (rows : List (List ℕ)) (o n l : ℕ) → o < length rows → naming (push_row rows o n) l ≡ naming rows l + one_if l n
naming-push rows o n l lt =
    omega (arith, sum_by-set (λ ns. sum_by (one_if l) ns) rows o (row rows o ++ n ∷ []) [] lt, sum_by_push (one_if l) (row rows o) n)

pub naming-pop : (rows : List (List ℕ)) (o l : ℕ) → o < length rows → 0 < length (row rows o)
    → naming (pop_row rows o) l + one_if l (get_or (row rows o) (length (row rows o) - 1) 0) ≡ naming rows l
naming-pop rows o l lt some =
    let k = length (row rows o) - 1 in
    let f : List ℕ → ℕ = λ ns. sum_by (one_if l) ns in
    let a = sum_by-set f rows o (take k (row rows o)) [] lt in
    let more : k + 1 ≡ length (row rows o) = omega arith in
    let whole : take (k + 1) (row rows o) ≡ row rows o = take_all (k + 1) (row rows o) (omega arith) in
    omega (arith, sum_by_more (one_if l) (row rows o) k 0 (omega arith), ap f whole)
