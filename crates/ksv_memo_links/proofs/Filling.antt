-- A row that is filled number by number.
use Rattle.ksv_memo_links.proofs.Common.{◌≡◌, ℕ, ◌+◌, ◌<◌, List, length, ◌∷◌, ◌++◌, [], take, set, get_or, ◌∙◌, set-set, row, push_row}
use Rattle.std.proofs.lemmas.List.{take_more}
use Rattle.ksv_memo_links.proofs.Edits.{row_set}

filled : (before now : List (List ℕ)) (o i n : ℕ) (ns : List ℕ) → o < length before → i < length ns → n ≡ get_or ns i 0 → now ≡ set before o (take i ns)
    → push_row now o n ≡ set before o (take (i + 1) ns)
filled before now o i n ns lt li is e =
    let here : row now o ≡ take i ns = cc (row_set before o (take i ns) lt) in
    let next : row now o ++ n ∷ [] ≡ take (i + 1) ns = cc (take_more ns i 0 li) in
    cc (set-set before o (take i ns) (take (i + 1) ns))

pub one-more : (before : List (List ℕ)) {now then : List (List ℕ)} (o i : ℕ) {n : ℕ} (ns : List ℕ) → o < length before → i < length ns → n ≡ get_or ns i 0
    → now ≡ set before o (take i ns) → then ≡ push_row now o n → then ≡ set before o (take (i + 1) ns)
one-more before {now} o i {n} ns lt li is e f = f ∙ filled before now o i n ns lt li is e
