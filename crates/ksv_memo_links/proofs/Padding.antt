-- More rows at the end, which are empty.
use Rattle.ksv_memo_links.proofs.Common.{◌≡◌, ◌⊎◌, inl, inr, ℕ, ◌-◌, ◌<◌, ◌≤◌, List, [], ◌++◌, length, map, get_or, replicate, refl, sym, ◌∙◌, ap, arith}
use Rattle.ksv_memo_links.proofs.Common.{cases_lt, length-append, length-map, get_or_append_left, get_or_past, get_or-map, row, HasSameRows}
use Rattle.std.proofs.lemmas.List.{length-replicate, get_or-append_right, get_or-replicate}

-- what lies after is what is found where there is nothing
pub padded : {X : Type 0} (xs : List X) (n r : ℕ) (d : X) → get_or (xs ++ replicate n d) r d ≡ get_or xs r d
padded {X} xs n r d = elim (cases_lt r (length xs)) [
  | inl lt ↦ get_or_append_left _ _ _ _ lt
  | inr le ↦ get_or-append_right xs (replicate n d) (length xs) r d refl le ∙ none (r - length xs) (cases_lt (r - length xs) n)
      ∙ sym (get_or_past xs r d le)
]
  where
    none : (k : ℕ) → (k < n) ⊎ (n ≤ k) → get_or (replicate n d) k d ≡ d
    none k (inl lt) = get_or-replicate n k d d lt
    none k (inr le) = get_or_past (replicate n d) k d (omega (arith, length-replicate n d))

-- a row, where what is found where there is nothing has no items
row_map : {V X : Type 0} (f : V → List X) (d : V) → f d ≡ [] → (rows : List V) (r : ℕ) → row (map f rows) r ≡ f (get_or rows r d)
row_map {V} {X} f d none rows r = elim (cases_lt r (length rows)) [
  | inl lt ↦ get_or-map _ _ _ _ _ lt
  | inr le ↦ get_or_past (map f rows) r [] (omega (arith, length-map rows f)) ∙ sym (ap f (get_or_past rows r d le) ∙ none)
]

pub rows_more : {V X : Type 0} (f : V → List X) (d : V) → f d ≡ [] → {seen : List (List X)} (rows : List V) (n : ℕ) → map f rows ≡ seen
    → HasSameRows seen (map f (rows ++ replicate n d))
rows_more {V} {X} f d none rows n same = rw (← same) (record {
  more = omega (arith, length-map rows f, length-map (rows ++ replicate n d) f, length-append rows (replicate n d));
  each = λ r. row_map f d none (rows ++ replicate n d) r ∙ ap f (padded rows n r d) ∙ sym (row_map f d none rows r);
})
