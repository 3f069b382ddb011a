-- A write to one row, as the list of rows sees it.
use Rattle.ksv_memo_links.proofs.Common.{◌≡◌, ℕ, ◌<◌, List, length, map, set, get_or, sym, ◌∙◌, ap, get_or-map, length-map, row}
use Rattle.std.proofs.lemmas.List.{map-set}

pub row_written : {X V : Type 0} (items : V → List X) (f : List X → List X) (vs : List V) {rows : List (List X)} (r : ℕ) {v : V} (w : V) → rows ≡ map items vs
    → v ≡ get_or vs r v → r < length rows → items w ≡ f (items v) → map items (set vs r w) ≡ set rows r (f (row rows r))
row_written {X} {V} items f vs {rows} r {v} w same is lt written =
    let inside : r < length vs = simp (same, length-map) at lt in
    let there : row rows r ≡ items v = ap (λ q. row q r) same ∙ get_or-map items vs r v _ inside ∙ ap items (sym is) in
    cc (map-set items vs r w)

-- a row that was read
pub row_read : {X V : Type 0} (items : V → List X) (vs : List V) {rows : List (List X)} (r : ℕ) {v : V} → rows ≡ map items vs → v ≡ get_or vs r v
    → r < length rows → row rows r ≡ items v
row_read {X} {V} items vs r {v} same is lt =
    let inside : r < length vs = simp (same, length-map) at lt in
    ap (λ q. row q r) same ∙ get_or-map items vs r v _ inside ∙ ap items (sym is)
