use Rattle.ksv_memo_links.proofs.Common.{◌≡◌, ℕ, ◌≤◌, List, [], ◌∷◌, ◌++◌, length, map, replicate, take, refl, ◌∙◌, ap, arith, take_all, uses_of}
use Rattle.ksv_memo_links.proofs.Common.{HasSameRows}
use Rattle.std.proofs.Common.{rules}
use Rattle.std.specs.List.{FoldsTo}
use Rattle.ksv_memo_links.specs.declared.used.Noted.{Noted}
use Rattle.ksv_memo_links.specs.declared.used.Noted.TheVariants.{Nothing}
use Rattle.ksv_memo_links.proofs.Padding.{rows_more}
use Rattle.ksv_memo_links.proofs.used.reach_rows.Goals as goal

-- calls that give nothing give a list of nothing
all_nothing : {F : Type 0} (step : F → Noted → F → Type 0) → ((f : F) (v : Noted) (g : F) → step f v g → v ≡ Nothing) → (f last : F) (ys : List Noted)
    → FoldsTo step f ys last → ys ≡ replicate (length ys) Nothing
all_nothing {F} step h f last [] e = refl
all_nothing {F} step h f last (y ∷ ys) e = cc (h f y e.0 e.1, all_nothing step h e.0 last ys e.2)

same_padded : (rows : List Noted) {new ys : List Noted} (count : ℕ) → length rows ≤ count → new ≡ take count rows ++ ys → ys ≡ replicate (length ys) Nothing
    → HasSameRows (map uses_of rows) (map uses_of new)
same_padded rows {ys} count le e none = rw (e ∙ ap (λ xs. xs ++ ys) (take_all count rows le) ∙ ap (λ zs. rows ++ zs) none)
    (rows_more _ _ refl _ _ refl)

pub returns-in_ok-resize_with-clause-same : goal.returns-in_ok-resize_with-clause-same
returns-in_ok-resize_with-clause-same c = let h =
    c.in_ok-resize_with.ensures.items in same_padded c.args.rows.now.items c.args.count
    (omega (arith, c.if-len-count.true)) h.2 (all_nothing _ (λ f v g k. search rules) _ _ _ h.3)
