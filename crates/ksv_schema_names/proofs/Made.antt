-- Lists to which a loop adds what it makes of each element.
use Rattle.ksv_schema_names.proofs.Common.{◌≡◌, ℕ, suc, ◌+◌, ◌<◌, List, ◌∷◌, ◌++◌, length, get_or, drop, sym, ap, ◌∙◌}
use Rattle.std.proofs.Common.{add-one, drop-cons, append_assoc}

-- what is made of one element is added to what was made of those before it
pub added : {X B : Type 0} (xs : List X) (rest : ℕ → List X → List B) (i : ℕ) (x : X) (here made more whole : List B) → i < length xs → x ≡ get_or xs i x
    → ((ys : List X) → rest i (x ∷ ys) ≡ here ++ rest (i + 1) ys) → more ≡ made ++ here → made ++ rest i (drop i xs) ≡ whole
    → more ++ rest (i + 1) (drop (i + 1) xs) ≡ whole
added {X = X} {B = B} xs rest i x here made more whole lt is next new now =
    ap (λ (ys : List B). ys ++ rest (i + 1) (drop (i + 1) xs)) new ∙ append_assoc made here (rest (i + 1) (drop (i + 1) xs))
    ∙ ap (λ (ys : List B). made ++ ys) (sym (next (drop (i + 1) xs))) ∙ ap (λ (j : ℕ). made ++ rest i (x ∷ drop j xs)) (add-one i)
    ∙ ap (λ (y : X). made ++ rest i (y ∷ drop (suc i) xs)) is ∙ sym (ap (λ (ys : List X). made ++ rest i ys) (drop-cons xs i x lt)) ∙ now
