-- What is noted one after another.
use Rattle.ksv_schema.proofs.Common.{◌≡◌, ℕ, List, [], ◌++◌, sym, ap, ◌∙◌, refl, Option, suc, ◌+◌, ◌<◌, ◌≤◌, length, get_or, drop, map, add-one, drop-cons}
use Rattle.ksv_schema.proofs.Common.{flat_map, drop_all, Fault, noted}
use Rattle.std.proofs.lemmas.List.Sums.{fold-append}
use Rattle.ksv_schema.specs.Faults.{lesser}

-- the faults of two parts are noted one part after the other
pub noted_append : (o : Option Fault) (xs ys : List Fault) → noted o (xs ++ ys) ≡ noted (noted o xs) ys
unfolding noted
noted_append o xs ys = fold-append lesser o xs ys

pub noted_none : (o : Option Fault) → noted o [] ≡ o
unfolding noted
noted_none o = refl

-- ---- a loop that notes the faults of each element

pub noted_step : {X A : Type 0} (see : X → A) (f : A → List Fault) (xs : List X) (i : ℕ) (x : X) (o p q : Option Fault) → i < length xs → x ≡ get_or xs i x
    → p ≡ noted o (f (see x))
    → noted o (flat_map f (map see (drop i xs))) ≡ q → noted p (flat_map f (map see (drop (i + 1) xs))) ≡ q
noted_step see f xs i x o p q lt is new now =
    ap (λ (j : ℕ). noted p (flat_map f (map see (drop j xs)))) (add-one i)
    ∙ ap (λ (p : Option Fault). noted p (flat_map f (map see (drop (suc i) xs)))) (new ∙ ap (λ (y : _). noted o (f (see y))) is)
    ∙ sym (noted_append o (f (see (get_or xs i x))) (flat_map f (map see (drop (suc i) xs))))
    ∙ sym (ap (λ (ys : List _). noted o (flat_map f (map see ys))) (drop-cons xs i x lt)) ∙ now

pub noted_end : {X A : Type 0} (see : X → A) (f : A → List Fault) (xs : List X) (i : ℕ) (o q : Option Fault) → length xs ≤ i
    → noted o (flat_map f (map see (drop i xs))) ≡ q → o ≡ q
noted_end see f xs i o q le now = sym (noted_none o) ∙ ap (λ (ys : List _). noted o (flat_map f (map see ys))) (sym (drop_all i xs le)) ∙ now

pub ruleset steps = (noted_append, noted_none)
