-- Spots, of which the paths and the kinds are lists of their own.
use Rattle.ksv_places.proofs.Common.{◌≡◌, ℕ, zero, suc, ◌<◌, List, [], ◌∷◌, ◌++◌, length, get_or, set, refl, ap, arith, Result, Ok, Err, OnErr, NodeKind, Spot}
use Rattle.ksv_places.proofs.Common.{spots_of}

pub count : (rs : List ℕ) (ks : List NodeKind) → length ks ≡ length rs → length (spots_of rs ks) ≡ length rs
count [] ks e = refl
count (r ∷ rs) [] e = absurd (omega arith)
count (r ∷ rs) (k ∷ ks) e = let n = count rs ks (omega arith) in omega arith

pub paired : (rs : List ℕ) (ks : List NodeKind) → length ks ≡ length rs → (i : ℕ) → i < length rs → (r : ℕ) (k : NodeKind) (d : Spot)
    → get_or (spots_of rs ks) i d ≡ record { path = get_or rs i r; kind = get_or ks i k }
paired [] ks e i lt r k d = absurd (omega arith)
paired (q ∷ rs) [] e i lt r k d = absurd (omega arith)
paired (q ∷ rs) (l ∷ ks) e zero lt r k d = refl
paired (q ∷ rs) (l ∷ ks) e (suc i) lt r k d = paired rs ks (omega arith) i (omega arith) r k d

pub pushed : (rs : List ℕ) (ks : List NodeKind) → length ks ≡ length rs → (r : ℕ) (k : NodeKind)
    → spots_of (rs ++ r ∷ []) (ks ++ k ∷ []) ≡ spots_of rs ks ++ record { path = r; kind = k } ∷ []
pushed [] [] e r k = refl
pushed [] (l ∷ ks) e r k = absurd (omega arith)
pushed (q ∷ rs) [] e r k = absurd (omega arith)
pushed (q ∷ rs) (l ∷ ks) e r k = ap (λ (ss : List Spot). record { path = q; kind = l } ∷ ss) (pushed rs ks (omega arith) r k)

pub put : (rs : List ℕ) (ks : List NodeKind) → length ks ≡ length rs → (i r : ℕ) (k : NodeKind)
    → spots_of (set rs i r) (set ks i k) ≡ set (spots_of rs ks) i (record { path = r; kind = k })
put [] ks e i r k = refl
put (q ∷ rs) [] e i r k = absurd (omega arith)
put (q ∷ rs) (l ∷ ks) e zero r k = refl
put (q ∷ rs) (l ∷ ks) e (suc i) r k = ap (λ (ss : List Spot). record { path = q; kind = l } ∷ ss) (put rs ks (omega arith) i r k)

-- what holds anyway holds where a call fails
pub on_err : {A E : Type 0} (r : Result A E) (X : Type 0) → X → OnErr r X
on_err (Ok a) X x = tt
on_err (Err e) X x = x
