-- A loop that changes each element of a list in its place.
use Rattle.ksv_schema.proofs.Common.{◌≡◌, ℕ, zero, suc, ◌+◌, ◌<◌, ◌≤◌, List, [], ◌∷◌, length, get_or, map, refl, ap, ◌∙◌, arith}
use Rattle.std.proofs.Common.{◌≢◌, set, below_more, get_or-set_other, get_or-set_same}

same_at : {X : Type 0} (xs : List X) (i : ℕ) (d e : X) → i < length xs → get_or xs i d ≡ get_or xs i e
same_at [] i d e lt = absurd (omega arith)
same_at (x ∷ xs) zero d e lt = refl
same_at (x ∷ xs) (suc i) d e lt = same_at xs i d e (omega arith)

pub each_same : {X A : Type 0} (see : X → A) (f : A → A) (xs ys : List X) → length xs ≡ length ys
    → ((k : ℕ) → k < length ys → (z : X) → see (get_or xs k z) ≡ f (see (get_or ys k z))) → map see xs ≡ map f (map see ys)
each_same see f [] [] same each = refl
each_same see f [] (y ∷ ys) same each = absurd (omega arith)
each_same see f (x ∷ xs) [] same each = absurd (omega arith)
each_same see f (x ∷ xs) (y ∷ ys) same each =
    ap (λ (a : _). a ∷ map see xs) (each 0 (omega arith) x)
    ∙ ap (λ (l : List _). f (see y) ∷ l) (each_same see f xs ys (omega arith) (λ k below z. each (suc k) (omega arith) z))

module _ {X A : Type 0} (see : X → A) (f : A → A) (now initial : List X) (i : ℕ) (x new : X) where
  pub done_more : i < length now → see new ≡ f (see (get_or now i x)) → ((k : ℕ) (z : X) → i ≤ k → get_or now k z ≡ get_or initial k z)
      → ((k : ℕ) → k < i → (z : X) → see (get_or now k z) ≡ f (see (get_or initial k z))) → (k : ℕ) → k < i + 1 → (z : X)
      → see (get_or (set now i new) k z) ≡ f (see (get_or initial k z))
  done_more lt made left done =
      below_more (λ (k : ℕ). (z : X) → see (get_or (set now i new) k z) ≡ f (see (get_or initial k z))) i
      (λ k below z. let ne : k ≢ i = omega arith in ap see (get_or-set_other now i k new z ne) ∙ done k below z)
      (λ z. ap see (get_or-set_same now i new z lt) ∙ made ∙ ap (λ (y : X). f (see y)) (same_at now i x z lt ∙ left i z (omega arith)))

  pub left_less : ((k : ℕ) (z : X) → i ≤ k → get_or now k z ≡ get_or initial k z) → (k : ℕ) (z : X) → i + 1 ≤ k
      → get_or (set now i new) k z ≡ get_or initial k z
  left_less left k z le = let ne : k ≢ i = omega arith in get_or-set_other now i k new z ne ∙ left k z (omega arith)
