-- Sums over slots that differ.
use Rattle.ksv_memo.proofs.Common.{◌≡◌, ◌≢◌, inl, inr, Bool, true, false, cond, ℕ, zero, suc, ◌+◌, ◌<◌, ◌≤◌, List, [], ◌∷◌, length, get_or, filter, Contains}
use Rattle.ksv_memo.proofs.Common.{refl, sym, ◌∙◌, arith, sum_by, AllByRecursion, sum_by-cons, numbers_from, IsOneOf, AllDiffer}
use Rattle.std.specs.List.{AllPairs}
use Rattle.ksv_memo.proofs.Laying.{one_of-all, All-numbers}

pub one_of-contains : (xs : List ℕ) (x : ℕ) → Contains xs x → IsOneOf xs x
one_of-contains [] x (k, lt, e) = absurd (omega arith)
one_of-contains (y ∷ xs) x (zero, lt, e) = inl e
one_of-contains (y ∷ xs) x (suc k, lt, e) = inr (one_of-contains xs x (k, (let l : k < length xs = omega arith in l), e))

each-from : (P : ℕ → Type 0) (xs : List ℕ) → ((k : ℕ) → k < length xs → P (get_or xs k 0)) → AllByRecursion P xs
each-from P [] h = tt
each-from P (x ∷ xs) h = (h 0 (omega arith), each-from P xs (λ k lt. h (suc k) (omega arith)))

pub differ : (xs : List ℕ) → AllPairs (λ (a b : ℕ). a ≢ b) xs → AllDiffer xs
differ [] h = tt
differ (x ∷ xs) h = (
  each-from (λ j. x ≢ j) xs (λ k lt. h 0 (suc k) 0 (omega arith) (omega arith)),
  differ xs
      (λ i j d lt l. h (suc i) (suc j) d (omega arith) (omega arith)),
)

pub numbers-differ : (a n : ℕ) → AllDiffer (numbers_from a n)
numbers-differ a zero = tt
numbers-differ a (suc n) = (All-numbers (λ j. a ≢ j) (a + 1) n (λ j le lt e. omega arith), numbers-differ (a + 1) n)

filter-all : (P : ℕ → Type 0) (p : ℕ → Bool) (xs : List ℕ) → AllByRecursion P xs → AllByRecursion P (filter p xs)
filter-all P p [] h = tt
filter-all P p (x ∷ xs) h = by (p x) (filter-all P p xs h.1)
  where
    by : (b : Bool) → AllByRecursion P (filter p xs) → AllByRecursion P (cond b (x ∷ filter p xs) (filter p xs))
    by true rest = (h.0, rest)
    by false rest = rest

pub filter-differ : (p : ℕ → Bool) (xs : List ℕ) → AllDiffer xs → AllDiffer (filter p xs)
filter-differ p [] h = tt
filter-differ p (x ∷ xs) h = by (p x) (filter-differ p xs h.1)
  where
    by : (b : Bool) → AllDiffer (filter p xs) → AllDiffer (cond b (x ∷ filter p xs) (filter p xs))
    by true rest = (filter-all (λ j. x ≢ j) p xs h.0, rest)
    by false rest = rest

pub filter-passes : (p : ℕ → Bool) (xs : List ℕ) (x : ℕ) → IsOneOf (filter p xs) x → p x ≡ true
filter-passes p [] x h = absurd h
filter-passes p (y ∷ xs) x h = by (p y) refl h (filter-passes p xs x)
  where
    by : (b : Bool) → p y ≡ b → IsOneOf (cond b (y ∷ filter p xs) (filter p xs)) x → (IsOneOf (filter p xs) x → p x ≡ true) → p x ≡ true
    by true e (inl same) later = cc
    by true e (inr k) later = later k
    by false e k later = later k

-- a member's part, and the sum of the others
cut : (f : ℕ → ℕ) (vs : List ℕ) (w : ℕ) → IsOneOf vs w
    → (rest : List ℕ) × (sum_by f vs ≡ f w + sum_by f rest) × ((x : ℕ) → x ≢ w → IsOneOf vs x → IsOneOf rest x)
cut f [] w h = absurd h
cut f (v ∷ vs) w (inl e) = (vs, cc (sum_by-cons f v vs), λ x ne m. later x ne m)
  where
    later : (x : ℕ) → x ≢ w → IsOneOf (v ∷ vs) x → IsOneOf vs x
    later x ne (inl q) = absurd (ne (sym q ∙ e))
    later x ne (inr m) = m
cut f (v ∷ vs) w (inr h) =
    let c = cut f vs w h in
    let a = sum_by-cons f v vs in
    let b = sum_by-cons f v c.0 in
    (v ∷ c.0, omega arith, λ x ne m. later c.0 c.2 x ne m)
  where
    later : (rest : List ℕ) → ((x : ℕ) → x ≢ w → IsOneOf vs x → IsOneOf rest x) → (x : ℕ) → x ≢ w → IsOneOf (v ∷ vs) x → IsOneOf (v ∷ rest) x
    later rest k x ne (inl q) = inl q
    later rest k x ne (inr m) = inr (k x ne m)

-- a sum over slots that differ is no more than one over slots with these among them
pub sum-within : (f : ℕ → ℕ) (ws vs : List ℕ) → AllDiffer ws → ((x : ℕ) → IsOneOf ws x → IsOneOf vs x) → sum_by f ws ≤ sum_by f vs
sum-within f [] vs d h = omega arith
sum-within f (w ∷ ws) vs d h =
    let c = cut f vs w (h w (inl refl)) in
    omega (arith, sum-within f ws c.0 d.1 (λ x m. c.2 x (λ e. one_of-all (λ j. w ≢ j) ws d.0 x m (sym e)) (h x (inr m))), sum_by-cons f w ws)

pub sum-alike : (f g : ℕ → ℕ) (xs : List ℕ) → AllByRecursion (λ x. f x ≡ g x) xs → sum_by f xs ≡ sum_by g xs
sum-alike f g [] h = refl
sum-alike f g (x ∷ xs) h = sum_by-cons f x xs ∙ (λ i. h.0 i + sum-alike f g xs h.1 i) ∙ sym (sum_by-cons g x xs)
