-- The items of pages are no more than the pages that uses meet.
use Rattle.ksv_memo_links.proofs.Common.{◌≡◌, ℕ, zero, suc, ◌+◌, ◌-◌, ◌≤◌, Bool, cond, nat_lt, List, [], ◌∷◌, length, refl, ap, arith, sum_by}
use Rattle.ksv_memo_links.proofs.Common.{count_by, sum_by-cons, row, one_if, naming, sizes}
use Rattle.std.proofs.Common.{◌&&◌, nat_le, nat_eq, ◌||◌}
use Rattle.std.proofs.lemmas.Bool.Decides.{nat_tests}
use Rattle.std.proofs.lemmas.List.Sums.{sum_by-le-sum_by}

-- a page is from a on and before b
abbrev pub within : ℕ → ℕ → ℕ → Bool
within a b g = nat_le a g && nat_lt g b

-- one page more
step-one : (a b g : ℕ) → a ≤ b → cond (within a (suc b) g) 1 0 ≡ cond (within a b g) 1 0 + one_if b g
step-one a b g le = grind (arith, nat_tests)

sums : {X : Type 0} (f g h : X → ℕ) → ((x : X) → h x ≡ f x + g x) → (xs : List X) → sum_by h xs ≡ sum_by f xs + sum_by g xs
sums f g h each [] = refl
sums f g h each (x ∷ xs) =
    omega (arith, sum_by-cons f x xs, sum_by-cons g x xs, sum_by-cons h x xs, each x, sums f g h each xs)

-- the pages of rows that are in the range
abbrev pub tally : ℕ → ℕ → List (List ℕ) → ℕ
tally a b rows = sum_by (λ ns. count_by (within a b) ns) rows

tally-more : (a b : ℕ) (rows : List (List ℕ)) → a ≤ b → tally a (suc b) rows ≡ tally a b rows + naming rows b
tally-more a b rows le = sums (λ ns. count_by (within a b) ns) (λ ns. sum_by (one_if b) ns) (λ ns. count_by (within a (suc b)) ns)
    (λ ns. sums (λ g. cond (within a b g) 1 0) (one_if b) (λ g. cond (within a (suc b) g) 1 0) (λ g. step-one a b g le) ns) rows

pub sizes-few : {X : Type 0} (lists : List (List X)) (rows : List (List ℕ)) (a n : ℕ) → ((l : ℕ) → length (row lists l) ≤ naming rows l)
    → sizes lists (n + a) ≤ sizes lists a + tally a (n + a) rows
sizes-few lists rows a zero few = let e : 0 + a ≡ a = omega arith in omega (arith, ap (sizes lists) e)
sizes-few lists rows a (suc n) few =
    let ih = sizes-few lists rows a n few in
    let f = few (n + a) in
    let m = tally-more a (n + a) rows (omega arith) in
    let e : suc n + a ≡ suc (n + a) = omega arith in
    omega (arith, ap (sizes lists) e, ap (λ k. tally a k rows) e)

pub sizes-grow : {X : Type 0} (lists : List (List X)) (a n : ℕ) → sizes lists a ≤ sizes lists (n + a)
sizes-grow lists a zero = let e : 0 + a ≡ a = omega arith in omega (arith, ap (sizes lists) e)
sizes-grow lists a (suc n) = let ih = sizes-grow lists a n in let e : suc n + a ≡ suc (n + a) = omega arith in omega (arith, ap (sizes lists) e)

pub sizes-up : {X : Type 0} (lists : List (List X)) (a b : ℕ) → a ≤ b → sizes lists a ≤ sizes lists b
sizes-up lists a b le = let g = sizes-grow lists a (b - a) in let e : b - a + a ≡ b = omega arith in omega (arith, ap (sizes lists) e)

-- sums over rows that are read alike
pub rows-le : {X Y : Type 0} (f : List X → ℕ) (g : List Y → ℕ) (xs : List (List X)) (ys : List (List Y)) → f [] ≡ 0 → g [] ≡ 0
    → ((r : ℕ) → f (row xs r) ≡ g (row ys r)) → sum_by f xs ≤ sum_by g ys
rows-le f g [] ys z y h = omega arith
rows-le f g (x ∷ xs) [] z y h =
    let b : f x ≡ g [] = h 0 in
    omega (arith, sum_by-cons f x xs, rows-le f g xs [] z y (λ r. h (suc r)))
rows-le f g (x ∷ xs) (u ∷ ys) z y h =
    let b : f x ≡ g u = h 0 in
    omega (arith, sum_by-cons f x xs, sum_by-cons g u ys, rows-le f g xs ys z y (λ r. h (suc r)))

-- ---- what is after a place
counts : (p q : ℕ → Bool) → ((x : ℕ) → cond (p x) 1 0 ≤ cond (q x) 1 0) → (xs : List ℕ) → count_by p xs ≤ count_by q xs
counts p q each xs = sum_by-le-sum_by (λ x. cond (p x) 1 0) (λ x. cond (q x) 1 0) xs each

within-behind : (a b g : ℕ) → cond (within a b g) 1 0 ≤ cond (nat_le a g) 1 0
within-behind a b g = grind (arith, nat_tests)

pub tally-behind : (a b : ℕ) (rows : List (List ℕ)) → tally a b rows ≤ sum_by (λ ns. count_by (nat_le a) ns) rows
tally-behind a b rows = sum_by-le-sum_by (λ ns. count_by (within a b) ns) (λ ns. count_by (nat_le a) ns) rows
    (λ ns. counts (within a b) (nat_le a) (within-behind a b) ns)

-- the size and what is after a place, together
end-one : (a b l : ℕ) → cond (within 0 1 l) 1 0 + cond (within (a + 1) b l) 1 0 ≤ cond (nat_eq l 0 || nat_lt a l) 1 0
end-one a b l = grind (arith, nat_tests)

two-sums : {X : Type 0} (f g h : X → ℕ) → ((x : X) → f x + g x ≤ h x) → (xs : List X) → sum_by f xs + sum_by g xs ≤ sum_by h xs
two-sums f g h each [] = omega arith
two-sums f g h each (x ∷ xs) =
    omega (arith, sum_by-cons f x xs, sum_by-cons g x xs, sum_by-cons h x xs, each x, two-sums f g h each xs)

pub tally-ends : (a b : ℕ) (rows : List (List ℕ)) → tally 0 1 rows + tally (a + 1) b rows ≤ sum_by (λ ns. count_by (λ l. nat_eq l 0 || nat_lt a l) ns) rows
tally-ends a b rows = two-sums (λ ns. count_by (within 0 1) ns) (λ ns. count_by (within (a + 1) b) ns) (λ ns. count_by (λ l. nat_eq l 0 || nat_lt a l) ns)
    (λ ns. two-sums _ _ _ (end-one a b) ns) rows

size-one : (l : ℕ) → cond (within 0 1 l) 1 0 ≤ cond (nat_eq l 0) 1 0
size-one l = grind (arith, nat_tests)

pub tally-size : (rows : List (List ℕ)) → tally 0 1 rows ≤ sum_by (λ ns. count_by (λ l. nat_eq l 0) ns) rows
tally-size rows = sum_by-le-sum_by (λ ns. count_by (within 0 1) ns) (λ ns. count_by (λ l. nat_eq l 0) ns) rows
    (λ ns. counts (within 0 1) (λ l. nat_eq l 0) size-one ns)
