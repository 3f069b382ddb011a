-- With lemmas, which a reader may skip.
-- Each path has a number of its own, which only contracts see; there are finitely many.
use Rattle.std.specs.Prelude.{◌≡◌, ℕ, ◌+◌, ◌*◌, ◌^◌, ◌<◌, ◌≤◌, zero, suc, List, [], ◌∷◌, length, true, refl}
use Rattle.std.specs.List.{list_all}
use Rattle.std.specs.Cmp.{first_so, second_so}
use Rattle.std.proofs.Common.{arith, ap}
use Rattle.std.proofs.lemmas.Bool.{ltb-true}
use Rattle.std.proofs.Math.Nat.{pow-suc, one-le-pow}
use Rattle.ksv_expr_value.specs.declared.step.Step.{Step}
use Rattle.ksv_expr_value.specs.declared.step.Step.TheVariants.{Name, Index}
use Rattle.ksv_expr_value.specs.Trail.{Trail, same_trail, step_fits, all_fit, length-fits}

-- a digit for each step, from 1 to 2^33 - 1
digit : Step → ℕ
digit (Name n) = 2 * n + 1
digit (Index i) = 2 * i + 2

digit-low : (s : Step) → 0 < digit s
unfolding digit
digit-low (Name n) = omega arith
digit-low (Index i) = omega arith

digit-high : (s : Step) → step_fits s ≡ true → digit s < 2 ^ 33
unfolding digit
digit-high (Name n) h = let lt : n < 2 ^ 32 = ltb-true n (2 ^ 32) h in omega arith
digit-high (Index i) h = let lt : i < 1048576 = ltb-true i 1048576 h in omega arith

digit-one : (s t : Step) → digit s ≡ digit t → s ≡ t
unfolding digit
digit-one (Name n) (Name m) e = let same : n ≡ m = omega arith in ap Name same
digit-one (Name n) (Index j) e = absurd (omega arith)
digit-one (Index i) (Name m) e = absurd (omega arith)
digit-one (Index i) (Index j) e = let same : i ≡ j = omega arith in ap Index same

number : List Step → ℕ
number [] = 0
number (s ∷ q) = digit s + 2 ^ 33 * number q

low_digit : (a b x y : ℕ) → a < 2 ^ 33 → b < 2 ^ 33 → a + 2 ^ 33 * x ≡ b + 2 ^ 33 * y → a ≡ b
low_digit a b x y la lb e = omega arith

high_digits : (a b x y : ℕ) → a < 2 ^ 33 → b < 2 ^ 33 → a + 2 ^ 33 * x ≡ b + 2 ^ 33 * y → x ≡ y
high_digits a b x y la lb e = omega arith

number-one : (p q : List Step) → list_all step_fits p ≡ true → list_all step_fits q ≡ true → number p ≡ number q → p ≡ q
unfolding number
number-one [] [] hp hq e = refl
number-one [] (t ∷ q) hp hq e = absurd (omega (arith, digit-low t))
number-one (s ∷ p) [] hp hq e = absurd (omega (arith, digit-low s))
number-one (s ∷ p) (t ∷ q) hp hq e =
    let ls = digit-high s (first_so (step_fits s) (list_all step_fits p) hp) in
    let lt = digit-high t (first_so (step_fits t) (list_all step_fits q) hq) in
    let same = digit-one s t (low_digit (digit s) (digit t) (number p) (number q) ls lt e) in
    let rest = number-one p q (second_so (step_fits s) (list_all step_fits p) hp) (second_so (step_fits t) (list_all step_fits q) hq) (high_digits (digit s) (digit t) (number p) (number q) ls lt e) in
    λ i. same i ∷ rest i

one_more : (d x p : ℕ) → d < 2 ^ 33 → x < p → d + 2 ^ 33 * x < p * 2 ^ 33
one_more d x p ld lx = omega arith

number-below : (k : ℕ) (p : List Step) → length p ≤ k → list_all step_fits p ≡ true → number p < (2 ^ 33) ^ k
unfolding number
number-below k [] le h = one-le-pow k (2 ^ 33) (omega arith)
number-below zero (s ∷ p) le h = absurd (omega arith)
number-below (suc k) (s ∷ p) le h =
    let ls = digit-high s (first_so (step_fits s) (list_all step_fits p) h) in
    let rest = number-below k p (omega arith) (second_so (step_fits s) (list_all step_fits p) h) in
    rw (pow-suc (2 ^ 33) k) (one_more (digit s) (number p) ((2 ^ 33) ^ k) ls rest)

-- the path's own number
pub path_number : Trail → ℕ
path_number t = number t.upward

-- a bound above every path's number
pub path_bound : ℕ
path_bound = (2 ^ 33) ^ 64

-- paths of one number are the same
pub path_number-one : (a b : Trail) → path_number a ≡ path_number b → a ≡ b
unfolding path_number
path_number-one a b e = same_trail a b (number-one a.upward b.upward (all_fit a) (all_fit b) e)

-- each path's number is below the bound
pub path_number-below : (a : Trail) → path_number a < path_bound
unfolding path_number path_bound
path_number-below a = number-below 64 a.upward (length-fits a.upward a.valid) (all_fit a)

-- paths are numbered one to one, below a bound
pub record ArePathsNumbered : Type 0 where
  pub one : (a b : Trail) → path_number a ≡ path_number b → a ≡ b
  pub below : (a : Trail) → path_number a < path_bound
