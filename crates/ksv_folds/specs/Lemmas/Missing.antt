-- The nodes of elements that aren't there, by their numbers from the first.
use Rattle.std.proofs.Common.{◌≡◌, ◌≢◌, ◌∙◌, ℕ, ◌+◌, ◌*◌, ◌/◌, ◌%◌, ◌==◌, ◌⊎◌, inl, inr, Bool, true, false, if◌then◌else◌, refl, sym, ap, subst, arith}
use Rattle.std.proofs.lemmas.Bool.Decides.{nat_tests}
use Rattle.ksv_folds.specs.Sequence.{missing_at, missing_calls}
use Rattle.ksv_folds.specs.declared.spot.Numbered.{Numbered}
use Rattle.ksv_folds.specs.declared.spot.Numbered.TheVariants.{MissingHead, MissingEnd}

-- a number is even, or it isn't
pub halved : (r : ℕ) → (r ≡ 2 * (r / 2)) ⊎ (r ≡ 2 * (r / 2) + 1)
halved r = by (r % 2 == 0) refl
  where
    by : (b : Bool) → (r % 2 == 0) ≡ b → (r ≡ 2 * (r / 2)) ⊎ (r ≡ 2 * (r / 2) + 1)
    by true e = let none : r % 2 ≡ 0 = grind (arith, nat_tests) in inl (omega (arith, none))
    by false e = let some : r % 2 ≢ 0 = grind (arith, nat_tests) in inr (omega (arith, some))

pub even_at : (k : ℕ) → missing_at (2 * k) ≡ MissingHead k
even_at k =
    let none : (2 * k) % 2 ≡ 0 = omega arith in
    let so : ((2 * k) % 2 == 0) ≡ true = grind (arith, nat_tests) in
    let half : (2 * k) / 2 ≡ k = omega arith in
    ap (λ b. if b then MissingHead ((2 * k) / 2) else MissingEnd ((2 * k) / 2)) so ∙ ap MissingHead half

pub odd_at : (k : ℕ) → missing_at (2 * k + 1) ≡ MissingEnd k
odd_at k =
    let one : (2 * k + 1) % 2 ≡ 1 = omega arith in
    let so : ((2 * k + 1) % 2 == 0) ≡ false = grind (arith, nat_tests) in
    let half : (2 * k + 1) / 2 ≡ k = omega arith in
    ap (λ b. if b then MissingHead ((2 * k + 1) / 2) else MissingEnd ((2 * k + 1) / 2)) so ∙ ap MissingEnd half

-- what is so of all heads and ends is so of each node
pub each_missing : (P : ℕ → Numbered → Type 0) → ((k : ℕ) → P (2 * k) (MissingHead k)) → ((k : ℕ) → P (2 * k + 1) (MissingEnd k)) → (r : ℕ) → P r (missing_at r)
each_missing P heads ends r = elim (halved r) [
  | inl e ↦ subst (λ n. P n (missing_at n)) (sym e) (subst (P (2 * (r / 2))) (sym (even_at (r / 2))) (heads (r / 2)))
  | inr e ↦ subst (λ n. P n (missing_at n)) (sym e) (subst (P (2 * (r / 2) + 1)) (sym (odd_at (r / 2))) (ends (r / 2)))
]

-- the calls before a head, and before an end
pub even_calls : (k : ℕ) → missing_calls (2 * k) ≡ 5 * k
even_calls k = omega arith

pub odd_calls : (k : ℕ) → missing_calls (2 * k + 1) ≡ 5 * k + 3
odd_calls k = omega arith
