-- Floored division: its law; and the quotient and remainder by a divisor below 0, as the machine takes them of both numbers with
-- their signs turned.
use Rattle.std.proofs.Common.{◌≡◌, ℕ, zero, suc, ◌-◌, ◌^◌, ◌<◌, ◌≤◌, ◌%◌, ℤ, pos, negsuc, neg_ℤ, ◌+ℤ◌, ◌-ℤ◌, ◌*ℤ◌, true, arith, refl, ap, sym, ◌∙◌}
use Rattle.std.proofs.lemmas.Bool.{ltb-true}
use Rattle.std.proofs.lemmas.Int.{ints}
use Rattle.std.proofs.Math.Nat.{div-add-mod}
use Rattle.std.specs.Prelude.{◌≤ℤ◌, ◌<ℤ◌, int_lt}
use Rattle.std.specs.Int.{cast_unsigned, cast_signed, int_div_euclid, int_rem_euclid, w128}
use Rattle.ksv_expr_meaning.specs.Integers.{quotient_by, remainder_by, floored_quotient, floored_remainder, DivisionIsFloored}
use Rattle.ksv_expr_value.specs.Range.{in_range}

-- ---- the law

-- by a divisor above 0
upward : (a : ℤ) (n : ℕ) → (a ≡ quotient_by a (suc n) *ℤ pos (suc n) +ℤ remainder_by a (suc n))
    × ((pos 0 ≤ℤ remainder_by a (suc n)) × (remainder_by a (suc n) <ℤ pos (suc n)))
upward (pos a) n =
    let whole = div-add-mod a (suc n) in
    (omega (arith, ints), (omega (arith, ints), omega (arith, ints)))
upward (negsuc a) n =
    let whole = div-add-mod a (suc n) in
    (omega (arith, ints), (omega (arith, ints), omega (arith, ints)))

turned_product : (q : ℤ) (n : ℕ) → q *ℤ negsuc n ≡ neg_ℤ (q *ℤ pos (suc n))
turned_product (pos a) n = refl
turned_product (negsuc a) n = omega (arith, ints)

turned_sum : (a x r : ℤ) → neg_ℤ a ≡ x +ℤ r → a ≡ neg_ℤ x +ℤ neg_ℤ r
turned_sum a x r e = omega (arith, ints)

pub division_is_floored : DivisionIsFloored
division_is_floored a (pos zero) h = absurd (h refl)
division_is_floored a (pos (suc n)) h = let u = upward a n in record { whole = u.0; within = u.1 }
division_is_floored a (negsuc n) h =
    let u = upward (neg_ℤ a) n in
    record {
      whole = turned_sum a (quotient_by (neg_ℤ a) (suc n) *ℤ pos (suc n)) (remainder_by (neg_ℤ a) (suc n)) u.0
          ∙ ap (λ x. x +ℤ neg_ℤ (remainder_by (neg_ℤ a) (suc n))) (sym (turned_product (quotient_by (neg_ℤ a) (suc n)) n));
      within = between (remainder_by (neg_ℤ a) (suc n)) u.1.0 u.1.1;
    }
  where
    between : (r : ℤ) → pos 0 ≤ℤ r → r <ℤ pos (suc n) → (negsuc n <ℤ neg_ℤ r) × (neg_ℤ r ≤ℤ pos 0)
    between r low high = (omega (arith, ints), omega (arith, ints))

-- ---- as the machine divides

-- a number, as 128 bits hold it
abbrev pub seen : ℤ → ℤ
seen z = cast_signed w128 (cast_unsigned w128 z)

turned : (a : ℤ) → in_range a ≡ true → seen (pos 0 -ℤ seen a) ≡ neg_ℤ a
turned (pos n) h = let l = ltb-true n (2 ^ 64) h in omega (arith, ints)
turned (negsuc n) h = let l = ltb-true n (2 ^ 63) h in omega (arith, ints)

by_sign : (a : ℤ) (n : ℕ) → int_rem_euclid a (pos (suc n)) ≡ remainder_by a (suc n)
by_sign (pos a) n = refl
by_sign (negsuc a) n = refl

below : (a : ℤ) (n : ℕ) → (m : ℕ) × ((remainder_by a (suc n) ≡ pos m) × (m ≤ n))
below (pos a) n = (a % suc n, (refl, omega arith))
below (negsuc a) n = (suc n - 1 - a % suc n, (refl, omega arith))

outer : (r : ℤ) (m : ℕ) → r ≡ pos m → m < 2 ^ 64 → seen (pos 0 -ℤ seen r) ≡ neg_ℤ r
outer r m e h = omega (arith, ints)

pub seen_remainder : (a d r : ℤ) → in_range a ≡ true → in_range d ≡ true → int_lt (seen d) (pos 0) ≡ true
    → r ≡ int_rem_euclid (seen (pos 0 -ℤ seen a)) (seen (pos 0 -ℤ seen d)) → seen (pos 0 -ℤ seen r) ≡ floored_remainder a d
seen_remainder a (pos n) r h k neg e = let l = ltb-true n (2 ^ 64) k in let same : seen (pos n) ≡ pos n =
    omega (arith, ints) in let no : int_lt (pos n) (pos 0) ≡ true = ap (λ z. int_lt z (pos 0)) (sym same) ∙ neg in absurd (omega (arith, ltb-true n 0 no))
seen_remainder a (negsuc n) r h k neg e =
    let l = ltb-true n (2 ^ 63) k in
    let rest : r ≡ remainder_by (neg_ℤ a) (suc n) = e ∙ ap (λ z. int_rem_euclid z (seen (pos 0 -ℤ seen (negsuc n)))) (turned a h)
    ∙ ap (int_rem_euclid (neg_ℤ a)) (turned (negsuc n) k) ∙ by_sign (neg_ℤ a) n in
    let few = below (neg_ℤ a) n in
    outer r few.0 (rest ∙ few.1.0) (omega (arith, few.1.1)) ∙ ap neg_ℤ rest

quotient_by_sign : (a : ℤ) (n : ℕ) → int_div_euclid a (pos (suc n)) ≡ quotient_by a (suc n)
quotient_by_sign (pos a) n = refl
quotient_by_sign (negsuc a) n = refl

pub seen_quotient : (a d q : ℤ) → in_range a ≡ true → in_range d ≡ true → int_lt (seen d) (pos 0) ≡ true
    → q ≡ int_div_euclid (seen (pos 0 -ℤ seen a)) (seen (pos 0 -ℤ seen d)) → q ≡ floored_quotient a d
seen_quotient a (pos n) q h k neg e = let l = ltb-true n (2 ^ 64) k in let same : seen (pos n) ≡ pos n =
    omega (arith, ints) in let no : int_lt (pos n) (pos 0) ≡ true = ap (λ z. int_lt z (pos 0)) (sym same) ∙ neg in absurd (omega (arith, ltb-true n 0 no))
seen_quotient a (negsuc n) q h k neg e = e ∙ ap (λ z. int_div_euclid z (seen (pos 0 -ℤ seen (negsuc n)))) (turned a h)
    ∙ ap (int_div_euclid (neg_ℤ a)) (turned (negsuc n) k) ∙ quotient_by_sign (neg_ℤ a) n
