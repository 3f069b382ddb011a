-- Numbers of numerals, where they stop at a bound above every integer.
use Rattle.std.proofs.Common.{◌≡◌, ℕ, zero, suc, ◌^◌, ◌<◌, ◌≤◌, List, Bool, true, false, nat_lt, if◌then◌else◌, min, ℤ, pos, negsuc, neg_ℤ, Ok, Err, Some, None}
use Rattle.std.proofs.Common.{refl, ap, sym, ◌∙◌, arith}
use Rattle.std.specs.Str.Parse.{digits_value}
use Rattle.std.proofs.lemmas.Bool.Decides.{nat_tests}
use Rattle.ksv_expr_meaning.specs.Texts.{numeral, opposite, number_of, exact}
use Rattle.ksv_expr_value.specs.Range.{in_range}
use Rattle.ksv_basics.specs.Numerals.{is_numeral}
use Rattle.ksv_expr_value.specs.declared.fault.FaultKind.TheVariants as kinds

outside : (z : ℤ) → in_range z ≡ false → exact z ≡ Err kinds.Overflow
outside z e = ap (λ b. if b then Ok z else Err kinds.Overflow) e

exact_limited : (n : ℕ) → exact (pos (min n (2 ^ 64))) ≡ exact (pos n)
exact_limited n = by_test (nat_lt n (2 ^ 64)) refl
  where
    by_test : (b : Bool) → nat_lt n (2 ^ 64) ≡ b → exact (pos (min n (2 ^ 64))) ≡ exact (pos n)
    by_test true e =
        let within : n < 2 ^ 64 = grind (arith, nat_tests) in
        let here : min n (2 ^ 64) ≡ n = omega arith in
        ap (λ m. exact (pos m)) here
    by_test false e =
        let past : 2 ^ 64 ≤ n = grind (arith, nat_tests) in
        let here : min n (2 ^ 64) ≡ 2 ^ 64 = omega arith in
        ap (λ m. exact (pos m)) here ∙ sym (outside (pos n) e)

opposite_limited : (n : ℕ) → exact (neg_ℤ (pos (min n (2 ^ 64)))) ≡ exact (neg_ℤ (pos n))
opposite_limited zero = refl
opposite_limited (suc n) = by_test (nat_lt n (2 ^ 64)) refl
  where
    by_test : (b : Bool) → nat_lt n (2 ^ 64) ≡ b → exact (neg_ℤ (pos (min (suc n) (2 ^ 64)))) ≡ exact (negsuc n)
    by_test true e =
        let within : n < 2 ^ 64 = grind (arith, nat_tests) in
        let here : min (suc n) (2 ^ 64) ≡ suc n = omega arith in
        ap (λ m. exact (neg_ℤ (pos m))) here
    by_test false e =
        let past : 2 ^ 64 ≤ n = grind (arith, nat_tests) in
        let here : min (suc n) (2 ^ 64) ≡ 2 ^ 64 = omega arith in
        let out : in_range (negsuc n) ≡ false = grind (arith, nat_tests) in
        ap (λ m. exact (neg_ℤ (pos m))) here ∙ sym (outside (negsuc n) out)

pub seen_number : (radix : ℕ) (ds : List ℕ) (n : ℕ) → is_numeral radix ds ≡ true → n ≡ min (digits_value radix ds) (2 ^ 64)
    → number_of (Some (pos n)) ≡ number_of (numeral radix ds)
seen_number radix ds n h e = ap (λ m. exact (pos m)) e ∙ exact_limited (digits_value radix ds)
    ∙ sym (ap (λ b. number_of (if b then Some (pos (digits_value radix ds)) else None)) h)

pub seen_opposite : (radix : ℕ) (ds : List ℕ) (n : ℕ) → is_numeral radix ds ≡ true → n ≡ min (digits_value radix ds) (2 ^ 64)
    → number_of (Some (neg_ℤ (pos n))) ≡ number_of (opposite (numeral radix ds))
seen_opposite radix ds n h e = ap (λ m. exact (neg_ℤ (pos m))) e ∙ opposite_limited (digits_value radix ds)
    ∙ sym (ap (λ b. number_of (opposite (if b then Some (pos (digits_value radix ds)) else None))) h)
