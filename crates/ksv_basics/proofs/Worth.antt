-- Digits in a row, and what they are worth.
use Rattle.std.proofs.Common.{◌≡◌, ℕ, ◌+◌, ◌*◌, ◌^◌, ◌<◌, ◌≤◌, List, [], ◌∷◌, ◌++◌, length, take, get_or, Bool, true, false, nat_lt, min, refl, ap, sym, ◌∙◌}
use Rattle.std.proofs.Common.{arith, ◌&&◌}
use Rattle.std.specs.List.{list_all}
use Rattle.std.specs.Char.{digit_value}
use Rattle.std.specs.Str.Parse.{digits_value, digits_value_after}
use Rattle.std.proofs.lemmas.List.{take_more}
use Rattle.std.proofs.lemmas.List.Folds.{list_all_more}
use Rattle.std.proofs.lemmas.Bool.Decides.{nat_tests}
use Rattle.std.proofs.Math.Nat.{mul-le-mul_left}
use Rattle.ksv_basics.specs.Numerals.{is_digit}

-- one digit more
pub digits_more : (radix : ℕ) (ds : List ℕ) (i : ℕ) → i < length ds → list_all (is_digit radix) (take i ds) ≡ true → digit_value (get_or ds i 0) < radix
    → list_all (is_digit radix) (take (i + 1) ds) ≡ true
digits_more radix ds i h all one =
    let here : is_digit radix (get_or ds i 0) ≡ true = grind (arith, nat_tests) in
    list_all_more (is_digit radix) ds i 0 h ∙ ap (λ b. b && is_digit radix (get_or ds i 0)) all ∙ here

worth-append : (radix n : ℕ) (ds : List ℕ) (d : ℕ) → digits_value_after radix n (ds ++ d ∷ []) ≡ digits_value_after radix n ds * radix + digit_value d
worth-append radix n [] d = refl
worth-append radix n (c ∷ ds) d = worth-append radix (n * radix + digit_value c) ds d

-- a number past the limit stays past it
limited : (w r d l : ℕ) → 1 ≤ r → min (min w l * r + d) l ≡ min (w * r + d) l
limited w r d l h = by_test (nat_lt l w) refl
  where
    by_test : (b : Bool) → nat_lt l w ≡ b → min (min w l * r + d) l ≡ min (w * r + d) l
    by_test true e =
        let past : l < w = grind (arith, nat_tests) in
        let low : l * 1 ≤ l * r = mul-le-mul_left l h in
        let high : w * 1 ≤ w * r = mul-le-mul_left w h in
        let here : min w l ≡ l = omega arith in
        ap (λ m. min (m * r + d) l) here ∙ omega arith
    by_test false e =
        let within : w ≤ l = grind (arith, nat_tests) in
        let here : min w l ≡ w = omega arith in
        ap (λ m. min (m * r + d) l) here

pub number_more : (radix : ℕ) (ds : List ℕ) (i n v : ℕ) → i < length ds → 2 ≤ radix → n ≡ min (digits_value radix (take i ds)) (2 ^ 64)
    → v ≡ digit_value (get_or ds i 0) → min (n * radix + v) (2 ^ 64) ≡ min (digits_value radix (take (i + 1) ds)) (2 ^ 64)
number_more radix ds i n v h r e f =
    ap (λ m. min (m * radix + v) (2 ^ 64)) e
    ∙ ap (λ m. min (min (digits_value radix (take i ds)) (2 ^ 64) * radix + m) (2 ^ 64)) f
    ∙ limited (digits_value radix (take i ds)) radix (digit_value (get_or ds i 0)) (2 ^ 64) (omega arith)
    ∙ ap (λ m. min m (2 ^ 64)) (sym (worth-append radix 0 (take i ds) (get_or ds i 0)))
    ∙ ap (λ t. min (digits_value radix t) (2 ^ 64)) (sym (take_more ds i 0 h))
