-- Decimal digits, and what `parse` reads of them.
use Rattle.std.proofs.Common.{◌≡◌, ℕ, ◌^◌, ◌<◌, true, List, length, Result, Ok, Err, refl, subst, arith, rules}
use Rattle.std.specs.Prelude.{IsOk, MatchResult}
use Rattle.std.specs.Char.{is_ascii_digit}
use Rattle.std.specs.List.{list_all}
use Rattle.std.specs.Result.{OkIff, result_ok}
use Rattle.std.specs.Str.{IsUtf8}
use Rattle.std.specs.Str.Parse.{ParsesUnsigned, digits_value}
use Rattle.std.proofs.lemmas.Bool.{lt-ltb}
use Rattle.std.proofs.lemmas.Bool.Decides.{nat_tests}
use Rattle.std.proofs.lemmas.Fmt.{IsAscii-from_digits}
use Rattle.std.proofs.lemmas.Str.{IsUtf8-from_ascii}
use Rattle.std.proofs.lemmas.Str.Parse.{IsNumeralModel, numerals_by_value, parse_digits}
use Rattle.ksv_paths.specs.PathTexts.{decimal_of}

pub digits : IsNumeralModel (λ ds. list_all is_ascii_digit ds ≡ true) (digits_value 10)
digits = numerals_by_value _ (search rules)

pub digits_are_text : (bs : List ℕ) → list_all is_ascii_digit bs ≡ true → IsUtf8 bs
digits_are_text bs h = IsUtf8-from_ascii bs (IsAscii-from_digits bs (digits.to bs h))

-- a result is Ok where no error can be
pub is_ok_from : {T E : Type 0} (r : Result T E) (P : T → Type 0) (Q : E → Type 0) → MatchResult r P Q → ((e : E) → Q e → ⊥) → IsOk r
is_ok_from (Ok x) P Q h none = refl
is_ok_from (Err e) P Q h none = absurd (none e h)

-- what holds of the value
pub ok_part : {T E : Type 0} (r : Result T E) (x : T) (P : T → Type 0) (Q : E → Type 0) → r ≡ Ok x → MatchResult r P Q → P x
ok_part r x P Q is h = subst (λ t. MatchResult t P Q) is h

by_result : {E : Type 0} (bs : List ℕ) (r : Result ℕ E) → list_all is_ascii_digit bs ≡ true
    → OkIff r ((0 < length bs) × (digits_value 10 bs < 2 ^ 64)) (digits_value 10 bs) → result_ok r ≡ decimal_of bs
by_result bs (Ok x) h p = rw (h, lt-ltb 0 (length bs) p.0.0, lt-ltb (digits_value 10 bs) (2 ^ 64) p.0.1, p.1) refl
by_result bs (Err e) h none = grind (arith, nat_tests)

pub decimal_parsed : {E : Type 0} (bs text : List ℕ) (r : Result ℕ E) → text ≡ bs → list_all is_ascii_digit bs ≡ true
    → ParsesUnsigned 64 10 text r → result_ok r ≡ decimal_of bs
decimal_parsed bs text r is h parsed = by_result bs r h (parse_digits digits 64 bs r (rw is at parsed) h)
