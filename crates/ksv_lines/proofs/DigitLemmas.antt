-- Digits that stand for bytes.
use Rattle.std.proofs.Common.{◌≡◌, ◌%◌, List, ℕ, [], length, Option, None, Some, Result, Ok, Err, is_some, true, unwrap_or, refl, ap}
use Rattle.std.specs.List.{AllPass}
use Rattle.std.specs.Result.{result_ok}
use Rattle.hex.specs.Hex.{decode_of, is_hex_digit}
use Rattle.hex.specs.declared.error.FromHexError.{FromHexError}
use Rattle.hex.proofs.HexLemmas.{decode_of-digits, decode_of-ok}
use Rattle.ksv_lines.specs.Digits.{bytes_of, written}

-- an even number of digits stands for bytes
pub digits_stand : (digits : List ℕ) → length digits % 2 ≡ 0 → AllPass is_hex_digit digits → is_some (bytes_of digits) ≡ true
digits_stand digits even all = ap (λ (r : Result (List ℕ) FromHexError). is_some (result_ok r)) (decode_of-digits digits even all).1

some_bytes : (o : Option (List ℕ)) → is_some o ≡ true → Some (unwrap_or o []) ≡ o
some_bytes (Some bytes) h = refl
some_bytes None h = absurd (cc)

-- those that are written
pub digits_written : (digits : List ℕ) → is_some (bytes_of digits) ≡ true → Some (written digits) ≡ bytes_of digits
digits_written digits h = some_bytes (bytes_of digits) h

no_bytes : (digits : List ℕ) (r : Result (List ℕ) FromHexError) → decode_of digits ≡ r
    → (length digits % 2 ≡ 0 → AllPass is_hex_digit digits → ⊥) → None ≡ result_ok r
no_bytes digits (Err e) is never = refl
no_bytes digits (Ok bytes) is never = let ok = decode_of-ok digits bytes is in absurd (never ok.0 ok.1)

-- anything else stands for none
pub others_stand_not : (digits : List ℕ) → (length digits % 2 ≡ 0 → AllPass is_hex_digit digits → ⊥) → None ≡ bytes_of digits
others_stand_not digits never = no_bytes digits (decode_of digits) refl never
