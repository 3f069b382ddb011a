-- Which bytes are texts.
use Rattle.std.proofs.Common.{◌≡◌, ℕ, ◌<◌, ◌≤◌, List, [], ◌∷◌, length, suc, ◌&&◌, Bool, true, false, nat_lt, Some, None, if◌then◌else◌, get_or, refl, ap, sym}
use Rattle.std.proofs.Common.{◌∙◌, arith}
use Rattle.std.specs.List.{list_all}
use Rattle.std.specs.Str.{is_utf8, IsUtf8, IsAscii, IsNotAscii}
use Rattle.std.proofs.lemmas.Str.{is_utf8-from_IsUtf8, IsUtf8-from_is_utf8, IsUtf8-from_ascii}
use Rattle.std.proofs.lemmas.List.Folds.{list_all_at}
use Rattle.std.proofs.lemmas.Bool.Decides.{nat_tests}
use Rattle.std.proofs.lemmas.List.{get_or_past}
use Rattle.ksv_expr_value.specs.Encodings.{decoded}
use Rattle.ksv_expr_value.specs.declared.encoding.Encoding.TheVariants.{Ascii, Utf8}

-- bytes of UTF-8 are the text of these bytes
pub is_text : (bs : List ℕ) → IsUtf8 bs → decoded Utf8 bs ≡ Some bs
is_text bs h = ap (λ b. if b then Some bs else None) (is_utf8-from_IsUtf8 bs h)

-- and other bytes are none
pub is_no_text : (bs : List ℕ) → (IsUtf8 bs → ⊥) → decoded Utf8 bs ≡ None
is_no_text bs h = by_test (is_utf8 bs) refl
  where
    by_test : (b : Bool) → is_utf8 bs ≡ b → decoded Utf8 bs ≡ None
    by_test true e = absurd (h (IsUtf8-from_is_utf8 bs e))
    by_test false e = ap (λ b. if b then Some bs else None) e

all_below : (bs : List ℕ) → IsAscii bs → list_all (λ b. nat_lt b 128) bs ≡ true
all_below [] h = refl
all_below (b ∷ bs) h =
    let low : b < 128 = h 0 in
    let here : nat_lt b 128 ≡ true = grind (arith, nat_tests) in
    ap (λ t. t && list_all (λ b. nat_lt b 128) bs) here ∙ all_below bs (λ i. h (suc i))

-- bytes below 128 are UTF-8 too
pub ascii_is_text : (bs : List ℕ) → IsAscii bs → decoded Utf8 bs ≡ decoded Ascii bs
ascii_is_text bs h = ap (λ b. if b then Some bs else None) (is_utf8-from_IsUtf8 bs (IsUtf8-from_ascii bs h) ∙ sym (all_below bs h))

-- a byte from 128 on is none of ASCII
pub ascii_is_no_text : (bs : List ℕ) → IsNotAscii bs → decoded Ascii bs ≡ None
ascii_is_no_text bs (i, high) = by_place (nat_lt i (length bs)) refl
  where
    by_place : (b : Bool) → nat_lt i (length bs) ≡ b → decoded Ascii bs ≡ None
    by_place true e =
        let within : i < length bs = grind (arith, nat_tests) in
        let above : nat_lt (get_or bs i 0) 128 ≡ false = grind (arith, nat_tests) in
        ap (λ b. if b then Some bs else None) (list_all_at (λ b. nat_lt b 128) bs i 0 within above)
    by_place false e =
        let past : length bs ≤ i = grind (arith, nat_tests) in
        let none : get_or bs i 0 ≡ 0 = get_or_past bs i 0 past in
        absurd (omega arith)
