-- Numbers of one byte, and the items of `contents`.
use Rattle.ksv_schema.proofs.Common.{◌≡◌, ℕ, Bool, true, false, cond, List, Some, None, refl, arith, ap, sym, ◌∙◌, nat_lt, ◌==◌, nat_tests, Tree, text_of}
use Rattle.ksv_schema.proofs.Common.{Whole, LeadingZero, NoNumeral, BadPiece, piece_of}
use Rattle.std.proofs.Common.{not, ◌&&◌}
use Rattle.std.specs.Prelude.{ℤ, pos, nat_le, slice_index, drop, length, if◌then◌else◌}
use Rattle.std.specs.Str.Parse.{digits_value}
use Rattle.ksv_yaml_tree.specs.Tree.{Text, Seq, Map, is_quoted}
use Rattle.ksv_basics.specs.Numerals.{is_numeral}
use Rattle.ksv_yaml_tree.specs.Numerals.{whole_to, decimal_to, hexadecimal_to, plain_number}
use Rattle.ksv_schema.specs.KeyCode.{IsUpTo}
use Rattle.ksv_schema.specs.KeyTexts.{byte_number, looks_like_number, number_piece, Bytes}

whole_fits : (most m : ℕ) (n : ℤ) → whole_to most m ≡ Whole n → IsUpTo most n
whole_fits most m n h = by_test (nat_le m most) refl
  where
    by_test : (b : Bool) → nat_le m most ≡ b → IsUpTo most n
    by_test true e = record
        { value = m; is = (let k : Whole (pos m) ≡ Whole n = ap (λ b. cond b (Whole (pos m)) NoNumeral) (sym e) ∙ h in cc); bound = grind (arith, nat_tests) }
    by_test false e = absurd (let k : NoNumeral ≡ Whole n = ap (λ b. cond b (Whole (pos m)) NoNumeral) (sym e) ∙ h in cc)

decimal_fits : (most : ℕ) (cs : List ℕ) (n : ℤ) → decimal_to most cs ≡ Whole n → IsUpTo most n
decimal_fits most cs n h = by_test (is_numeral 10 cs) (slice_index cs 0 == 48 && nat_lt 1 (length cs)) h
  where
    by_test : (b l : Bool) → cond b (cond l LeadingZero (whole_to most (digits_value 10 cs))) NoNumeral ≡ Whole n → IsUpTo most n
    by_test true true k = absurd cc
    by_test true false k = whole_fits most (digits_value 10 cs) n k
    by_test false l k = absurd cc

hexadecimal_fits : (most : ℕ) (cs : List ℕ) (n : ℤ) → hexadecimal_to most cs ≡ Whole n → IsUpTo most n
hexadecimal_fits most cs n h = by_test (is_numeral 16 cs) h
  where
    by_test : (b : Bool) → cond b (whole_to most (digits_value 16 cs)) NoNumeral ≡ Whole n → IsUpTo most n
    by_test true k = whole_fits most (digits_value 16 cs) n k
    by_test false k = absurd cc

pub plain_fits : (most : ℕ) (cs : List ℕ) (n : ℤ) → plain_number most cs ≡ Whole n → IsUpTo most n
unfolding plain_number
plain_fits most cs n h = by_test (slice_index cs 0 == 48 && slice_index cs 1 == 120) h
  where
    by_test : (b : Bool) → cond b (hexadecimal_to most (drop 2 cs)) (decimal_to most cs) ≡ Whole n → IsUpTo most n
    by_test true k = hexadecimal_fits most (drop 2 cs) n k
    by_test false k = decimal_fits most cs n k

pub byte_fits : (text : List ℕ) (n : ℤ) → byte_number text ≡ Whole n → IsUpTo 255 n
unfolding byte_number
byte_fits text n h = plain_fits 255 text n h

-- ---- items of `contents`

pub quoted_piece : (t : Tree) (text : List ℕ) → Some text ≡ text_of t → is_quoted t ≡ true → piece_of t ≡ Bytes text
unfolding piece_of
quoted_piece (Text line quoted bs) text h q = let e : bs ≡ text =
    cc in ap (λ b. if not b && looks_like_number bs then number_piece (byte_number bs) else Bytes bs) q ∙ ap Bytes e
quoted_piece (Seq line ts) text h q = absurd cc
quoted_piece (Map line es) text h q = absurd cc

unquoted : (t : Tree) (text : List ℕ) → Some text ≡ text_of t → is_quoted t ≡ false
    → piece_of t ≡ (if looks_like_number text then number_piece (byte_number text) else Bytes text)
unfolding piece_of
unquoted (Text line quoted bs) text h q = let e : bs ≡ text =
    cc in ap (λ b. if not b && looks_like_number bs then number_piece (byte_number bs) else Bytes bs) q
    ∙ ap (λ bs. if looks_like_number bs then number_piece (byte_number bs) else Bytes bs) e
unquoted (Seq line ts) text h q = absurd cc
unquoted (Map line es) text h q = absurd cc

pub digits_piece : (t : Tree) (text : List ℕ) → Some text ≡ text_of t → is_quoted t ≡ false → looks_like_number text ≡ true
    → piece_of t ≡ number_piece (byte_number text)
digits_piece t text h q l = unquoted t text h q ∙ ap (λ b. if b then number_piece (byte_number text) else Bytes text) l

pub plain_piece : (t : Tree) (text : List ℕ) → Some text ≡ text_of t → is_quoted t ≡ false → looks_like_number text ≡ false → piece_of t ≡ Bytes text
plain_piece t text h q l = unquoted t text h q ∙ ap (λ b. if b then number_piece (byte_number text) else Bytes text) l

pub bad_piece : (t : Tree) → None ≡ text_of t → piece_of t ≡ BadPiece
unfolding piece_of
bad_piece (Text line quoted bs) h = absurd cc
bad_piece (Seq line ts) h = refl
bad_piece (Map line es) h = refl
