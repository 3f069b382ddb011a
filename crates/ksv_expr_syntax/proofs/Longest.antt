-- What is cut at a place is the longest token there.
use Rattle.ksv_expr_syntax.proofs.Common.{◌≡◌, ◌≢◌, ℕ, suc, ◌+◌, ◌<◌, ◌≤◌, Bool, true, false, ◌&&◌, List, [], ◌∷◌, ◌++◌, length, take, Option, Some, None, refl}
use Rattle.ksv_expr_syntax.proofs.Common.{sym, ap, subst, ◌∙◌, append_assoc, arith, if◌then◌else◌, inl, inr, length-append, ◌==◌, take_while}
use Rattle.ksv_expr_syntax.proofs.Common.{encode_utf8, append-nil, and_parts, Symbol, string, spelling, Lexeme, constant, symbol, is_name_byte, natural}
use Rattle.ksv_expr_syntax.proofs.Common.{cut_at, put, quoted, cut}
use Rattle.std.proofs.Common.{◌-◌, ◌^◌, ◌||◌, drop, get_or, cond, ltb-true, lt-ltb, length-drop}
use Rattle.std.specs.Prelude.{slice_index, codes, bytes_eq, nat_lt, All, position, IsTrue, ◌↔◌}
use Rattle.std.specs.Char.{is_ascii_digit}
use Rattle.std.specs.Str.{is_utf8}
use Rattle.std.specs.List.{position_or_len}
use Rattle.std.proofs.lemmas.Str.{IsUtf8-from_is_utf8}
use Rattle.std.proofs.lemmas.Slice.Eq.{bytes_eq-Decides}
use Rattle.std.proofs.lemmas.List.{take-append-drop, drop_more, take_at, drop_at, get_or-take, length-take-le}
use Rattle.std.proofs.lemmas.List.Elements.{All-push}
use Rattle.std.proofs.lemmas.List.Sums.{take_while-cons}
use Rattle.std.proofs.lemmas.List.Quantifiers.{position-Some}
use Rattle.std.proofs.lemmas.Bool.{ne_eqb, eqb-true, eqb-false, eq-eqb, false_from_ne_true, or_cases, or_parts}
use Rattle.std.proofs.lemmas.Bool.Decides.{nat_tests}
use Rattle.ksv_expr_syntax.specs.declared.token.Symbol.TheVariants as tok
use Rattle.ksv_expr_syntax.specs.declared.lexer.Radix.{Radix}
use Rattle.ksv_expr_syntax.specs.declared.lexer.Radix.TheVariants as radices
use Rattle.ksv_expr_tree.specs.Tree.{integer}
use Rattle.ksv_expr_syntax.specs.Symbols.{is_word, two_bytes, one_byte}
use Rattle.ksv_expr_syntax.specs.Tokens.{Cut, is_name_start, word_lexeme, is_digit, escape_of, unicode_of, IsName, begun, IsDigits, last_digit, one_digit}
use Rattle.ksv_expr_syntax.specs.Tokens.{digit_and_line, number_prefix, is_padded, BeginsFloat, fraction, exponent, signed_exponent, IsQuoted, nothing}
use Rattle.ksv_expr_syntax.specs.Tokens.{plain_byte, letter_escape, digits_escape, HasShape, like_name, like_number, like_single, like_double, like_symbol}
use Rattle.ksv_expr_syntax.specs.Tokens.{like_float, like_format, IsToken, name, number, single, double, sign, IsLongest, skip, less_follows}
use Rattle.ksv_expr_syntax.specs.Cutting.{cut_name, radix_of, prefix_size, run, run_behind, goes_on_as_float, is_left_out_number, number_of, cut_number}
use Rattle.ksv_expr_syntax.specs.Cutting.{text_of, cut_single, Quoted, escaped, unicode, cut_double, cut_symbol}
use Rattle.ksv_expr_syntax.proofs.Steps.{bind_some, if_some, by_test, by_option}
use Rattle.ksv_expr_syntax.proofs.Symbols.{TwoBytes, OneByte, two_found, one_found, IsFound, by_one, by_two, is_found}
use Rattle.ksv_expr_syntax.proofs.Lexing.{take_run, all_cons, all_of_run, text_is}

-- ---- tests

not_none : {A : Type 0} (b : Bool) (o : Option A) (y : A) → (if b then None else o) ≡ Some y → (b ≡ false) × (o ≡ Some y)
not_none true o y h = absurd cc
not_none false o y h = (refl, h)

tail_of : (P : ℕ → Type 0) (c : ℕ) (cs : List ℕ) → All P (c ∷ cs) → All P cs
tail_of P c cs h = λ k d l. h (suc k) d (omega arith)

-- ---- the first byte tells the class

digit_no_name : (c : ℕ) → is_ascii_digit c ≡ true → is_name_start c ≡ false
digit_no_name c h = grind (arith, nat_tests, h)

at_name : (c : ℕ) (cs : List ℕ) → is_name_start c ≡ true → cut (c ∷ cs) ≡ cut_name (c ∷ cs)
at_name c cs h = rw h

at_digit : (c : ℕ) (cs : List ℕ) → is_ascii_digit c ≡ true → cut (c ∷ cs) ≡ cut_number (c ∷ cs)
at_digit c cs h = rw (digit_no_name c h, h)

-- ---- names

name_start_byte : (c : ℕ) → is_name_start c ≡ true → is_name_byte c ≡ true
name_start_byte c h = grind (arith, nat_tests, h)

name_bytes : (w : List ℕ) → IsName w → All (λ b. is_name_byte b ≡ true) w
name_bytes w (begun {c} {cs} h k) = all_cons (λ b. is_name_byte b ≡ true) c cs (name_start_byte c h) k

name_run : (w r : List ℕ) → All (λ b. is_name_byte b ≡ true) w → take_while is_name_byte (w ++ r) ≡ w ++ take_while is_name_byte r
name_run [] r h = refl
name_run (c ∷ cs) r h = rw (take_while-cons, h 0 c (omega arith), name_run cs r (tail_of (λ b. is_name_byte b ≡ true) c cs h))

name_cut : (bs : List ℕ) (x : Cut) → cut_name bs ≡ Some x
    → record { lexeme = word_lexeme (take_while is_name_byte bs); rest = drop (length (take_while is_name_byte bs)) bs } ≡ x
name_cut bs x h =
    let w = take_while is_name_byte bs in
    let k = (not_none (bytes_eq w (codes "f") && slice_index (drop (length w) bs) 0 == 34) (cut_at (word_lexeme w) (drop (length w) bs)) x h).1 in cc

name_longer : (w r : List ℕ) (x : Cut) → IsName w → cut (w ++ r) ≡ Some x → length x.rest ≤ length r
name_longer w r x (begun {c} {cs} h k) e =
    rw (← (name_cut (w ++ r) x (sym (at_name c (cs ++ r) h) ∙ e)), name_run w r (name_bytes w (begun h k)))
    (omega (arith, length-drop {A = ℕ}, length-append cs (take_while is_name_byte r), length-append cs r))

-- ---- numbers

line_no_digit : (r : Radix) → is_digit r 95 ≡ false
line_no_digit radices.Binary = refl
line_no_digit _ = refl

run_digit : (r : Radix) (c : ℕ) (us : List ℕ) → is_digit r c ≡ true → run r (c ∷ us) ≡ suc (run r us)
run_digit r c us h = rw h

run_line : (r : Radix) (us : List ℕ) → run r (95 ∷ us) ≡ run_behind r us
run_line r us = rw (line_no_digit r)

pub first_digit : (r : Radix) (ds : List ℕ) → IsDigits r ds → (c : ℕ) × (us : List ℕ) × (ds ≡ c ∷ us) × (is_digit r c ≡ true)
first_digit r ds (last_digit {c = c} h) = (c, [], refl, h)
first_digit r ds (one_digit {c = c} {cs} h k) = (c, cs, refl, h)
first_digit r ds (digit_and_line {c = c} {cs} h k) = (c, 95 ∷ cs, refl, h)

behind_run : (r : Radix) (ds rest : List ℕ) → IsDigits r ds → run_behind r (ds ++ rest) ≡ suc (run r (ds ++ rest))
behind_run r ds rest k = let f = first_digit r ds k in rw (f.2, f.3)

digits_run : (r : Radix) (ds rest : List ℕ) → IsDigits r ds → run r (ds ++ rest) ≡ length ds + run r rest
digits_run r ds rest (last_digit {c = c} h) = run_digit r c rest h ∙ omega arith
digits_run r ds rest (one_digit {c = c} {cs} h k) = omega (arith, run_digit r c (cs ++ rest) h, digits_run r cs rest k)
digits_run r ds rest (digit_and_line {c = c} {cs} h k) =
    omega (arith, run_digit r c (95 ∷ (cs ++ rest)) h, run_line r (cs ++ rest), behind_run r cs rest k, digits_run r cs rest k)

-- a number of these digits in this base, its prefix aside
abbrev number_at : Radix → List ℕ → Option Cut
number_at r digits = number_of r (take (run r digits) digits) (drop (run r digits) digits)

as_radix : (r : Radix) (bs : List ℕ) → radix_of bs ≡ r → cut_number bs ≡ number_at r (drop (prefix_size r) bs)
as_radix r bs h = ap (λ r. number_at r (drop (prefix_size r) bs)) h

-- what a number that was cut says
record NumberCut (r : Radix) (ds rest : List ℕ) (x : Cut) : Type 0 where
  kept : is_left_out_number r ds rest ≡ false
  bound : natural r 0 ds < 2 ^ 64
  is : record { lexeme = constant (integer (natural r 0 ds)); rest = rest } ≡ x

number_cut : (r : Radix) (ds rest : List ℕ) (x : Cut) → number_of r ds rest ≡ Some x → NumberCut r ds rest x
number_cut r ds rest x h =
    let n = not_none (is_left_out_number r ds rest) (if nat_lt (natural r 0 ds) (2 ^ 64) then cut_at (constant (integer (natural r 0 ds))) rest else None) x
    h in
    let s = if_some (nat_lt (natural r 0 ds) (2 ^ 64)) _ x n.1 in
    record { kept = n.0; bound = ltb-true _ _ s.0; is = s.1 }

number_rest : (r : Radix) (ds : List ℕ) (x : Cut) → number_at r ds ≡ Some x → length x.rest ≡ length ds - run r ds
number_rest r ds x h = ap (λ (x : Cut). length x.rest) (sym (number_cut r (take (run r ds) ds) (drop (run r ds) ds) x h).is) ∙ length-drop (run r ds) ds

digits_rest : (r : Radix) (ds rest : List ℕ) (x : Cut) → IsDigits r ds → number_at r (ds ++ rest) ≡ Some x → length x.rest ≤ length rest
digits_rest r ds rest x k h = omega (arith, number_rest r (ds ++ rest) x h, digits_run r ds rest k, length-append ds rest)

hex_radix : (c : ℕ) (us : List ℕ) → is_digit radices.Hexadecimal c ≡ true → radix_of (48 ∷ 120 ∷ c ∷ us) ≡ radices.Hexadecimal
hex_radix c us h = rw h

binary_radix : (c : ℕ) (us : List ℕ) → is_digit radices.Binary c ≡ true → radix_of (48 ∷ 98 ∷ c ∷ us) ≡ radices.Binary
binary_radix c us h = rw h

plain_radix : (c d : ℕ) (us : List ℕ) → (d == 120) ≡ false → (d == 98) ≡ false → radix_of (c ∷ d ∷ us) ≡ radices.Decimal
plain_radix c d us h k = rw (h, k) (elim (c == 48) as (λ b. (if b && false && is_digit radices.Hexadecimal (slice_index (c ∷ d ∷ us) 2)
    then radices.Hexadecimal else if b && false && is_digit radices.Binary (slice_index (c ∷ d ∷ us) 2) then radices.Binary else radices.Decimal)
    ≡ radices.Decimal) [ true ↦ refl | false ↦ refl ])

cut_hex : (ds rest : List ℕ) → IsDigits radices.Hexadecimal ds → cut (48 ∷ 120 ∷ (ds ++ rest)) ≡ number_at radices.Hexadecimal (ds ++ rest)
cut_hex ds rest k =
    let f = first_digit radices.Hexadecimal ds k in
    as_radix radices.Hexadecimal (48 ∷ 120 ∷ (ds ++ rest)) (rw f.2 (hex_radix f.0 (f.1 ++ rest) f.3))

cut_binary : (ds rest : List ℕ) → IsDigits radices.Binary ds → cut (48 ∷ 98 ∷ (ds ++ rest)) ≡ number_at radices.Binary (ds ++ rest)
cut_binary ds rest k =
    let f = first_digit radices.Binary ds k in
    as_radix radices.Binary (48 ∷ 98 ∷ (ds ++ rest)) (rw f.2 (binary_radix f.0 (f.1 ++ rest) f.3))

digit_no_x : (d : ℕ) → is_ascii_digit d ≡ true → (d == 120) ≡ false
digit_no_x d h = grind (arith, nat_tests, h)

digit_no_b : (d : ℕ) → is_ascii_digit d ≡ true → (d == 98) ≡ false
digit_no_b d h = grind (arith, nat_tests, h)

-- a decimal of more than one byte has no other base
decimal_radix : (ds rest : List ℕ) → IsDigits radices.Decimal ds → 1 < length ds → radix_of (ds ++ rest) ≡ radices.Decimal
decimal_radix ds rest (last_digit {c = c} h) l = absurd (omega arith)
decimal_radix ds rest (one_digit {c = c} {cs} h k) l =
    let f = first_digit radices.Decimal cs k in rw f.2 (plain_radix c f.0 (f.1 ++ rest) (digit_no_x f.0 f.3) (digit_no_b f.0 f.3))
decimal_radix ds rest (digit_and_line {c = c} {cs} h k) l = plain_radix c 95 (cs ++ rest) refl refl

cut_decimal : (ds rest : List ℕ) → IsDigits radices.Decimal ds → radix_of (ds ++ rest) ≡ radices.Decimal
    → cut (ds ++ rest) ≡ number_at radices.Decimal (ds ++ rest)
cut_decimal ds rest k e =
    let f = first_digit radices.Decimal ds k in
    subst (λ ds. cut (ds ++ rest) ≡ cut_number (ds ++ rest)) (sym f.2) (at_digit f.0 (f.1 ++ rest) f.3) ∙ as_radix radices.Decimal (ds ++ rest) e

other_rest : (r : Radix) (c : ℕ) (rest : List ℕ) (x : Cut) → prefix_size r ≡ 2 → cut_number (c ∷ rest) ≡ Some x → radix_of (c ∷ rest) ≡ r
    → length x.rest ≤ length rest
other_rest r c rest x p h e =
    let i = number_rest r (drop (prefix_size r) (c ∷ rest)) x (sym (as_radix r (c ∷ rest) e) ∙ h) in omega (arith, i, p, length-drop (prefix_size r) (c ∷ rest))

decimal_longer : (ds rest : List ℕ) (x : Cut) → IsDigits radices.Decimal ds → cut (ds ++ rest) ≡ Some x → length x.rest ≤ length rest
decimal_longer ds rest x (last_digit {c = c} h) e =
    let n = sym (at_digit c rest h) ∙ e in
    elim (radix_of (c ∷ rest)) as (λ r. radix_of (c ∷ rest) ≡ r → length x.rest ≤ length rest) [
      | radices.Binary ↦ λ q. other_rest radices.Binary c rest x refl n q
      | radices.Decimal ↦ λ q. digits_rest radices.Decimal (c ∷ []) rest x (last_digit h) (sym (as_radix radices.Decimal (c ∷ rest) q) ∙ n)
      | radices.Hexadecimal ↦ λ q. other_rest radices.Hexadecimal c rest x refl n q
    ] refl
decimal_longer ds rest x (one_digit {c = c} {cs} h k) e =
    let f = first_digit radices.Decimal cs k in
    let l : 1 < length (c ∷ cs) = omega (arith, ap length f.2) in
    digits_rest radices.Decimal (c ∷ cs) rest x (one_digit h k)
    (sym (cut_decimal (c ∷ cs) rest (one_digit h k) (decimal_radix (c ∷ cs) rest (one_digit h k) l)) ∙ e)
decimal_longer ds rest x (digit_and_line {c = c} {cs} h k) e =
    let l : 1 < length (c ∷ 95 ∷ cs) = omega arith in
    digits_rest radices.Decimal (c ∷ 95 ∷ cs) rest x (digit_and_line h k)
    (sym (cut_decimal (c ∷ 95 ∷ cs) rest (digit_and_line h k) (decimal_radix (c ∷ 95 ∷ cs) rest (digit_and_line h k) l)) ∙ e)

number_longer : (r : Radix) (ds rest : List ℕ) (x : Cut) → IsDigits r ds → cut (number_prefix r ++ (ds ++ rest)) ≡ Some x → length x.rest ≤ length rest
number_longer radices.Binary ds rest x k e = digits_rest radices.Binary ds rest x k (sym (cut_binary ds rest k) ∙ e)
number_longer radices.Decimal ds rest x k e = decimal_longer ds rest x k e
number_longer radices.Hexadecimal ds rest x k e = digits_rest radices.Hexadecimal ds rest x k (sym (cut_hex ds rest k) ∙ e)

number_whole : (r : Radix) (ds rest : List ℕ) → IsDigits r ds → run r rest ≡ 0 → number_at r (ds ++ rest) ≡ number_of r ds rest
number_whole r ds rest k z =
    let e : length ds ≡ run r (ds ++ rest) = omega (arith, digits_run r ds rest k, z) in
    rw (take_at ds rest (run r (ds ++ rest)) e, drop_at ds rest (run r (ds ++ rest)) e)

-- ---- floats

exponent_is : (P : ℕ → Type 0) (e : ℕ) → (e == 101 || e == 69) ≡ true → P 101 → P 69 → P e
exponent_is P e h p q = elim (or_cases (e == 101) (e == 69) h) [
  | inl k ↦ subst P (sym (eqb-true e 101 k)) p
  | inr k ↦ subst P (sym (eqb-true e 69 k)) q
]

-- a byte with which no digits go on, and which is in no prefix
abbrev ends_digits : ℕ → Type 0
ends_digits c = (is_ascii_digit c ≡ false) × ((c == 95) ≡ false) × ((c == 120) ≡ false) × ((c == 98) ≡ false)

float_head : (fs : List ℕ) → BeginsFloat fs → (c : ℕ) × (us : List ℕ) × (fs ≡ c ∷ us) × ends_digits c
float_head fs (fraction {d} h) = (46, d ∷ [], refl, (refl, refl, refl, refl))
float_head fs (exponent {e} {d} h k) = (e, d ∷ [], refl, exponent_is ends_digits e h (refl, refl, refl, refl) (refl, refl, refl, refl))
float_head fs (signed_exponent {e} {s} {d} h j k) = (e, s ∷ d ∷ [], refl, exponent_is ends_digits e h (refl, refl, refl, refl) (refl, refl, refl, refl))

float_run : (fs rest : List ℕ) → BeginsFloat fs → run radices.Decimal (fs ++ rest) ≡ 0
float_run fs rest b = let f = float_head fs b in rw (f.2, f.3.0, f.3.1)

float_goes : (fs rest : List ℕ) → BeginsFloat fs → goes_on_as_float (fs ++ rest) ≡ true
float_goes fs rest (fraction {d} h) = rw h
float_goes fs rest (exponent {e} {d} h k) = exponent_is (λ e. goes_on_as_float (e ∷ d ∷ rest) ≡ true) e h (rw k) (rw k)
float_goes fs rest (signed_exponent {e} {s} {d} h j k) =
    let t : (is_ascii_digit s || ((s == 43 || s == 45) && is_ascii_digit d)) ≡ true =
    rw (j, k) (elim (is_ascii_digit s) as (λ b. (b || true) ≡ true) [ true ↦ refl | false ↦ refl ]) in
    exponent_is (λ e. goes_on_as_float (e ∷ s ∷ d ∷ rest) ≡ true) e h t t

float_radix : (ds fs rest : List ℕ) → IsDigits radices.Decimal ds → BeginsFloat fs → radix_of (ds ++ (fs ++ rest)) ≡ radices.Decimal
float_radix ds fs rest (last_digit {c = c} h) b = let f = float_head fs b in rw f.2 (plain_radix c f.0 (f.1 ++ rest) f.3.2 f.3.3)
float_radix ds fs rest (one_digit {c = c} {cs} h k) b =
    let f = first_digit radices.Decimal cs k in
    decimal_radix (c ∷ cs) (fs ++ rest) (one_digit h k) (omega (arith, ap length f.2))
float_radix ds fs rest (digit_and_line {c = c} {cs} h k) b = decimal_radix (c ∷ 95 ∷ cs) (fs ++ rest) (digit_and_line h k) (omega arith)

float_longer : (ds fs rest : List ℕ) (x : Cut) → IsDigits radices.Decimal ds → BeginsFloat fs → cut (ds ++ (fs ++ rest)) ≡ Some x → ⊥
float_longer ds fs rest x k b e =
    let n = sym (number_whole radices.Decimal ds (fs ++ rest) k (float_run fs rest b)) ∙ sym (cut_decimal ds (fs ++ rest) k (float_radix ds fs rest k b)) ∙ e in
    let t : is_left_out_number radices.Decimal ds (fs ++ rest) ≡ true =
    ap (λ b. b || (slice_index ds 0 == 48 && nat_lt 1 (length ds))) (float_goes fs rest b) in
    absurd (let z : true ≡ false = sym t ∙ (number_cut radices.Decimal ds (fs ++ rest) x n).kept in cc)

-- ---- texts

no_quote_place : (bs r : List ℕ) → All (λ b. b ≢ 39) bs → position_or_len (λ c. c == 39) (bs ++ 39 ∷ r) ≡ length bs
no_quote_place [] r h = refl
no_quote_place (c ∷ cs) r h =
    rw (ne_eqb c 39 (h 0 c (omega arith))) (omega (arith, no_quote_place cs r (tail_of (λ b. b ≢ 39) c cs h)))

quote_place : (bs r : List ℕ) → All (λ b. b ≢ 39) bs → position (λ c. c == 39) (bs ++ 39 ∷ r) ≡ Some (length bs)
quote_place bs r h = rw (no_quote_place bs r h, lt-ltb (length bs) (length (bs ++ 39 ∷ r)) (omega (arith, length-append bs (39 ∷ r))))

single_is : (bs r : List ℕ) → All (λ b. b ≢ 39) bs → cut_single (bs ++ 39 ∷ r) ≡ text_of bs r
single_is bs r h = rw (quote_place bs r h, take_at bs (39 ∷ r) (length bs) refl, drop_at bs (39 ∷ r) (length bs) refl)

escape_no_u : (c u : ℕ) → escape_of c ≡ Some u → (c == 117) ≡ false
escape_no_u c u h = false_from_ne_true (c == 117) (λ e. let k : escape_of 117 ≡ Some u = sym (ap escape_of (eqb-true c 117 e)) ∙ h in absurd cc)

quoted_is : (bs cs r : List ℕ) → IsQuoted bs cs → quoted (bs ++ 34 ∷ r) ≡ Some (record { bytes = cs; rest = r })
quoted_is bs cs r nothing = refl
quoted_is bs cs r (plain_byte {c = c} {cs = xs} {ds = ys} h k q) = rw (ne_eqb c 34 h, ne_eqb c 92 k, quoted_is xs ys r q)
quoted_is bs cs r (letter_escape {c = c} {u = u} {cs = xs} {ds = ys} h q) = rw (escape_no_u c u h, h, quoted_is xs ys r q)
quoted_is bs cs r (digits_escape {cs = xs} {ds = ys} h q) = rw (h, quoted_is xs ys r q)

double_is : (bs cs r : List ℕ) → IsQuoted bs cs → cut_double (bs ++ 34 ∷ r) ≡ text_of cs r
double_is bs cs r h = rw (quoted_is bs cs r h)

text_cut : (bs r : List ℕ) (x : Cut) → text_of bs r ≡ Some x → (is_utf8 bs ≡ true) × (record { lexeme = constant (string bs); rest = r } ≡ x)
text_cut bs r x h = if_some (is_utf8 bs) (record { lexeme = constant (string bs); rest = r }) x h

text_longer : (bs r : List ℕ) (x : Cut) → text_of bs r ≡ Some x → length x.rest ≤ length r
text_longer bs r x h = rw (← (text_cut bs r x h).1) (omega arith)

-- ---- symbols

cut_is : (t : Lexeme) (r : List ℕ) (x : Cut) → cut_at t r ≡ Some x → record { lexeme = t; rest = r } ≡ x
cut_is t r x h = cc

pair_rest : (s : Symbol) (r : List ℕ) (x : Cut) → cut_at (symbol s) r ≡ Some x → length x.rest ≤ length r
pair_rest s r x h = rw (← (cut_is (symbol s) r x h)) (omega arith)

symbol_rest : (c : ℕ) (r : List ℕ) (x : Cut) → cut_symbol (c ∷ r) ≡ Some x → length x.rest ≤ length r
symbol_rest c r x h = by_option (two_bytes c (slice_index (c ∷ r) 1))
    (λ e. let b = bind_some (one_byte c) (λ s. cut_at (symbol s) r) x (rw (e, cut_symbol) at h) in pair_rest b.0 r x b.2)
    (λ s e. let l = pair_rest s (drop 2 (c ∷ r)) x (rw (e, cut_symbol) at h) in omega (arith, length-drop 2 (c ∷ r)))

symbol_longer : (s : Symbol) (bs r : List ℕ) (x : Cut) → IsFound s bs → cut (bs ++ r) ≡ Some x → length x.rest ≤ length r
symbol_longer s bs r x (by_one c b k) h = symbol_rest c r x (sym (k r) ∙ h)
symbol_longer s bs r x (by_two c d k) h = pair_rest s r x (sym (k r) ∙ h)

-- whatever begins a text with a shape, a token that is cut there takes as much
no_longer : (ts r : List ℕ) (x : Cut) → HasShape ts → cut (ts ++ r) ≡ Some x → length x.rest ≤ length r
no_longer ts r x (like_name k) h = name_longer ts r x k h
no_longer ts r x (like_number q ds k e) h = number_longer q ds r x k (rw (e, append_assoc) at h)
no_longer ts r x (like_single bs k e) h = text_longer bs r x (sym (single_is bs r k) ∙ (rw (e, append_assoc) at h))
no_longer ts r x (like_double bs cs k e) h = text_longer cs r x (sym (double_is bs cs r k) ∙ (rw (e, append_assoc) at h))
no_longer ts r x (like_symbol s w) h = symbol_longer s (spelling s) r x (is_found s w) h
no_longer ts r x (like_float ds fs k b e) h = absurd (float_longer ds fs r x k b (rw (e, append_assoc) at h))
no_longer ts r x like_format h = absurd (let k : None ≡ Some x = h in cc)

-- ---- what is cut is a token

record TokenAt (text : List ℕ) (x : Cut) : Type 0 where
  piece : List ℕ
  split : text ≡ piece ++ x.rest
  token : IsToken piece x.lexeme

token_at : (text piece rest : List ℕ) (t : Lexeme) (x : Cut) → record { lexeme = t; rest = rest } ≡ x → text ≡ piece ++ rest → IsToken piece t → TokenAt text x
token_at text piece rest t x e s k = let P : Cut → Type 0 = λ x. TokenAt text x in subst P e (record { piece = piece; split = s; token = k })

name_at : (c : ℕ) (cs : List ℕ) (x : Cut) → is_name_start c ≡ true → cut_name (c ∷ cs) ≡ Some x → TokenAt (c ∷ cs) x
name_at c cs x h e =
    let w = take_while is_name_byte (c ∷ cs) in
    let i : w ≡ c ∷ take_while is_name_byte cs = rw (take_while-cons, name_start_byte c h) in
    token_at (c ∷ cs) w (drop (length w) (c ∷ cs)) (word_lexeme w) x (name_cut (c ∷ cs) x e)
    (sym (take-append-drop (length w) (c ∷ cs)) ∙ ap (λ us. us ++ drop (length w) (c ∷ cs)) (take_run is_name_byte (c ∷ cs)))
    (name (rw i (begun h (all_of_run (λ b. is_name_byte b ≡ true) is_name_byte (λ c h. h) cs))))

-- the longest run of digits at the front is digits
abbrev Run : Radix → List ℕ → Type 0
Run r us = IsDigits r (take (run r us) us)

no_digits : (r : Radix) (c : ℕ) (us : List ℕ) → is_digit r c ≡ false → (c == 95) ≡ false → run r (c ∷ us) ≡ 0
no_digits r c us h k = rw (h, k)

just_one : (r : Radix) (c : ℕ) (us : List ℕ) → is_digit r c ≡ true → run r us ≡ 0 → Run r (c ∷ us)
just_one r c us h z = rw (h, z) (last_digit h)

line_stop : (r : Radix) (d : ℕ) (us : List ℕ) → (d == 95) ≡ true → is_digit r d ≡ false → run_behind r us ≡ 0 → run r (d ∷ us) ≡ 0
line_stop r d us h n z = rw (n, h, z)

line_and_digit : (r : Radix) (c d e : ℕ) (us : List ℕ) → is_digit r c ≡ true → (d == 95) ≡ true → is_digit r d ≡ false → is_digit r e ≡ true
    → Run r (e ∷ us) → Run r (c ∷ d ∷ e ∷ us)
line_and_digit r c d e us h l n k t = rw (h, n, l, k, eqb-true d 95 l) (digit_and_line h (rw k at t))

take_digits : (r : Radix) (c : ℕ) (us : List ℕ) → is_digit r c ≡ true → Run r (c ∷ us)
take_digits r c [] h = just_one r c [] h refl
take_digits r c (d ∷ []) h =
    by_test (is_digit r d) (λ k. rw h (one_digit h (just_one r d [] k refl)))
    (λ k. by_test (d == 95) (λ l. just_one r c (d ∷ []) h (line_stop r d [] l k refl)) (λ l. just_one r c (d ∷ []) h (no_digits r d [] k l)))
take_digits r c (d ∷ e ∷ us) h =
    by_test (is_digit r d) (λ k. rw h (one_digit h (take_digits r d (e ∷ us) k)))
    (λ k. by_test (d == 95) (λ l. by_test (is_digit r e) (λ j. line_and_digit r c d e us h l k j (take_digits r e us j))
    (λ j. just_one r c (d ∷ e ∷ us) h (line_stop r d (e ∷ us) l k (rw j)))) (λ l. just_one r c (d ∷ e ∷ us) h (no_digits r d (e ∷ us) k l)))

not_padded : (r : Radix) (ds rest : List ℕ) → is_left_out_number r ds rest ≡ false → is_padded r ds ≡ false
not_padded radices.Decimal (c ∷ d ∷ ds) rest h =
    let o = or_parts (goes_on_as_float rest) (c == 48 && nat_lt 1 (length (c ∷ d ∷ ds))) h in
    false_from_ne_true (c == 48) (λ e. let z : false ≡ true = sym o.1 ∙ rw e (lt-ltb 1 (length (c ∷ d ∷ ds)) (omega arith)) in cc)
not_padded _ _ rest h = refl

number_token : (r : Radix) (text us : List ℕ) (c : ℕ) (cs : List ℕ) (x : Cut) → text ≡ number_prefix r ++ us → us ≡ c ∷ cs → is_digit r c ≡ true
    → number_at r us ≡ Some x → TokenAt text x
number_token r text us c cs x s z h e =
    let n = run r us in
    let k = number_cut r (take n us) (drop n us) x e in
    let d : IsDigits r (take n us) = subst (λ us. IsDigits r (take (run r us) us)) (sym z) (take_digits r c cs h) in
    token_at text (number_prefix r ++ take n us) (drop n us) (constant (integer (natural r 0 (take n us)))) x k.is
    (s ∙ ap (λ us. number_prefix r ++ us) (sym (take-append-drop n us)) ∙ sym (append_assoc (number_prefix r) (take n us) (drop n us)))
    (number r (take n us) d (not_padded r (take n us) (drop n us) k.kept) k.bound refl)

-- a text that begins with 0, this letter and a digit
record Prefixed (p : ℕ) (r : Radix) (bs : List ℕ) : Type 0 where
  digit : ℕ
  others : List ℕ
  is : bs ≡ 48 ∷ p ∷ digit ∷ others
  tested : is_digit r digit ≡ true

prefixed : (p : ℕ) (r : Radix) (bs : List ℕ) → 0 < p → is_digit r 0 ≡ false → (slice_index bs 0 == 48) ≡ true → (slice_index bs 1 == p) ≡ true
    → is_digit r (slice_index bs 2) ≡ true → Prefixed p r bs
prefixed p r (a ∷ b ∷ d ∷ us) l z h j k = record { digit = d; others = us; is = rw (eqb-true a 48 h, eqb-true b p j); tested = k }
prefixed p r (a ∷ b ∷ []) l z h j k = absurd (let e : false ≡ true = sym z ∙ k in cc)
prefixed p r _ l z h j k = absurd (let e : 0 ≡ p = eqb-true 0 p j in omega (arith, e))

prefix_tested : (p : ℕ) (r : Radix) (bs : List ℕ) → 0 < p → is_digit r 0 ≡ false
    → (slice_index bs 0 == 48 && slice_index bs 1 == p && is_digit r (slice_index bs 2)) ≡ true → Prefixed p r bs
prefix_tested p r bs l z h =
    let e = and_parts (slice_index bs 0 == 48 && slice_index bs 1 == p) (is_digit r (slice_index bs 2)) h in
    let f = and_parts (slice_index bs 0 == 48) (slice_index bs 1 == p) e.0 in
    prefixed p r bs l z f.0 f.1 e.1

-- by how the number at the front is written
by_prefix : {P : Type 0} (bs : List ℕ) → (radix_of bs ≡ radices.Decimal → P) → (radix_of bs ≡ radices.Binary → Prefixed 98 radices.Binary bs → P)
    → (radix_of bs ≡ radices.Hexadecimal → Prefixed 120 radices.Hexadecimal bs → P) → P
by_prefix bs f g k =
    by_test (slice_index bs 0 == 48 && slice_index bs 1 == 120 && is_digit radices.Hexadecimal (slice_index bs 2))
    (λ e. k (rw e) (prefix_tested 120 radices.Hexadecimal bs (omega arith) refl e))
    (λ e. by_test (slice_index bs 0 == 48 && slice_index bs 1 == 98 && is_digit radices.Binary (slice_index bs 2))
    (λ i. g (rw (e, i)) (prefix_tested 98 radices.Binary bs (omega arith) refl i)) (λ i. f (rw (e, i))))

prefixed_token : (p : ℕ) (r : Radix) (bs : List ℕ) (x : Cut) → number_prefix r ≡ 48 ∷ p ∷ [] → Prefixed p r bs → number_at r (drop 2 bs) ≡ Some x → TokenAt bs x
prefixed_token p r bs x z f e = number_token r bs (drop 2 bs) f.digit f.others x (rw (f.is, z)) (rw f.is) f.tested e

number_found : (c : ℕ) (cs : List ℕ) (x : Cut) → is_ascii_digit c ≡ true → cut_number (c ∷ cs) ≡ Some x → TokenAt (c ∷ cs) x
number_found c cs x h e =
    let bs = c ∷ cs in
    by_prefix bs (λ q. number_token radices.Decimal bs bs c cs x refl refl h (sym (as_radix radices.Decimal bs q) ∙ e))
    (λ q f. prefixed_token 98 radices.Binary bs x refl f (sym (as_radix radices.Binary bs q) ∙ e))
    (λ q f. prefixed_token 120 radices.Hexadecimal bs x refl f (sym (as_radix radices.Hexadecimal bs q) ∙ e))

at_place : (n : ℕ) (cs : List ℕ) → n < length cs → (slice_index cs n == 39) ≡ true → cs ≡ take n cs ++ 39 ∷ drop 1 (drop n cs)
at_place n cs l h =
    let d : drop n cs ≡ 39 ∷ drop (n + 1) cs = drop_more cs n 0 l ∙ ap (λ b. b ∷ drop (n + 1) cs) (eqb-true (slice_index cs n) 39 h) in
    sym (take-append-drop n cs) ∙ ap (λ us. take n cs ++ us) (d ∙ ap (λ us. 39 ∷ drop 1 us) (sym d))

single_found : (cs : List ℕ) (x : Cut) → cut_single cs ≡ Some x → TokenAt (39 ∷ cs) x
single_found cs x h =
    let b = bind_some (position (λ c. c == 39) cs) (λ n. text_of (take n cs) (drop 1 (drop n cs))) x h in
    let n = b.0 in
    let t = text_cut (take n cs) (drop 1 (drop n cs)) x b.2 in
    let q = position-Some (λ c. c == 39) cs n 0 b.1 in
    let l : n ≤ length cs = (let k = q.0 in omega arith) in
    let all : All (λ b. b ≢ 39) (take n cs) = λ k d i z.
    let m : k < n = omega (arith, length-take-le n cs l) in
    let y : true ≡ false = sym (eq-eqb (get_or cs k d) 39 (sym (get_or-take n cs k d m) ∙ z)) ∙ (position-Some (λ c. c == 39) cs n d b.1).2 k m in absurd cc in
    token_at (39 ∷ cs) (39 ∷ (take n cs ++ 39 ∷ [])) (drop 1 (drop n cs)) (constant (string (take n cs))) x t.1
    (ap (λ us. 39 ∷ us) (at_place n cs q.0 q.1) ∙ sym (append_assoc (39 ∷ take n cs) (39 ∷ []) (drop 1 (drop n cs))))
    (single (take n cs) all (IsUtf8-from_is_utf8 (take n cs) t.0) refl)

record QuotedAt (bs : List ℕ) (q : Quoted) : Type 0 where
  front : List ℕ
  split : bs ≡ front ++ 34 ∷ q.rest
  spelled : IsQuoted front q.bytes

put_some : (bs : List ℕ) (o : Option Quoted) (q : Quoted) → put bs o ≡ Some q
    → (p : Quoted) × (o ≡ Some p) × (record { bytes = bs ++ p.bytes; rest = p.rest } ≡ q)
put_some bs None q h = absurd cc
put_some bs (Some p) q h = (p, refl, cc)

-- one more byte or escape before what is quoted
quoted_more : (fs ms bs us : List ℕ) (q : Quoted) → ((front ds : List ℕ) → IsQuoted front ds → IsQuoted (fs ++ front) (ms ++ ds)) → bs ≡ fs ++ us
    → put ms (quoted us) ≡ Some q → ((p : Quoted) → quoted us ≡ Some p → QuotedAt us p) → QuotedAt bs q
quoted_more fs ms bs us q f s h g =
    let k = put_some ms (quoted us) q h in
    let p = g k.0 k.1 in
    let P : Quoted → Type 0 = λ q. QuotedAt bs q in
    subst P k.2 (record {
      front = fs ++ p.front;
      split = s ∙ ap (λ us. fs ++ us) p.split
          ∙ sym (append_assoc fs p.front (34 ∷ k.0.rest));
      spelled = f p.front k.0.bytes p.spelled;
    })

mutual
  quoted_found : (bs : List ℕ) (q : Quoted) → quoted bs ≡ Some q → QuotedAt bs q
  quoted_found [] q h = absurd cc
  quoted_found (c ∷ cs) q h =
      by_test (c == 34) (λ e.
      let k : record { bytes = []; rest = cs } ≡ q = (let i = rw e at h in cc) in
      rw (← k) (record { front = []; split = ap (λ c. c ∷ cs) (eqb-true c 34 e); spelled = nothing }))
      (λ e. by_test (c == 92) (λ k. rw (eqb-true c 92 k) (escaped_found cs q (rw (e, k) at h)))
      (λ k. quoted_more (c ∷ []) (c ∷ []) (c ∷ cs) cs q (λ front ds i. plain_byte (eqb-false c 34 e) (eqb-false c 92 k) i) refl (rw (e, k) at h)
      (λ p g. quoted_found cs p g)))

  escaped_found : (cs : List ℕ) (q : Quoted) → escaped cs ≡ Some q → QuotedAt (92 ∷ cs) q
  escaped_found [] q h = absurd cc
  escaped_found (e ∷ es) q h =
      by_test (e == 117) (λ k. rw (eqb-true e 117 k) (unicode_found es q (rw k at h))) (λ k.
      let b = bind_some (escape_of e) (λ u. put (encode_utf8 u) (quoted es)) q (rw k at h) in
      quoted_more (92 ∷ e ∷ []) (encode_utf8 b.0) (92 ∷ e ∷ es) es q (λ front ds i. letter_escape b.1 i) refl b.2 (λ p g. quoted_found es p g))

  unicode_found : (cs : List ℕ) (q : Quoted) → unicode cs ≡ Some q → QuotedAt (92 ∷ 117 ∷ cs) q
  unicode_found (a ∷ b ∷ c ∷ d ∷ cs) q h =
      let k = bind_some (unicode_of a b c d) (λ u. put (encode_utf8 u) (quoted cs)) q h in
      quoted_more (92 ∷ 117 ∷ a ∷ b ∷ c ∷ d ∷ []) (encode_utf8 k.0) (92 ∷ 117 ∷ a ∷ b ∷ c ∷ d ∷ cs) cs q (λ front ds i. digits_escape k.1 i) refl k.2
      (λ p g. quoted_found cs p g)
  unicode_found _ q h = absurd cc

double_found : (cs : List ℕ) (x : Cut) → cut_double cs ≡ Some x → TokenAt (34 ∷ cs) x
double_found cs x h =
    let b = bind_some (quoted cs) (λ (q : Quoted). text_of q.bytes q.rest) x h in
    let q = b.0 in
    let t = text_cut q.bytes q.rest x b.2 in
    let f = quoted_found cs q b.1 in
    token_at (34 ∷ cs) (34 ∷ (f.front ++ 34 ∷ [])) q.rest (constant (string q.bytes)) x t.1
    (ap (λ us. 34 ∷ us) f.split ∙ sym (append_assoc (34 ∷ f.front) (34 ∷ []) q.rest)) (double f.front q.bytes f.spelled (IsUtf8-from_is_utf8 q.bytes t.0) refl)

pair_token : (c : ℕ) (cs : List ℕ) (s : Symbol) (x : Cut) → TwoBytes c (slice_index (c ∷ cs) 1) s → record { lexeme = symbol s; rest = drop 2 (c ∷ cs) } ≡ x
    → TokenAt (c ∷ cs) x
pair_token c [] s x w e = absurd (omega (arith, w.there))
pair_token c (d ∷ us) s x w e = token_at (c ∷ d ∷ us) (spelling s) us (symbol s) x e (ap (λ ts. ts ++ us) (sym w.spelled)) (sign s w.plain)

byte_token : (c : ℕ) (cs : List ℕ) (s : Symbol) (x : Cut) → OneByte c s → record { lexeme = symbol s; rest = cs } ≡ x → TokenAt (c ∷ cs) x
byte_token c cs s x w e = token_at (c ∷ cs) (spelling s) cs (symbol s) x e (ap (λ ts. ts ++ cs) (sym w.spelled)) (sign s w.plain)

symbol_found : (c : ℕ) (cs : List ℕ) (x : Cut) → cut_symbol (c ∷ cs) ≡ Some x → TokenAt (c ∷ cs) x
symbol_found c cs x h = by_option (two_bytes c (slice_index (c ∷ cs) 1))
    (λ e. let b = bind_some (one_byte c) (λ s. cut_at (symbol s) cs) x (rw (e, cut_symbol) at h) in
    byte_token c cs b.0 x (one_found c b.0 b.1) (cut_is (symbol b.0) cs x b.2))
    (λ s e. pair_token c cs s x (two_found c (slice_index (c ∷ cs) 1) s e) (cut_is (symbol s) (drop 2 (c ∷ cs)) x (rw (e, cut_symbol) at h)))

cut_found : (bs : List ℕ) (x : Cut) → cut bs ≡ Some x → TokenAt bs x
cut_found [] x h = absurd (let k : None ≡ Some x = h in cc)
cut_found (c ∷ cs) x h =
    by_test (is_name_start c) (λ e. name_at c cs x e (sym (at_name c cs e) ∙ h))
    (λ e. by_test (is_ascii_digit c) (λ f. number_found c cs x f (sym (at_digit c cs f) ∙ h))
    (λ f. by_test (c == 39) (λ g. let i = eqb-true c 39 g in rw i (single_found cs x (rw i at h)))
    (λ g. by_test (c == 34) (λ k. let i = eqb-true c 34 k in rw i (double_found cs x (rw i at h)))
    (λ k. symbol_found c cs x (rw (e, f, g, k) at h)))))

is_longest : (text : List ℕ) (x : Cut) → cut text ≡ Some x → IsLongest text x
is_longest text x h =
    let t = cut_found text x h in
    record {
      piece = t.piece;
      split = t.split;
      means = t.token;
      longest = λ more behind s l k.
          let m = no_longer more behind x k (ap cut (sym s) ∙ h) in
          omega (arith, ap length t.split, ap length s, length-append t.piece x.rest, length-append more behind);
    }

-- ---- the longest token is cut

-- no longer beginning of these bytes and those after them has a shape
abbrev NoLonger : List ℕ → List ℕ → Type 0
NoLonger piece rest = (more behind : List ℕ) → piece ++ rest ≡ more ++ behind → length piece < length more → HasShape more → ⊥

-- nor do these bytes and the next one have one, nor with the next two
not_with : (piece next behind : List ℕ) → NoLonger piece (next ++ behind) → 0 < length next → HasShape (piece ++ next) → ⊥
not_with piece next behind n l k = n (piece ++ next) behind (sym (append_assoc piece next behind)) (omega (arith, length-append piece next)) k

name_stops : (w rest : List ℕ) → IsName w → NoLonger w rest → take_while is_name_byte rest ≡ []
name_stops w [] k n = refl
name_stops w (d ∷ us) (begun {c} {cs} h k) n =
    take_while-cons is_name_byte d us
    ∙ ap (λ b. cond b (d ∷ take_while is_name_byte us) [])
    (false_from_ne_true (is_name_byte d) (λ e. not_with w (d ∷ []) us n (omega arith) (like_name (begun h (All-push (λ b. is_name_byte b ≡ true) cs d k e)))))

not_format : (w rest : List ℕ) → NoLonger w rest → (bytes_eq w (codes "f") && slice_index rest 0 == 34) ≡ false
not_format w [] n = false_from_ne_true _ (λ e. let k = (and_parts (bytes_eq w (codes "f")) (slice_index [] 0 == 34) e).1 in absurd cc)
not_format w (d ∷ us) n =
    false_from_ne_true _ (λ e.
    let k = and_parts (bytes_eq w (codes "f")) (d == 34) e in
    let i : w ≡ codes "f" = (bytes_eq-Decides w (codes "f")).0 k.0 in
    n (codes "f\"") us (rw (i, eqb-true d 34 k.1)) (omega (arith, ap length i)) like_format)

name_is_cut : (w rest : List ℕ) → IsName w → NoLonger w rest → cut (w ++ rest) ≡ cut_at (word_lexeme w) rest
name_is_cut w rest (begun {c} {cs} h k) n =
    let e : take_while is_name_byte (w ++ rest) ≡ w = name_run w rest (name_bytes w (begun h k)) ∙ rw (name_stops w rest (begun h k) n) (append-nil w) in
    at_name c (cs ++ rest) h ∙ rw (e, drop_at w rest (length w) refl, not_format w rest n)

digits_push : (r : Radix) (ds es : List ℕ) → IsDigits r ds → ((c : ℕ) → is_digit r c ≡ true → IsDigits r (c ∷ es)) → IsDigits r (ds ++ es)
digits_push r ds es (last_digit {c = c} h) f = f c h
digits_push r ds es (one_digit {cs = cs} h j) f = one_digit h (digits_push r cs es j f)
digits_push r ds es (digit_and_line {cs = cs} h j) f = digit_and_line h (digits_push r cs es j f)

-- no digits go on after a number's
abbrev NoMore : Radix → List ℕ → List ℕ → Type 0
NoMore r ds rest = (next behind : List ℕ) → rest ≡ next ++ behind → 0 < length next → IsDigits r (ds ++ next) → ⊥

behind_stops : (r : Radix) (ds us : List ℕ) → IsDigits r ds
    → ((next behind : List ℕ) → us ≡ next ++ behind → 0 < length next → IsDigits r (ds ++ 95 ∷ next) → ⊥) → run_behind r us ≡ 0
behind_stops r ds [] k n = refl
behind_stops r ds (e ∷ us) k n = rw (false_from_ne_true (is_digit r e)
    (λ h. n (e ∷ []) us refl (omega arith) (digits_push r ds (95 ∷ e ∷ []) k (λ c i. digit_and_line i (last_digit h)))))

digits_stop : (r : Radix) (ds rest : List ℕ) → IsDigits r ds → NoMore r ds rest → run r rest ≡ 0
digits_stop r ds [] k n = refl
digits_stop r ds (d ∷ us) k n =
    let e : is_digit r d ≡ false =
    false_from_ne_true (is_digit r d) (λ e. n (d ∷ []) us refl (omega arith) (digits_push r ds (d ∷ []) k (λ c i. one_digit i (last_digit e)))) in
    by_test (d == 95) (λ l. line_stop r d us l e (behind_stops r ds us k (λ next behind s m j. n (95 ∷ next) behind (rw (eqb-true d 95 l, s)) (omega arith) j)))
    (λ l. no_digits r d us e l)

number_goes_on : (r : Radix) (ds rest : List ℕ) → NoLonger (number_prefix r ++ ds) rest → NoMore r ds rest
number_goes_on r ds rest n next behind s l k =
    n (number_prefix r ++ (ds ++ next)) behind (rw s (simp append_assoc)) (omega (arith, length-append {A = ℕ})) (like_number r (ds ++ next) k refl)

-- what goes on as a float begins one
record FloatFront (rest : List ℕ) : Type 0 where
  front : List ℕ
  behind : List ℕ
  split : rest ≡ front ++ behind
  begins : BeginsFloat front

fraction_front : (rest : List ℕ) → (slice_index rest 0 == 46) ≡ true → is_ascii_digit (slice_index rest 1) ≡ true → FloatFront rest
fraction_front (a ∷ b ∷ us) h k = record { front = 46 ∷ b ∷ []; behind = us; split = ap (λ a. a ∷ b ∷ us) (eqb-true a 46 h); begins = fraction k }
fraction_front _ h k = absurd cc

exponent_front : (rest : List ℕ) → (slice_index rest 0 == 101 || slice_index rest 0 == 69) ≡ true → is_ascii_digit (slice_index rest 1) ≡ true → FloatFront rest
exponent_front (a ∷ b ∷ us) h k = record { front = a ∷ b ∷ []; behind = us; split = refl; begins = exponent h k }
exponent_front _ h k = absurd cc

signed_front : (rest : List ℕ) → (slice_index rest 0 == 101 || slice_index rest 0 == 69) ≡ true → (slice_index rest 1 == 43 || slice_index rest 1 == 45) ≡ true
    → is_ascii_digit (slice_index rest 2) ≡ true → FloatFront rest
signed_front (a ∷ b ∷ c ∷ us) h j k = record { front = a ∷ b ∷ c ∷ []; behind = us; split = refl; begins = signed_exponent h j k }
signed_front _ h j k = absurd cc

float_front : (rest : List ℕ) → goes_on_as_float rest ≡ true → FloatFront rest
float_front rest h =
    let s0 = slice_index rest 0 in
    let s1 = slice_index rest 1 in
    let s2 = slice_index rest 2 in
    elim (or_cases (s0 == 46 && is_ascii_digit s1) ((s0 == 101 || s0 == 69) && (is_ascii_digit s1 || ((s1 == 43 || s1 == 45) && is_ascii_digit s2))) h) [
      | inl e ↦ let k = and_parts (s0 == 46) (is_ascii_digit s1) e in fraction_front rest k.0 k.1
      | inr e ↦
          let k = and_parts (s0 == 101 || s0 == 69) (is_ascii_digit s1 || ((s1 == 43 || s1 == 45) && is_ascii_digit s2)) e in
          elim (or_cases (is_ascii_digit s1) ((s1 == 43 || s1 == 45) && is_ascii_digit s2) k.1) [
            | inl j ↦ exponent_front rest k.0 j
            | inr j ↦ let i = and_parts (s1 == 43 || s1 == 45) (is_ascii_digit s2) j in signed_front rest k.0 i.0 i.1
          ]
    ]

not_more_digits : (ds : List ℕ) → is_padded radices.Decimal ds ≡ false → (slice_index ds 0 == 48 && nat_lt 1 (length ds)) ≡ false
not_more_digits [] p = refl
not_more_digits (c ∷ []) p = elim (c == 48) as (λ b. (b && nat_lt 1 (length (c ∷ []))) ≡ false) [ true ↦ refl | false ↦ refl ]
not_more_digits (c ∷ d ∷ ds) p = ap (λ b. b && nat_lt 1 (length (c ∷ d ∷ ds))) p

kept_number : (r : Radix) (ds rest : List ℕ) → IsDigits r ds → is_padded r ds ≡ false → NoLonger (number_prefix r ++ ds) rest
    → is_left_out_number r ds rest ≡ false
kept_number radices.Decimal ds rest k p n =
    let no_float : goes_on_as_float rest ≡ false = false_from_ne_true (goes_on_as_float rest) (λ e.
    let f = float_front rest e in
    let g = float_head f.front f.begins in
    n (ds ++ f.front) f.behind (ap (λ us. ds ++ us) f.split ∙ sym (append_assoc ds f.front f.behind)) (omega (arith, length-append ds f.front, ap length g.2))
    (like_float ds f.front k f.begins refl)) in
    rw no_float (not_more_digits ds p)
kept_number _ ds rest k p n = refl

not_prefixed : (text ds rest : List ℕ) → text ≡ ds ++ rest → length ds < 3 → NoLonger ds rest → radix_of text ≡ radices.Decimal
not_prefixed text ds rest s l n = by_prefix text (λ q. q)
    (λ q f. absurd (n (48 ∷ 98 ∷ f.digit ∷ []) f.others (sym s ∙ f.is) l (like_number radices.Binary (f.digit ∷ []) (last_digit f.tested) refl)))
    (λ q f. absurd (n (48 ∷ 120 ∷ f.digit ∷ []) f.others (sym s ∙ f.is) l (like_number radices.Hexadecimal (f.digit ∷ []) (last_digit f.tested) refl)))

decimal_alone : (ds rest : List ℕ) → IsDigits radices.Decimal ds → NoLonger ds rest → radix_of (ds ++ rest) ≡ radices.Decimal
decimal_alone ds rest (last_digit {c = c} h) n = not_prefixed (c ∷ rest) (c ∷ []) rest refl (omega arith) n
decimal_alone ds rest (one_digit {c = c} {cs} h k) n =
    let f = first_digit radices.Decimal cs k in
    decimal_radix (c ∷ cs) rest (one_digit h k) (omega (arith, ap length f.2))
decimal_alone ds rest (digit_and_line {c = c} {cs} h k) n = decimal_radix (c ∷ 95 ∷ cs) rest (digit_and_line h k) (omega arith)

begins_number : (r : Radix) (ds rest : List ℕ) → IsDigits r ds → NoLonger (number_prefix r ++ ds) rest
    → cut (number_prefix r ++ (ds ++ rest)) ≡ number_at r (ds ++ rest)
begins_number radices.Binary ds rest k n = cut_binary ds rest k
begins_number radices.Hexadecimal ds rest k n = cut_hex ds rest k
begins_number radices.Decimal ds rest k n = cut_decimal ds rest k (decimal_alone ds rest k n)

number_is_cut : (r : Radix) (ds rest : List ℕ) → IsDigits r ds → is_padded r ds ≡ false → natural r 0 ds < 2 ^ 64 → NoLonger (number_prefix r ++ ds) rest
    → cut (number_prefix r ++ (ds ++ rest)) ≡ cut_at (constant (integer (natural r 0 ds))) rest
number_is_cut r ds rest k p b n =
    begins_number r ds rest k n ∙ number_whole r ds rest k (digits_stop r ds rest k (number_goes_on r ds rest n))
    ∙ rw (kept_number r ds rest k p n, lt-ltb (natural r 0 ds) (2 ^ 64) b)

no_pair : (c : ℕ) (rest : List ℕ) → NoLonger (c ∷ []) rest → (t : Symbol) → TwoBytes c (slice_index (c ∷ rest) 1) t → ⊥
no_pair c [] n t w = omega (arith, w.there)
no_pair c (d ∷ us) n t w = n (spelling t) us (ap (λ ts. ts ++ us) (sym w.spelled)) (omega (arith, ap length w.spelled)) (like_symbol t w.plain)

byte_is_cut : (c : ℕ) (s : Symbol) (rest : List ℕ) → one_byte c ≡ Some s → NoLonger (c ∷ []) rest → cut_symbol (c ∷ rest) ≡ cut_at (symbol s) rest
byte_is_cut c s rest h n = by_option (two_bytes c (slice_index (c ∷ rest) 1)) (λ e. rw (e, h, cut_symbol))
    (λ t e. absurd (no_pair c rest n t (two_found c (slice_index (c ∷ rest) 1) t e)))

symbol_is_cut : (s : Symbol) (bs rest : List ℕ) → IsFound s bs → NoLonger bs rest → cut (bs ++ rest) ≡ cut_at (symbol s) rest
symbol_is_cut s bs rest (by_one c b k) n = k rest ∙ byte_is_cut c s rest b n
symbol_is_cut s bs rest (by_two c d k) n = k rest

token_is_cut : (piece rest : List ℕ) (t : Lexeme) → IsToken piece t → NoLonger piece rest → cut (piece ++ rest) ≡ cut_at t rest
token_is_cut piece rest t (name k) n = name_is_cut piece rest k n
token_is_cut piece rest t (number r ds k p b e) n =
    let P : List ℕ → Type 0 = λ ts. NoLonger ts rest in
    ap cut (ap (λ ts. ts ++ rest) e ∙ append_assoc (number_prefix r) ds rest) ∙ number_is_cut r ds rest k p b (subst P e n)
token_is_cut piece rest t (single bs k u e) n = ap cut (ap (λ ts. ts ++ rest) e ∙ append_assoc (39 ∷ bs) (39 ∷ []) rest) ∙ single_is bs rest k
    ∙ text_is bs rest u
token_is_cut piece rest t (double bs cs k u e) n = ap cut (ap (λ ts. ts ++ rest) e ∙ append_assoc (34 ∷ bs) (34 ∷ []) rest) ∙ double_is bs cs rest k
    ∙ text_is cs rest u
token_is_cut piece rest t (sign s w) n = symbol_is_cut s (spelling s) rest (is_found s w) n

pub is_cut : (text : List ℕ) (x : Cut) → IsLongest text x → cut text ≡ Some x
is_cut text x l = ap cut l.split ∙ token_is_cut l.piece x.rest x.lexeme l.means (λ more behind s. l.longest more behind (l.split ∙ s))

-- what is cut at a place is the longest token there
pub cut_is_longest : (text : List ℕ) (x : Cut) → (cut text ≡ Some x) ↔ IsLongest text x
cut_is_longest text x = (is_longest text x, is_cut text x)

-- ---- laws

pub one_longest : (text : List ℕ) (x y : Cut) → IsLongest text x → IsLongest text y → x ≡ y
one_longest text x y l m = let e : Some x ≡ Some y = sym (is_cut text x l) ∙ is_cut text y m in cc

has_shape : (piece : List ℕ) (t : Lexeme) → IsToken piece t → HasShape piece
has_shape piece t (name k) = like_name k
has_shape piece t (number r ds k p b e) = like_number r ds k e
has_shape piece t (single bs k u e) = like_single bs k e
has_shape piece t (double bs cs k u e) = like_double bs cs k e
has_shape piece t (sign s w) = like_symbol s w

pub no_shorter : (text piece : List ℕ) (x y : Cut) → IsLongest text x → text ≡ piece ++ y.rest → IsToken piece y.lexeme → length x.rest ≤ length y.rest
no_shorter text piece x y l s k = no_longer piece y.rest x (has_shape piece y.lexeme k) (ap cut (sym s) ∙ is_cut text x l)

-- no name is the token `<`
word_no_less : (w : List ℕ) → word_lexeme w ≡ symbol tok.Less → ⊥
word_no_less w h =
    by_test (bytes_eq w (codes "true")) (λ a. let i = rw a at h in cc) (λ a.
    by_test (bytes_eq w (codes "false")) (λ b. let i = rw (a, b) at h in cc) (λ b.
    by_test (bytes_eq w (codes "and")) (λ c. let i = rw (a, b, c) at h in cc) (λ c.
    by_test (bytes_eq w (codes "or")) (λ d. let i = rw (a, b, c, d) at h in cc) (λ d.
    by_test (bytes_eq w (codes "not")) (λ e. let i = rw (a, b, c, d, e) at h in cc) (λ e. let i = rw (a, b, c, d, e) at h in cc)))))

less_piece : (piece : List ℕ) (t : Lexeme) → IsToken piece t → t ≡ symbol tok.Less → piece ≡ 60 ∷ []
less_piece piece t (name k) h = absurd (word_no_less piece h)
less_piece piece t (number r ds k p b e) h = absurd cc
less_piece piece t (single bs k u e) h = absurd cc
less_piece piece t (double bs cs k u e) h = absurd cc
less_piece piece t (sign s w) h = let e : s ≡ tok.Less = cc in ap spelling e

-- neither `<` nor `=`
abbrev ends_less : ℕ → Bool
ends_less d = if d == 60 || d == 61 then false else true

ends_less_is : (d : ℕ) → ends_less d ≡ true → ((d == 60) ≡ false) × ((d == 61) ≡ false)
ends_less_is d h = by_test (d == 60 || d == 61) (λ e. absurd (let i = rw e at h in cc)) (λ e. or_parts (d == 60) (d == 61) e)

less_forth : (bs : List ℕ) → (slice_index bs 0 == 60 && ends_less (slice_index bs 1)) ≡ true → cut bs ≡ cut_at (symbol tok.Less) (drop 1 bs)
less_forth [] h = absurd cc
less_forth (a ∷ us) h =
    let k = and_parts (a == 60) (ends_less (slice_index (a ∷ us) 1)) h in
    let e = ends_less_is (slice_index (a ∷ us) 1) k.1 in
    let i : two_bytes 60 (slice_index (a ∷ us) 1) ≡ None = rw (e.0, e.1) in
    rw (eqb-true a 60 k.0) (ap (λ (o : Option Symbol). elim o [ Some s ↦ cut_at (symbol s) (drop 2 (60 ∷ us)) | None ↦ cut_at (symbol tok.Less) us ]) i)

less_ends : (rest : List ℕ) → ((d : ℕ) (us : List ℕ) → 60 ∷ rest ≡ 60 ∷ d ∷ us → ((s : Symbol) × (spelling s ≡ 60 ∷ d ∷ []) × (is_word s ≡ false)) → ⊥)
    → ends_less (slice_index (60 ∷ rest) 1) ≡ true
less_ends [] n = refl
less_ends (d ∷ us) n =
    rw (false_from_ne_true (d == 60 || d == 61) (λ e. elim (or_cases (d == 60) (d == 61) e) [
      | inl h ↦ n d us refl (tok.ShiftLeft, rw (eqb-true d 60 h), refl)
      | inr h ↦ n d us refl (tok.LessOrEqual, rw (eqb-true d 61 h), refl)
    ]))

less_back : (bs : List ℕ) (x : Cut) → IsLongest bs x → x.lexeme ≡ symbol tok.Less → (slice_index bs 0 == 60 && ends_less (slice_index bs 1)) ≡ true
less_back bs x l e =
    let p = less_piece l.piece x.lexeme l.means e in
    let s : bs ≡ 60 ∷ x.rest = l.split ∙ ap (λ ts. ts ++ x.rest) p in
    let short : length l.piece < 2 = omega (arith, ap length p) in
    ap (λ bs. slice_index bs 0 == 60 && ends_less (slice_index bs 1)) s
    ∙ less_ends x.rest (λ d us z k. l.longest (spelling k.0) us (s ∙ z ∙ ap (λ ts. ts ++ us) (sym k.1)) (omega (arith, short, ap length k.1))
    (like_symbol k.0 k.2))

pub less_is_cut : (text : List ℕ) → IsTrue (less_follows text) ↔ ((x : Cut) × IsLongest (skip text) x × (x.lexeme ≡ symbol tok.Less))
less_is_cut text = (
  λ h. let x : Cut = record { lexeme = symbol tok.Less; rest = drop 1 (skip text) } in (x, is_longest (skip text) x (less_forth (skip text) h), refl),
  λ k. less_back (skip text) k.0 k.1 k.2,
)
