-- How the longest token is found: by its first byte, and in each class by the bytes after it. Tokens.antt defines
-- what it is; proofs/ shows that what is found here is exactly that.
use Rattle.std.specs.Prelude.{ℕ, suc, ◌^◌, Bool, false, ◌==◌, ◌&&◌, ◌||◌, nat_lt, List, [], ◌∷◌, ◌++◌, length, take, drop, take_while, position, slice_index, Option, Some, None, codes, bytes_eq, if◌then◌else◌}
use Rattle.std.specs.Char.{is_ascii_digit}
use Rattle.std.specs.Str.{is_utf8}
use Rattle.std.specs.Prelude.{encode_utf8}
use Rattle.ksv_expr_syntax.specs.declared.lexer.Radix.{Radix}
use Rattle.ksv_expr_syntax.specs.declared.lexer.Radix.TheVariants as radices
use Rattle.ksv_expr_tree.specs.Tree.{integer, string}
use Rattle.ksv_expr_syntax.specs.Lexemes.{Lexeme, constant, symbol}
use Rattle.ksv_expr_syntax.specs.Symbols.{two_bytes, one_byte}
use Rattle.ksv_expr_syntax.specs.Tokens.{Cut, is_name_start, is_name_byte, word_lexeme, is_digit, natural, escape_of, unicode_of}
use Rattle.ksv_expr_syntax.specs.Reading.{◌>>=◌}

abbrev pub cut_at : Lexeme → List ℕ → Option Cut
cut_at t bs = Some (record { lexeme = t; rest = bs })

-- ---- names and words

-- a name is the longest run of its bytes; `f` directly before `"` is unsupported
abbrev pub cut_name : List ℕ → Option Cut
cut_name bs =
    let w = take_while is_name_byte bs in
    let rest = drop (length w) bs in
    if bytes_eq w (codes "f") && slice_index rest 0 == 34 then None else cut_at (word_lexeme w) rest

-- ---- numbers

-- `0x` and `0b` before a digit of that radix
abbrev pub radix_of : List ℕ → Radix
radix_of bs = if slice_index bs 0 == 48 && slice_index bs 1 == 120 && is_digit radices.Hexadecimal (slice_index bs 2) then radices.Hexadecimal
    else if slice_index bs 0 == 48 && slice_index bs 1 == 98 && is_digit radices.Binary (slice_index bs 2) then radices.Binary
    else radices.Decimal

abbrev pub prefix_size : Radix → ℕ
prefix_size radices.Decimal = 0
prefix_size _ = 2

abbrev mutual
  -- how many bytes the longest run of digits has, in which one `_` may come between two digits
  pub run : Radix → List ℕ → ℕ
  run r [] = 0
  run r (c ∷ cs) = if is_digit r c then suc (run r cs) else if c == 95 then run_behind r cs else 0

  -- after `_`, which counts only before a digit
  pub run_behind : Radix → List ℕ → ℕ
  run_behind r [] = 0
  run_behind r (c ∷ cs) = if is_digit r c then suc (suc (run r cs)) else 0

-- what makes a decimal a float: a digit after a dot, or an exponent
abbrev pub goes_on_as_float : List ℕ → Bool
goes_on_as_float bs = (slice_index bs 0 == 46 && is_ascii_digit (slice_index bs 1))
    || ((slice_index bs 0 == 101 || slice_index bs 0 == 69) && (is_ascii_digit (slice_index bs 1)
    || ((slice_index bs 1 == 43 || slice_index bs 1 == 45) && is_ascii_digit (slice_index bs 2))))

-- a float, or a decimal of more than one digit that begins with 0
abbrev pub is_left_out_number : Radix → List ℕ → List ℕ → Bool
is_left_out_number radices.Decimal digits rest = goes_on_as_float rest || (slice_index digits 0 == 48 && nat_lt 1 (length digits))
is_left_out_number _ digits rest = false

-- a number of these digits, below 2^64
abbrev pub number_of : Radix → List ℕ → List ℕ → Option Cut
number_of r digits rest = if is_left_out_number r digits rest then None
    else if nat_lt (natural r 0 digits) (2 ^ 64) then cut_at (constant (integer (natural r 0 digits))) rest
    else None

abbrev pub cut_number : List ℕ → Option Cut
cut_number bs =
    let r = radix_of bs in
    let digits = drop (prefix_size r) bs in
    let n = run r digits in
    number_of r (take n digits) (drop n digits)

-- ---- texts

-- a text of these bytes, which must be UTF-8
abbrev pub text_of : List ℕ → List ℕ → Option Cut
text_of bytes rest = if is_utf8 bytes then cut_at (constant (string bytes)) rest else None

-- after `'`, up to the next
abbrev pub cut_single : List ℕ → Option Cut
cut_single bs = position (λ c. c == 39) bs >>= λ n. text_of (take n bs) (drop 1 (drop n bs))

-- bytes, and what comes after the closing quote
pub record Quoted : Type 0 where
  pub bytes : List ℕ
  pub rest : List ℕ

abbrev pub put : List ℕ → Option Quoted → Option Quoted
put bs None = None
put bs (Some q) = Some (record { bytes = bs ++ q.bytes; rest = q.rest })

abbrev mutual
  -- after `"`, up to the closing quote
  pub quoted : List ℕ → Option Quoted
  quoted [] = None
  quoted (c ∷ cs) = if c == 34 then Some (record { bytes = []; rest = cs }) else if c == 92 then escaped cs else put (c ∷ []) (quoted cs)

  -- after a backslash
  pub escaped : List ℕ → Option Quoted
  escaped [] = None
  escaped (c ∷ cs) = if c == 117 then unicode cs else (escape_of c >>= λ u. put (encode_utf8 u) (quoted cs))

  -- after `\u`
  pub unicode : List ℕ → Option Quoted
  unicode (a ∷ b ∷ c ∷ d ∷ cs) = unicode_of a b c d >>= λ u. put (encode_utf8 u) (quoted cs)
  unicode _ = None

abbrev pub cut_double : List ℕ → Option Cut
cut_double bs = quoted bs >>= λ q. text_of q.bytes q.rest

-- ---- symbols

-- two bytes if they are a symbol, else one
abbrev pub cut_symbol : List ℕ → Option Cut
cut_symbol bs = elim (two_bytes (slice_index bs 0) (slice_index bs 1)) [
  | Some s ↦ cut_at (symbol s) (drop 2 bs)
  | None ↦ one_byte (slice_index bs 0) >>= λ s. cut_at (symbol s) (drop 1 bs)
]

-- ---- any token

-- the token at the front
abbrev pub cut : List ℕ → Option Cut
cut bs = let c = slice_index bs 0 in
    if is_name_start c then cut_name bs
    else if is_ascii_digit c then cut_number bs
    else if c == 39 then cut_single (drop 1 bs)
    else if c == 34 then cut_double (drop 1 bs)
    else cut_symbol bs
