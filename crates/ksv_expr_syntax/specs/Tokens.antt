-- What a token is, apart from how a text is cut; which token is the longest at a place; and the tokens of a text.
-- Floats and format strings are unsupported. Their beginnings have a shape, so that no shorter token is cut out of
-- them; but they are no token, so that a text with one has no tokens. A text without its closing quote, and one
-- with an escape that isn't listed, have no shape, and nothing else begins with a quote.
use Rattle.std.specs.Prelude.{◌≡◌, ◌≢◌, ℕ, ◌+◌, ◌*◌, ◌-◌, ◌<◌, ◌^◌, ◌==◌, ◌&&◌, ◌||◌, nat_le, Bool, true, false, List, [], ◌∷◌, ◌++◌, length, drop, take_while, slice_index, All, IsUtf8, codes, bytes_eq, encode_utf8, Option, Some, None, if◌then◌else◌}
use Rattle.std.specs.Char.{is_ascii_lowercase, is_ascii_digit, is_ascii_hexdigit}
use Rattle.ksv_expr_syntax.specs.declared.token.Symbol.{Symbol}
use Rattle.ksv_expr_syntax.specs.declared.token.Symbol.TheVariants as tok
use Rattle.ksv_expr_syntax.specs.declared.lexer.Radix.{Radix}
use Rattle.ksv_expr_syntax.specs.declared.lexer.Radix.TheVariants as radices
use Rattle.ksv_expr_tree.specs.Tree.{integer, truth, string}
use Rattle.ksv_expr_syntax.specs.Lexemes.{Lexeme, constant, word, symbol}
use Rattle.ksv_expr_syntax.specs.Symbols.{spelling, is_word}

-- ---- bytes

-- space, tab, LF and CR
abbrev pub is_space : ℕ → Bool
is_space c = c == 32 || c == 9 || c == 10 || c == 13

abbrev pub is_name_start : ℕ → Bool
is_name_start c = is_ascii_lowercase c || c == 95

abbrev pub is_name_byte : ℕ → Bool
is_name_byte c = is_ascii_lowercase c || is_ascii_digit c || c == 95

-- the text after its white space
abbrev pub skip : List ℕ → List ℕ
skip bs = drop (length (take_while is_space bs)) bs

-- ---- names and words

-- a small letter or `_`, and after it small letters, digits and `_`
pub data IsName : List ℕ → Type 0 where
  begun : {c : ℕ} {cs : List ℕ} → is_name_start c ≡ true → All (λ b. is_name_byte b ≡ true) cs → IsName (c ∷ cs)

-- the token of a name's bytes
abbrev pub word_lexeme : List ℕ → Lexeme
word_lexeme w = if bytes_eq w (codes "true") then constant (truth true)
    else if bytes_eq w (codes "false") then constant (truth false)
    else if bytes_eq w (codes "and") then symbol tok.And
    else if bytes_eq w (codes "or") then symbol tok.Or
    else if bytes_eq w (codes "not") then symbol tok.Not
    else word w

-- ---- numbers

abbrev pub base : Radix → ℕ
base radices.Binary = 2
base radices.Decimal = 10
base radices.Hexadecimal = 16

abbrev pub is_digit : Radix → ℕ → Bool
is_digit radices.Binary c = c == 48 || c == 49
is_digit radices.Decimal c = is_ascii_digit c
is_digit radices.Hexadecimal c = is_ascii_hexdigit c

-- digits, with at most one `_` between two of them
pub data IsDigits : Radix → List ℕ → Type 0 where
  last_digit : {r : Radix} {c : ℕ} → is_digit r c ≡ true → IsDigits r (c ∷ [])
  one_digit : {r : Radix} {c : ℕ} {cs : List ℕ} → is_digit r c ≡ true → IsDigits r cs → IsDigits r (c ∷ cs)
  digit_and_line : {r : Radix} {c : ℕ} {cs : List ℕ} → is_digit r c ≡ true → IsDigits r cs → IsDigits r (c ∷ 95 ∷ cs)

-- what comes before the digits
abbrev pub number_prefix : Radix → List ℕ
number_prefix radices.Binary = codes "0b"
number_prefix radices.Decimal = []
number_prefix radices.Hexadecimal = codes "0x"

-- a decimal of more than one digit that begins with 0
abbrev pub is_padded : Radix → List ℕ → Bool
is_padded radices.Decimal (c ∷ d ∷ ds) = c == 48
is_padded r ds = false

-- what makes the decimal before it a float: a dot and a digit, or `e`, an optional sign, and a digit
pub data BeginsFloat : List ℕ → Type 0 where
  fraction : {d : ℕ} → is_ascii_digit d ≡ true → BeginsFloat (46 ∷ d ∷ [])
  exponent : {e d : ℕ} → (e == 101 || e == 69) ≡ true → is_ascii_digit d ≡ true → BeginsFloat (e ∷ d ∷ [])
  signed_exponent : {e s d : ℕ} → (e == 101 || e == 69) ≡ true → (s == 43 || s == 45) ≡ true → is_ascii_digit d ≡ true → BeginsFloat (e ∷ s ∷ d ∷ [])

-- the value of a digit
abbrev pub digit_value : ℕ → ℕ
digit_value c = if nat_le c 57 then c - 48 else if nat_le 97 c then c - 87 else c - 55

-- the number of digits with `_` between them, after digits of this number
abbrev pub natural : Radix → ℕ → List ℕ → ℕ
natural r n [] = n
natural r n (c ∷ cs) = if c == 95 then natural r n cs else natural r (n * base r + digit_value c) cs

-- ---- texts

-- the character of a letter after a backslash
abbrev pub escape_of : ℕ → Option ℕ
escape_of c = if c == 92 then Some 92
    else if c == 34 then Some 34
    else if c == 39 then Some 39
    else if c == 97 then Some 7
    else if c == 98 then Some 8
    else if c == 116 then Some 9
    else if c == 110 then Some 10
    else if c == 118 then Some 11
    else if c == 102 then Some 12
    else if c == 114 then Some 13
    else if c == 101 then Some 27
    else None

-- the number of four hexadecimal digits
abbrev pub four_digits : ℕ → ℕ → ℕ → ℕ → ℕ
four_digits a b c d = ((digit_value a * 16 + digit_value b) * 16 + digit_value c) * 16 + digit_value d

-- a surrogate: half of a character in another encoding, and itself no character
abbrev pub is_surrogate : ℕ → Bool
is_surrogate n = nat_le 55296 n && nat_le n 57343

-- the character of `\u` and four digits; a surrogate is none
abbrev pub unicode_of : ℕ → ℕ → ℕ → ℕ → Option ℕ
unicode_of a b c d = if is_ascii_hexdigit a && is_ascii_hexdigit b && is_ascii_hexdigit c && is_ascii_hexdigit d
    then (if is_surrogate (four_digits a b c d) then None else Some (four_digits a b c d))
    else None

-- what is between double quotes, and the bytes that it gives
pub data IsQuoted : List ℕ → List ℕ → Type 0 where
  nothing : IsQuoted [] []
  plain_byte : {c : ℕ} {cs ds : List ℕ} → c ≢ 34 → c ≢ 92 → IsQuoted cs ds → IsQuoted (c ∷ cs) (c ∷ ds)
  letter_escape : {c u : ℕ} {cs ds : List ℕ} → escape_of c ≡ Some u → IsQuoted cs ds → IsQuoted (92 ∷ c ∷ cs) (encode_utf8 u ++ ds)
  digits_escape : {a b c d u : ℕ} {cs ds : List ℕ} → unicode_of a b c d ≡ Some u → IsQuoted cs ds → IsQuoted (92 ∷ 117 ∷ a ∷ b ∷ c ∷ d ∷ cs) (encode_utf8 u ++ ds)

-- ---- a token

-- these bytes look like a token, or like the beginning of an unsupported one
pub data HasShape : List ℕ → Type 0 where
  like_name : {w : List ℕ} → IsName w → HasShape w
  like_number : {ts : List ℕ} (r : Radix) (ds : List ℕ) → IsDigits r ds → ts ≡ number_prefix r ++ ds → HasShape ts
  like_single : {ts : List ℕ} (bs : List ℕ) → All (λ b. b ≢ 39) bs → ts ≡ 39 ∷ (bs ++ 39 ∷ []) → HasShape ts
  like_double : {ts : List ℕ} (bs cs : List ℕ) → IsQuoted bs cs → ts ≡ 34 ∷ (bs ++ 34 ∷ []) → HasShape ts
  like_symbol : (s : Symbol) → is_word s ≡ false → HasShape (spelling s)
  like_float : {ts : List ℕ} (ds fs : List ℕ) → IsDigits radices.Decimal ds → BeginsFloat fs → ts ≡ ds ++ fs → HasShape ts
  like_format : HasShape (codes "f\"")

-- these bytes are that token
pub data IsToken : List ℕ → Lexeme → Type 0 where
  name : {w : List ℕ} → IsName w → IsToken w (word_lexeme w)
  number : {ts : List ℕ} (r : Radix) (ds : List ℕ) → IsDigits r ds → is_padded r ds ≡ false → natural r 0 ds < 2 ^ 64 → ts ≡ number_prefix r ++ ds → IsToken ts (constant (integer (natural r 0 ds)))
  single : {ts : List ℕ} (bs : List ℕ) → All (λ b. b ≢ 39) bs → IsUtf8 bs → ts ≡ 39 ∷ (bs ++ 39 ∷ []) → IsToken ts (constant (string bs))
  double : {ts : List ℕ} (bs cs : List ℕ) → IsQuoted bs cs → IsUtf8 cs → ts ≡ 34 ∷ (bs ++ 34 ∷ []) → IsToken ts (constant (string cs))
  sign : (s : Symbol) → is_word s ≡ false → IsToken (spelling s) (symbol s)

-- a token at the front of a text, and the bytes after it
pub record Cut : Type 0 where
  pub lexeme : Lexeme
  pub rest : List ℕ

-- this token, with these bytes after it, is the longest at the front of the text: no longer beginning has a shape
pub record IsLongest (text : List ℕ) (x : Cut) : Type 0 where
  pub piece : List ℕ
  pub split : text ≡ piece ++ x.rest
  pub means : IsToken piece x.lexeme
  pub longest : (more behind : List ℕ) → text ≡ more ++ behind → length piece < length more → HasShape more → ⊥

-- ---- all tokens of a text

-- the next token is `<`
abbrev pub less_follows : List ℕ → Bool
less_follows bs = let c = skip bs in slice_index c 0 == 60 && (if slice_index c 1 == 60 || slice_index c 1 == 61 then false else true)

abbrev pub is_dot : Lexeme → Bool
is_dot (symbol tok.Dot) = true
is_dot _ = false

abbrev pub is_as : Lexeme → Bool
is_as (word w) = bytes_eq w (codes "as")
is_as _ = false

-- `as` between `.` and `<` is a token of its own
abbrev pub mark : Bool → Cut → Lexeme
mark dot x = if dot && is_as x.lexeme && less_follows x.rest then symbol tok.As else x.lexeme

-- the tokens of a text, after a dot or not: after white space each is the longest at the front of the text
pub data Tokens : Bool → List ℕ → List Lexeme → Type 0 where
  finished : {dot : Bool} {bs : List ℕ} → skip bs ≡ [] → Tokens dot bs []
  token : {dot : Bool} {bs : List ℕ} {ts : List Lexeme} (x : Cut) → IsLongest (skip bs) x → Tokens (is_dot (mark dot x)) x.rest ts → Tokens dot bs (mark dot x ∷ ts)
