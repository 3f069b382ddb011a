-- Texts of expressions: what their methods mean. A text is the bytes of its UTF-8; `chars` are the characters that they spell.
-- The methods are those of the Kaitai Struct User Guide; the limit on a text's size is this project's own.
use Rattle.std.specs.Prelude.{ℕ, ◌+◌, ◌-◌, Bool, ◌&&◌, nat_le, ℤ, pos, negsuc, neg_ℤ, List, [], ◌∷◌, ◌++◌, length, take, drop, reverse, Option, Some, None, if◌then◌else◌, ◌==◌, Result, Ok, Err}
use Rattle.std.specs.Str.Parse.{digits_value}
use Rattle.ksv_basics.specs.Numerals.{is_numeral}
use Rattle.ksv_expr_value.specs.declared.fault.FaultKind.{FaultKind}
use Rattle.ksv_expr_value.specs.declared.fault.FaultKind.TheVariants as kinds
use Rattle.ksv_expr_value.specs.Range.{in_range}
use Rattle.std.specs.Str.{chars, encode_utf8_all}

-- the most bytes that a text may have: 16 MiB
abbrev pub text_limit : ℕ
text_limit = 16777216

-- one text after another, if both together are within the limit
abbrev pub joined : List ℕ → List ℕ → Option (List ℕ)
joined a b = if nat_le (length a + length b) text_limit then Some (a ++ b) else None

-- how many characters the text has
abbrev pub char_count : List ℕ → ℕ
char_count t = length (chars t)

-- the text with its characters from the last to the first
abbrev pub reversed : List ℕ → List ℕ
reversed t = encode_utf8_all (reverse (chars t))

-- the characters from place i on and before place j, if these are places in the text
abbrev pub between : List ℕ → ℕ → ℕ → Option (List ℕ)
between t i j = if nat_le i j && nat_le j (char_count t) then Some (encode_utf8_all (take (j - i) (drop i (chars t)))) else None

-- the same for any integers
abbrev pub substring : List ℕ → ℤ → ℤ → Option (List ℕ)
substring t (pos i) (pos j) = between t i j
substring t (pos i) (negsuc j) = None
substring t (negsuc i) j = None

-- a numeral's number
abbrev pub numeral : ℕ → List ℕ → Option ℤ
numeral radix ds = if is_numeral radix ds then Some (pos (digits_value radix ds)) else None

-- the negative of an integer
abbrev pub opposite : Option ℤ → Option ℤ
opposite None = None
opposite (Some z) = Some (neg_ℤ z)

-- the integer that a text is: one optional `-`, and then a numeral
abbrev pub written : ℕ → List ℕ → Option ℤ
written radix [] = None
written radix (c ∷ ds) = if c == 45 then opposite (numeral radix ds) else numeral radix (c ∷ ds)

-- a radix is 2 to 36
abbrev pub is_radix : ℕ → Bool
is_radix n = nat_le 2 n && nat_le n 36

-- the same with any integer as the radix
abbrev pub written_in : ℤ → List ℕ → Option ℤ
written_in (pos radix) t = if is_radix radix then written radix t else None
written_in (negsuc radix) t = None

-- an exact number, if it is in the integers' range
abbrev pub exact : ℤ → Result ℤ FaultKind
exact z = if in_range z then Ok z else Err kinds.Overflow

-- the integer that a text is in a radix
abbrev pub number_of : Option ℤ → Result ℤ FaultKind
number_of None = Err kinds.BadNumber
number_of (Some z) = exact z

abbrev pub text_number : ℤ → List ℕ → Result ℤ FaultKind
text_number radix t = number_of (written_in radix t)
