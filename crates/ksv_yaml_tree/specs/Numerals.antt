-- Plain numbers: decimal, or hexadecimal after `0x`; where a sign is allowed, `-` before a decimal.
use Rattle.std.specs.Prelude.{ℕ, ◌^◌, ◌-◌, nat_lt, nat_le, ◌==◌, ◌&&◌, if◌then◌else◌, pos, neg_ℤ, List, [], ◌∷◌, length, drop, slice_index}
use Rattle.std.specs.Str.Parse.{digits_value}
use Rattle.ksv_basics.specs.Numerals.{is_numeral}
use Rattle.ksv_yaml_tree.specs.declared.numeral.Numeral.{Numeral}
use Rattle.ksv_yaml_tree.specs.declared.numeral.Numeral.TheVariants.{Whole, LeadingZero, NoNumeral}

-- a number of at most `most`
abbrev pub whole_to : ℕ → ℕ → Numeral
whole_to most n = if nat_le n most then Whole (pos n) else NoNumeral

-- a decimal of one digit, or one that doesn't begin with 0
abbrev pub decimal_to : ℕ → List ℕ → Numeral
decimal_to most cs =
    if is_numeral 10 cs then
    if slice_index cs 0 == 48 && nat_lt 1 (length cs) then LeadingZero else whole_to most (digits_value 10 cs)
    else NoNumeral

-- a hexadecimal
abbrev pub hexadecimal_to : ℕ → List ℕ → Numeral
hexadecimal_to most cs = if is_numeral 16 cs then whole_to most (digits_value 16 cs) else NoNumeral

-- a plain number of at most `most`
unfoldable pub plain_number : ℕ → List ℕ → Numeral
plain_number most cs = if slice_index cs 0 == 48 && slice_index cs 1 == 120 then hexadecimal_to most (drop 2 cs) else decimal_to most cs

-- the negative of a number
abbrev pub opposite : Numeral → Numeral
opposite (Whole n) = Whole (neg_ℤ n)
opposite LeadingZero = LeadingZero
opposite NoNumeral = NoNumeral

-- a number from -2^63 to 2^64 - 1
unfoldable pub signed_number : List ℕ → Numeral
signed_number [] = NoNumeral
signed_number (c ∷ cs) = if c == 45 then opposite (decimal_to (2 ^ 63) cs) else plain_number (2 ^ 64 - 1) (c ∷ cs)
