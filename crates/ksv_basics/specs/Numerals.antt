-- Numerals: digits in a row. Their number is std's `digits_value`.
use Rattle.std.specs.Prelude.{ℕ, Bool, false, nat_lt, List, [], ◌∷◌}
use Rattle.std.specs.List.{list_all}
use Rattle.std.specs.Char.{digit_value}

-- a byte is a digit of the radix: 0 to 9, and then letters of either case
abbrev pub is_digit : ℕ → ℕ → Bool
is_digit radix c = nat_lt (digit_value c) radix

-- one digit or more, and nothing else
abbrev pub is_numeral : ℕ → List ℕ → Bool
is_numeral radix [] = false
is_numeral radix (c ∷ cs) = list_all (is_digit radix) (c ∷ cs)
