-- Bits, and the numbers that they write: the first bit of a byte is its highest, and the first bit of a number is the number's highest, as
-- the Kaitai Struct User Guide has them (`bit-endian: be`).
use Rattle.std.specs.Prelude.{ℕ, zero, suc, ◌+◌, ◌*◌, ◌/◌, ◌%◌, ◌^◌, List, [], ◌∷◌, ◌++◌, length, take, drop}
use Rattle.ksv_expr_value.specs.Places.{Place, bit_in, bits_between}

-- the number that bits write
abbrev pub number_of : List ℕ → ℕ
number_of [] = 0
number_of (x ∷ xs) = x * 2 ^ length xs + number_of xs

-- the lowest bits of a number, this many of them
unfoldable pub bits_of_number : ℕ → ℕ → List ℕ
bits_of_number zero n = []
bits_of_number (suc count) n = bits_of_number count (n / 2) ++ (n % 2 ∷ [])

-- the bits of bytes
abbrev pub bits_of : List ℕ → List ℕ
bits_of [] = []
bits_of (b ∷ bs) = bits_of_number 8 b ++ bits_of bs

-- the bits from one place to another, of the bytes that they meet
unfoldable pub bits_from : Place → Place → List ℕ → List ℕ
bits_from from to bytes = take (bits_between from to) (drop (bit_in from) (bits_of bytes))
