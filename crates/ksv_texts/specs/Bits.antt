-- Bits that are written among those of bytes: which numbers they can hold, and the bytes afterwards.
use Rattle.std.specs.Prelude.{ℕ, ◌+◌, ◌^◌, ◌&&◌, Bool, ℤ, pos, negsuc, int_le, int_lt, List, ◌++◌, length, take, drop, reverse}
use Rattle.ksv_expr_value.specs.Bits.{number_of, bits_of_number, bits_of}
use Rattle.ksv_expr_value.specs.Places.{Place, bit_in, bits_between}
use Rattle.ksv_texts.specs.Integers.{little_endian}

-- whether the bits from one place to another hold a number: from 0 on
unfoldable pub bits_hold : Place → Place → ℤ → Bool
bits_hold from to n = int_le (pos 0) n && int_lt n (pos (2 ^ bits_between from to))

-- a number that isn't below 0
abbrev pub magnitude : ℤ → ℕ
magnitude (pos n) = n
magnitude (negsuc n) = 0

-- the bits of bytes, but for those from one place to another, which write a number; the bytes begin with the one that the first place is in
unfoldable pub replaced_bits : Place → Place → ℕ → List ℕ → List ℕ
replaced_bits from to n bytes = take (bit_in from) (bits_of bytes) ++ (bits_of_number (bits_between from to) n ++ drop (bit_in from + bits_between from to) (bits_of bytes))

-- as many bytes that have these bits
unfoldable pub with_bits : Place → Place → ℕ → List ℕ → List ℕ
with_bits from to n bytes = reverse (little_endian (length bytes) (number_of (replaced_bits from to n bytes)))
