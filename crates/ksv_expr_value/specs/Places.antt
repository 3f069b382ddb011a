-- Places of a file: before one of its bits, or at its end.
use Rattle.std.specs.Prelude.{ℕ, ◌+◌, ◌-◌, ◌*◌, ◌/◌, ◌%◌, ◌==◌, Bool}

-- A place, by the number of bits before it. What it holds is known here alone: all other definitions go from a byte's number to a place,
-- and back, by what follows.
pub record Place : Type 0 where
  pub bits : ℕ

-- the most bytes that a file may have, 16 MiB; so no byte of a file has a greater number, and nothing in it ends further on
abbrev pub end_limit : ℕ
end_limit = 16777216

-- the last place of a file of that many bytes
abbrev pub last_place : ℕ
last_place = 8 * end_limit

-- the place where the byte of this number begins
unfoldable pub at_byte : ℕ → Place
at_byte n = record { bits = 8 * n }

-- the number of the first byte that doesn't begin before a place
unfoldable pub byte_of : Place → ℕ
byte_of p = (p.bits + 7) / 8

-- the number of the byte in which a place is, and how many bits of that byte are before it
unfoldable pub byte_in : Place → ℕ
byte_in p = p.bits / 8

unfoldable pub bit_in : Place → ℕ
bit_in p = p.bits % 8

-- the next place where a byte begins
abbrev pub aligned : Place → Place
aligned p = at_byte (byte_of p)

-- the place that many bits further on
unfoldable pub further : Place → ℕ → Place
further p n = record { bits = p.bits + n }

-- how many bits there are from one place to another
abbrev pub bits_between : Place → Place → ℕ
bits_between from to = to.bits - from.bits

-- how many bits there are to the next place where a byte begins
unfoldable pub bits_left : Place → ℕ
bits_left p = 8 * byte_of p - p.bits

-- two places are the same
abbrev pub is_same : Place → Place → Bool
is_same p q = p.bits == q.bits
