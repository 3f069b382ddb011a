-- Places and the bytes beside them.
use Rattle.std.proofs.Common.{◌≡◌, ℕ, ◌+◌, ◌*◌, ◌/◌, ◌≤◌, ◌<◌, arith}
use Rattle.ksv_expr_value.specs.Places.{Place, at_byte, byte_of, byte_in, bit_in, aligned, further, bits_between, bits_left}

-- where a byte begins
pub byte_of_byte : (n : ℕ) → byte_of (at_byte n) ≡ n
unfolding byte_of at_byte
byte_of_byte n = omega arith

pub of_aligned : (p : Place) → byte_of (aligned p) ≡ byte_of p
of_aligned p = byte_of_byte (byte_of p)

-- bits further on, no byte is left after
pub of_further : (p : Place) (n : ℕ) → byte_of p ≤ byte_of (further p n)
unfolding byte_of further
of_further p n = omega arith

-- how many bytes bits meet, from the byte in which they begin
pub bytes_met : (p : Place) (n : ℕ) → byte_in p + (bit_in p + n + 7) / 8 ≡ byte_of (further p n)
unfolding byte_of byte_in bit_in further
bytes_met p n = omega arith

-- a place before a byte's has its number of bits below that byte's
pub bits_below : (p : Place) (n size : ℕ) → byte_of (further p n) ≤ size → p.bits + n ≤ 8 * size
unfolding byte_of further
bits_below p n size h = omega arith

-- the bits of some bytes: those before the first place, those between the two, and those after the second
pub bits_cut : (from to : Place) (size : ℕ) → byte_in from + size ≡ byte_of to → from.bits ≤ to.bits
    → 8 * size ≡ bit_in from + bits_between from to + bits_left to
unfolding byte_of byte_in bit_in bits_left
bits_cut from to size e le = omega arith

pub few_left : (p : Place) → bits_left p < 8
unfolding byte_of bits_left
few_left p = omega arith

pub few_between : (from to : Place) (size : ℕ) → byte_in from + size ≡ byte_of to → bits_between from to ≤ 8 * size
unfolding byte_of byte_in
few_between from to size e = omega arith

-- the bytes beside two places are in the places' order
pub bytes_ordered : (from to : Place) → from.bits ≤ to.bits → byte_in from ≤ byte_of to
unfolding byte_of byte_in
bytes_ordered from to le = omega arith

-- a place by the byte that it is in
pub by_byte : (p : Place) → p.bits ≡ 8 * byte_in p + bit_in p
unfolding byte_in bit_in
by_byte p = omega arith
