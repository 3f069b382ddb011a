-- Integers of expressions: what their operators mean, over all integers of the range, and the laws that this obeys. The language is
-- that of the Kaitai Struct User Guide's expressions; their range is that of ksv_expr_value.
use Rattle.std.specs.Prelude.{◌≡◌, ◌≢◌, ℕ, suc, ◌+◌, ◌-◌, ◌/◌, ◌%◌, ◌^◌, min, max, nat_lt, ℤ, pos, negsuc, neg_ℤ, ◌+ℤ◌, ◌-ℤ◌, ◌*ℤ◌, ◌≤ℤ◌, ◌<ℤ◌, bit_and, Option, Some, None, Result, Ok, Err, if◌then◌else◌}
use Rattle.std.specs.Int.{bit_at}
use Rattle.std.specs.Ordering.{int_eq}
use Rattle.ksv_expr_tree.specs.declared.tree.BinaryOperator.{BinaryOperator}
use Rattle.ksv_expr_tree.specs.declared.tree.BinaryOperator.TheVariants as binary
use Rattle.ksv_expr_value.specs.declared.fault.FaultKind.{FaultKind}
use Rattle.ksv_expr_value.specs.declared.fault.FaultKind.TheVariants as kinds

-- ---- single operators

-- The quotient by a divisor above 0, rounded down, and the remainder, which is below the divisor.
abbrev pub quotient_by : ℤ → ℕ → ℤ
quotient_by (pos a) n = pos (a / n)
quotient_by (negsuc a) n = negsuc (a / n)

abbrev pub remainder_by : ℤ → ℕ → ℤ
remainder_by (pos a) n = pos (a % n)
remainder_by (negsuc a) n = pos (n - 1 - a % n)

-- Both by any divisor but 0, which is refused before. If the divisor is below 0, both signs are changed. So the
-- quotient is rounded down, and the remainder has the divisor's sign.
abbrev pub floored_quotient : ℤ → ℤ → ℤ
floored_quotient a (pos b) = quotient_by a b
floored_quotient a (negsuc b) = quotient_by (neg_ℤ a) (suc b)

abbrev pub floored_remainder : ℤ → ℤ → ℤ
floored_remainder a (pos b) = remainder_by a b
floored_remainder a (negsuc b) = neg_ℤ (remainder_by (neg_ℤ a) (suc b))

-- A shift to the left by n places is the product with 2^n, one to the right the floored quotient by 2^n.
abbrev pub shifted_left : ℤ → ℕ → ℤ
shifted_left a n = a *ℤ pos (2 ^ n)

abbrev pub shifted_right : ℤ → ℕ → ℤ
shifted_right a n = quotient_by a (2 ^ n)

-- a count of places is 0 to 63
abbrev pub places : ℤ → Option ℕ
places (pos n) = if nat_lt n 64 then Some n else None
places (negsuc n) = None

-- In two's complement of any width the complement of a number n is -(n + 1): all its bits are inverted.
abbrev pub complement : ℤ → ℤ
complement (pos n) = negsuc n
complement (negsuc n) = pos n

-- The bits that both have. A number below 0 is the complement of another, and has the bits that the other lacks.
abbrev pub bits_and : ℤ → ℤ → ℤ
bits_and (pos a) (pos b) = pos (bit_and a b)
bits_and (pos a) (negsuc b) = pos (a - bit_and a b)
bits_and (negsuc a) (pos b) = pos (b - bit_and a b)
bits_and (negsuc a) (negsuc b) = negsuc (a + (b - bit_and a b))

-- the bits that one of the two has: not those that both lack
abbrev pub bits_or : ℤ → ℤ → ℤ
bits_or a b = complement (bits_and (complement a) (complement b))

-- the bits that exactly one of the two has: those of either, minus those of both
abbrev pub bits_xor : ℤ → ℤ → ℤ
bits_xor a b = bits_or a b -ℤ bits_and a b

-- ---- operators between two integers

-- a divisor of 0 is a fault
abbrev pub divided : ℤ → ℤ → Result ℤ FaultKind
divided b z = if int_eq b (pos 0) then Err kinds.ZeroDivisor else Ok z

-- a shift by a count of places, which is an overflow outside 0 to 63
abbrev pub shifted : (ℕ → ℤ) → Option ℕ → Result ℤ FaultKind
shifted f None = Err kinds.Overflow
shifted f (Some n) = Ok (f n)

-- what an operator calculates, in the range or not; None where it compares
abbrev pub calculated : BinaryOperator → ℤ → ℤ → Option (Result ℤ FaultKind)
calculated binary.Add a b = Some (Ok (a +ℤ b))
calculated binary.Subtract a b = Some (Ok (a -ℤ b))
calculated binary.Multiply a b = Some (Ok (a *ℤ b))
calculated binary.Divide a b = Some (divided b (floored_quotient a b))
calculated binary.Remainder a b = Some (divided b (floored_remainder a b))
calculated binary.ShiftLeft a b = Some (shifted (shifted_left a) (places b))
calculated binary.ShiftRight a b = Some (shifted (shifted_right a) (places b))
calculated binary.BitAnd a b = Some (Ok (bits_and a b))
calculated binary.BitXor a b = Some (Ok (bits_xor a b))
calculated binary.BitOr a b = Some (Ok (bits_or a b))
calculated _ a b = None

-- ---- laws

-- a remainder is between 0 and the divisor, and is not the divisor
abbrev pub IsWithin : ℤ → ℤ → Type 0
IsWithin r (pos b) = (pos 0 ≤ℤ r) × (r <ℤ pos b)
IsWithin r (negsuc b) = (negsuc b <ℤ r) × (r ≤ℤ pos 0)

-- a is q times b plus r, the remainder of the quotient rounded down
pub record IsFloored (a b q r : ℤ) : Type 0 where
  pub whole : a ≡ q *ℤ b +ℤ r
  pub within : IsWithin r b

abbrev pub DivisionIsFloored : Type 0
DivisionIsFloored = (a b : ℤ) → b ≢ pos 0 → IsFloored a b (floored_quotient a b) (floored_remainder a b)

-- bit k of a number in two's complement of any width
abbrev pub bit : ℤ → ℕ → ℕ
bit (pos n) k = bit_at n k
bit (negsuc n) k = 1 - bit_at n k

-- each bit of a result follows from the same bit of the operands
pub record GoesByBits (a b : ℤ) (k : ℕ) : Type 0 where
  pub complements : bit (complement a) k ≡ 1 - bit a k
  pub both : bit (bits_and a b) k ≡ min (bit a k) (bit b k)
  pub either : bit (bits_or a b) k ≡ max (bit a k) (bit b k)
  pub one : bit (bits_xor a b) k ≡ (bit a k + bit b k) % 2

abbrev pub BitsAreTold : Type 0
BitsAreTold = (a b : ℤ) (k : ℕ) → GoesByBits a b k
