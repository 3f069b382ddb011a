-- Integers, as their bytes say them: the sum of the bytes times powers of 256, and two's complement where it is signed.
use Rattle.std.specs.Prelude.{ℕ, ◌+◌, ◌*◌, ◌/◌, ◌^◌, ◌&&◌, nat_le, Bool, ℤ, pos, ◌-ℤ◌, List, [], ◌∷◌, reverse, length, if◌then◌else◌}
use Rattle.ksv_desc.specs.declared.order.ByteOrder.{ByteOrder}
use Rattle.ksv_desc.specs.declared.order.ByteOrder.TheVariants.{Big, Little}

-- the sum of bytes times powers of 256, the least significant first
abbrev pub sum_of_bytes : List ℕ → ℕ
sum_of_bytes [] = 0
sum_of_bytes (b ∷ bs) = b + 256 * sum_of_bytes bs

abbrev pub unsigned_value : ByteOrder → List ℕ → ℕ
unsigned_value Little bytes = sum_of_bytes bytes
unsigned_value Big bytes = sum_of_bytes (reverse bytes)

-- less the number of values of as many bytes where the integer is signed and its highest bit is set
unfoldable pub integer_value : Bool → ByteOrder → List ℕ → ℤ
integer_value signed order bytes =
    if signed && nat_le (2 ^ (8 * length bytes) / 2) (unsigned_value order bytes) then pos (unsigned_value order bytes) -ℤ pos (2 ^ (8 * length bytes))
    else pos (unsigned_value order bytes)
