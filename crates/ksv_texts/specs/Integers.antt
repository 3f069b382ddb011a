-- The integers that a file holds: which integer a leaf holds, which numbers one of whole bytes can hold, and its bytes.
use Rattle.std.specs.Prelude.{ℕ, zero, suc, ◌-◌, ◌*◌, ◌/◌, ◌%◌, ◌^◌, nat_le, Bool, ◌&&◌, ℤ, pos, negsuc, neg_ℤ, int_le, int_lt, List, [], ◌∷◌, reverse, Option, Some, None, option_and_then, if◌then◌else◌}
use Rattle.ksv_desc.specs.Description.{Description, Content, Number, Bits, is_truth, field_at, content_by}
use Rattle.ksv_desc.specs.declared.order.ByteOrder.{ByteOrder}
use Rattle.ksv_desc.specs.declared.order.ByteOrder.TheVariants.{Big, Little}
use Rattle.ksv_nodes.specs.declared.given.Leaf.{Leaf}

-- ---- the integer that a leaf holds

-- Whether it has a sign, how many bytes it has, and in which order.
pub record IntegerType : Type 0 where
  pub is_signed : Bool
  pub size : ℕ
  pub order : ByteOrder

-- An integer of whole bytes, or one of bits.
pub data NumberType : Type 0 where
  OfBytes : IntegerType → NumberType
  OfBits : NumberType

-- none has more than 8 bytes; one bit that is no member of an enum is a truth value
abbrev pub type_in : Content → Option NumberType
type_in (Number signed size order enum) = if nat_le size 8 then Some (OfBytes (record { is_signed = signed; size = size; order = order })) else None
type_in (Bits width enum) = if is_truth width enum then None else Some OfBits
type_in _ = None

-- by what the leaf's member reads, and the case that a switch chose
unfoldable pub number_type : Description → Leaf → Option NumberType
number_type d l = option_and_then (λ f. option_and_then type_in (content_by f.choice l.origin.case)) (field_at d l.origin.member.type_number l.origin.member.member)

-- ---- the bytes of an integer

-- how many values an integer of a type has
abbrev pub value_count : IntegerType → ℕ
value_count t = 2 ^ (8 * t.size)

-- whether a type has an integer: those with a sign are from minus a half of that number on, the others from 0 on
unfoldable pub holds : IntegerType → ℤ → Bool
holds t n =
    if t.is_signed then int_le (neg_ℤ (pos (value_count t / 2))) n && int_lt n (pos (value_count t / 2))
    else int_le (pos 0) n && int_lt n (pos (value_count t))

-- two's complement
abbrev pub as_unsigned : IntegerType → ℤ → ℕ
as_unsigned t (pos n) = n
as_unsigned t (negsuc n) = value_count t - suc n

-- this many digits to the base 256, the least significant first
unfoldable pub little_endian : ℕ → ℕ → List ℕ
little_endian zero n = []
little_endian (suc k) n = n % 256 ∷ little_endian k (n / 256)

abbrev pub in_order : ByteOrder → List ℕ → List ℕ
in_order Little bytes = bytes
in_order Big bytes = reverse bytes

unfoldable pub integer_bytes : IntegerType → ℤ → List ℕ
integer_bytes t n = in_order t.order (little_endian t.size (as_unsigned t n))
