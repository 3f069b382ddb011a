-- What `put P N` asks, and the bytes that it writes: those of an integer of P's width and byte order, or those that P's bits meet, in which
-- all other bits are as they were. Only integers are written.
use Rattle.std.specs.Prelude.{◌≡◌, ◌+◌, ◌&&◌, true, nat_le, ℕ, ℤ, List, length, take, drop, slice_range, Option, Some, None, Ok, if◌then◌else◌}
use Rattle.ksv_basics.specs.Plan.{Answer, Fail, ◌>>=◌}
use Rattle.ksv_desc.specs.Description.{Description}
use Rattle.ksv_expr_value.specs.Bits.{number_of, bits_of, bits_from}
use Rattle.ksv_expr_value.specs.Places.{byte_of, byte_in}
use Rattle.ksv_bytes.specs.Edits.{overwrite}
use Rattle.ksv_expr_value.specs.Trail.{Trail}
use Rattle.ksv_nodes.specs.declared.given.Head.{Head}
use Rattle.ksv_nodes.specs.declared.given.Head.TheVariants as heads
use Rattle.ksv_nodes.specs.declared.given.Leaf.{Leaf}
use Rattle.ksv_rule_meaning.specs.Integers.{integer_value}
use Rattle.ksv_texts.specs.Bits.{bits_hold, magnitude, with_bits}
use Rattle.ksv_texts.specs.Integers.{IntegerType, NumberType, OfBytes, OfBits, holds, integer_bytes, number_type}
use Rattle.ksv_texts.specs.declared.refusal.Refusal.TheVariants as refusals
use Rattle.ksv_questions.specs.Asking.{Asking, Refused}
use Rattle.ksv_questions.specs.Questions.{ask_head}

-- The bytes that are written, and over which.
pub record Overwrite : Type 0 where
  pub at : ℕ
  pub bytes : List ℕ

abbrev pub of_bytes : IntegerType → Leaf → ℤ → Asking Overwrite
of_bytes t l n = if holds t n then Answer (record { at = byte_of l.from; bytes = integer_bytes t n }) else Fail (Refused refusals.OutOfRange)

-- the bytes of the file that the bits of a leaf meet: they are there, and at most nine
unfoldable pub met_bytes : List ℕ → Leaf → Option (List ℕ)
met_bytes b l =
    if nat_le l.from.bits l.to.bits && nat_le (byte_of l.to) (length b) && nat_le (byte_of l.to) (byte_in l.from + 9) then Some (slice_range b (byte_in l.from) (byte_of l.to))
    else None

abbrev pub among : Leaf → ℤ → Option (List ℕ) → Asking Overwrite
among l n None = Fail (Refused refusals.NotAnInteger)
among l n (Some bytes) =
    if bits_hold l.from l.to n then Answer (record { at = byte_in l.from; bytes = with_bits l.from l.to (magnitude n) bytes })
    else Fail (Refused refusals.OutOfRange)

unfoldable pub of_type : List ℕ → Option NumberType → Leaf → ℤ → Asking Overwrite
of_type b None l n = Fail (Refused refusals.NotAnInteger)
of_type b (Some (OfBytes t)) l n = of_bytes t l n
of_type b (Some OfBits) l n = among l n (met_bytes b l)

abbrev pub over_head : Description → List ℕ → Head → ℤ → Asking Overwrite
over_head d b (heads.Leaf l) n = of_type b (number_type d l) l n
over_head d b _ n = Fail (Refused refusals.NotAnInteger)

unfoldable pub put_question : Description → List ℕ → Trail → ℤ → Asking Overwrite
put_question d b p n = do
  h ← ask_head p p
  over_head d b h n

-- the bytes of an integer are read as that integer, by the rule of an integer's value
abbrev pub IntegersAreReadBack : Type 0
IntegersAreReadBack = (t : IntegerType) (n : ℤ) → holds t n ≡ true → integer_value t.is_signed t.order (integer_bytes t n) ≡ n

-- In a file with these bits written: the bits of the leaf read as the number, and all others are as they were.
pub record IsWritten (b after : List ℕ) (l : Leaf) (n : ℤ) : Type 0 where
  pub read : number_of (bits_from l.from l.to (slice_range after (byte_in l.from) (byte_of l.to))) ≡ magnitude n
  pub before : take l.from.bits (bits_of after) ≡ take l.from.bits (bits_of b)
  pub behind : drop l.to.bits (bits_of after) ≡ drop l.to.bits (bits_of b)

-- The bytes that are written over bits write their number, and change no other bit of the file.
abbrev pub BitsAreWritten : Type 0
BitsAreWritten = (b after : List ℕ) (l : Leaf) (n : ℤ) (o : Overwrite) → among l n (met_bytes b l) ≡ Answer o → overwrite b o.at o.bytes ≡ Ok after → IsWritten b after l n
