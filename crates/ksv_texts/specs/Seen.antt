-- What values of the code mean, in the words of the other files.
use Rattle.std.specs.Prelude.{◌≤◌}
use Rattle.ksv_texts.specs.Integers.{IntegerType, NumberType, OfBytes, OfBits}
use Rattle.ksv_texts.specs.declared.integer.IntegerType.{IntegerType as CodeType}
use Rattle.ksv_texts.specs.declared.integer.NumberType.{NumberType as CodeNumber}
use Rattle.ksv_texts.specs.declared.integer.NumberType.TheVariants as numbers

abbrev pub type_of : CodeType → IntegerType
type_of t = record { is_signed = t.is_signed; size = t.size; order = t.order }

abbrev pub number_of_leaf : CodeNumber → NumberType
number_of_leaf (numbers.Bytes t) = OfBytes (type_of t)
number_of_leaf numbers.Bits = OfBits

-- an integer of whole bytes has at most 8
abbrev pub IsSmall : CodeNumber → Type 0
IsSmall (numbers.Bytes t) = t.size ≤ 8
IsSmall numbers.Bits = Unit {0}
