-- What replies mean.
use Rattle.std.specs.Prelude.{ℕ, Bool, List, ◌++◌, Result, Ok, Err}
use Rattle.ksv_expr_value.specs.declared.fault.Fault.{Fault}
use Rattle.ksv_expr_value.specs.declared.value.Stream.{Stream}
use Rattle.ksv_expr_value.specs.declared.value.Value.{Value}
use Rattle.ksv_expr_meaning.specs.declared.want.Got.{Got}
use Rattle.ksv_expr_meaning.specs.declared.want.Got.TheVariants as gots

-- the answer to a want: a value; an object's type and stream; a count; a truth value; bytes
pub data Heard : Type 0 where
  Valued : Value → Heard
  Opened : ℕ → Stream → Heard
  Numbered : ℕ → Heard
  Decided : Bool → Heard
  Read : List ℕ → Heard

-- what a reply means; for bytes it is their content, however they are cut in two
abbrev pub heard : Got → Result Heard Fault
heard (gots.Value v) = Ok (Valued v)
heard (gots.Object t w) = Ok (Opened t w)
heard (gots.Number n) = Ok (Numbered n)
heard (gots.Truth b) = Ok (Decided b)
heard (gots.Slices a b) = Ok (Read (a.now ++ b.now))
heard (gots.Fault f) = Err f
