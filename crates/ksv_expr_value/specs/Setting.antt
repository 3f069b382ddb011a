-- The context in which an expression is evaluated.
use Rattle.std.specs.Prelude.{ℕ, Option}
use Rattle.ksv_expr_value.specs.Trail.{Trail}
use Rattle.ksv_expr_value.specs.Places.{Place}
use Rattle.ksv_expr_value.specs.declared.value.Stream.{Stream}
use Rattle.ksv_expr_value.specs.declared.value.Value.{Value}

-- What `_` is: nothing; the element of a path, whose value is asked; or a value that was just made.
pub data Element : Type 0 where
  NoElement : Element
  ElementAt : Trail → Element
  Made : Value → Element

-- The object in which an expression is evaluated and that object's stream, the current place in the file, the
-- number of the element that the expression belongs to, what `_` is, and the path of faults.
pub record Setting : Type 0 where
  pub home : Trail
  pub stream : Stream
  pub place : Place
  pub index : Option ℕ
  pub element : Element
  pub here : Trail
