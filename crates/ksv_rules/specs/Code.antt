-- Words that only contracts of this crate's own functions cite.
use Rattle.std.specs.Prelude.{ℕ, Option, Some, None}
use Rattle.ksv_basics.specs.Plan.{Answer, ◌>>=◌}
use Rattle.ksv_expr_meaning.specs.Heard.{Heard, Valued, Opened, Numbered, Decided, Read}
use Rattle.ksv_expr_value.specs.Setting.{Setting}
use Rattle.ksv_expr_value.specs.Trail.{Trail, parent}
use Rattle.ksv_expr_value.specs.declared.fault.FaultKind.TheVariants as kinds
use Rattle.ksv_expr_value.specs.declared.step.Step.{Step}
use Rattle.ksv_expr_value.specs.declared.step.Step.TheVariants as steps
use Rattle.ksv_expr_value.specs.declared.value.Value.{Value}
use Rattle.ksv_nodes.specs.Rule.{Rule, raise, ask_head, ask_rest, ask_value, done, finish, peek, value_of_part}
use Rattle.ksv_rule_meaning.specs.Wanted.{in_object, whole}

-- how the wants of a value and of a head are met
abbrev pub ask_valued : Trail → Rule Heard
ask_valued p = do
  v ← ask_value p
  Answer (Valued v)

abbrev pub ask_opened : Trail → Rule Heard
ask_opened p = do
  h ← ask_head p
  o ← in_object p h
  Answer (Opened o.type_number o.stream)

-- and those of the rest of a list, of the file's size, of the end of a stream and of bytes
abbrev pub ask_rested : Trail → Rule Heard
ask_rested p = do
  r ← ask_rest p
  Answer (Numbered r.count)

abbrev pub file_size : Rule Heard
file_size = do
  n ← finish whole
  Answer (Numbered n)

abbrev pub is_done : Setting → Rule Heard
is_done s = do
  b ← done s.stream s.place
  Answer (Decided b)

abbrev pub bytes_between : ℕ → ℕ → Rule Heard
bytes_between f t = do
  bs ← peek f t
  Answer (Read bs)

-- the path of the object that holds the member by which p is read, which is a list's where p is an element of it
abbrev pub home_of : Trail → Option Step → Trail
home_of p (Some (steps.Index i)) = parent (parent p)
home_of p _ = parent p

-- what an object's member of a name's number is asked for
abbrev pub value_of_name : Trail → Option ℕ → Rule Value
value_of_name q None = raise kinds.BadType
value_of_name q (Some x) = value_of_part q (steps.Name x)
