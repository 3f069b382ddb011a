-- Expressions in rules: what an expression wants is asked of nodes and read from the bytes. Expressions are those of the
-- Kaitai Struct User Guide; their meaning is ksv_expr_eval's.
use Rattle.std.specs.Prelude.{ℕ, Bool, true, ℤ, pos, negsuc, Option, Some, None}
use Rattle.ksv_basics.specs.Plan.{Answer, Fail, ◌>>=◌, translate}
use Rattle.ksv_expr_tree.specs.Tree.{Tree}
use Rattle.ksv_expr_value.specs.Trail.{Trail}
use Rattle.ksv_expr_meaning.specs.Heard.{Heard, Valued, Opened, Numbered, Decided, Read}
use Rattle.ksv_expr_value.specs.Setting.{Setting}
use Rattle.ksv_expr_meaning.specs.Meaning.{value_of}
use Rattle.ksv_expr_value.specs.declared.fault.FaultKind.TheVariants as kinds
use Rattle.ksv_expr_value.specs.declared.value.Stream.{Stream}
use Rattle.ksv_expr_value.specs.declared.value.Value.{Value}
use Rattle.ksv_expr_value.specs.declared.value.Value.TheVariants as values
use Rattle.ksv_expr_meaning.specs.declared.want.Want.{Want}
use Rattle.ksv_expr_meaning.specs.declared.want.Want.TheVariants as wants
use Rattle.ksv_nodes.specs.declared.given.Head.{Head}
use Rattle.ksv_nodes.specs.declared.given.Head.TheVariants as heads
use Rattle.ksv_nodes.specs.declared.given.Object.{Object}
use Rattle.ksv_nodes.specs.Rule.{Rule, Here, There, raise, ask_head, ask_value, ask_rest, finish, done, peek}

-- the whole file
abbrev pub whole : Stream
whole = record { from = 0; to = None }

-- the fault of a head at a path q that isn't what is looked for there, for an asker at p
abbrev pub missing : {A : Type 0} → Trail → Head → Trail → Rule A
missing q (heads.Absent at) p = Fail (There kinds.Absent q)
missing q _ p = Fail (There kinds.NoSuch p)

-- The object that is at a path. Where an attribute is absent, so is what is asked inside it; what is no object has no
-- members.
abbrev pub in_object : Trail → Head → Rule Object
in_object q (heads.Object o) = Answer o
in_object q (heads.Absent at) = Fail (There kinds.Absent q)
in_object q _ = raise kinds.NoSuch

-- how what an expression wants is met
unfoldable pub wanted : Setting → Want → Rule Heard
wanted s (wants.Value p) = do
  v ← ask_value p
  Answer (Valued v)
wanted s (wants.Head p) = do
  h ← ask_head p
  o ← in_object p h
  Answer (Opened o.type_number o.stream)
wanted s (wants.Rest p) = do
  r ← ask_rest p
  Answer (Numbered r.count)
wanted s wants.Size = do
  n ← finish whole
  Answer (Numbered n)
wanted s wants.Done = do
  b ← done s.stream s.place
  Answer (Decided b)
wanted s (wants.Bytes f t) = do
  bs ← peek f t
  Answer (Read bs)

-- the value of an expression; its faults are at the rule's own path
unfoldable pub expression : Setting → Tree → Rule Value
expression s e = translate (wanted s) Here (value_of s e)

-- an integer, and a truth value; another kind doesn't fit
abbrev pub in_integer : Value → Rule ℤ
in_integer (values.Int n) = Answer n
in_integer _ = raise kinds.BadType

abbrev pub in_truth : Value → Rule Bool
in_truth (values.Bool b) = Answer b
in_truth _ = raise kinds.BadType

unfoldable pub integer_of : Setting → Tree → Rule ℤ
integer_of s e = do
  v ← expression s e
  in_integer v

unfoldable pub truth_of : Setting → Tree → Rule Bool
truth_of s e = do
  v ← expression s e
  in_truth v

-- a condition; without one it holds
unfoldable pub holds : Setting → Option Tree → Rule Bool
holds s None = Answer true
holds s (Some e) = truth_of s e

-- a size, a count or a position isn't below 0
abbrev pub in_size : ℤ → Rule ℕ
in_size (pos n) = Answer n
in_size (negsuc n) = raise kinds.BadSize

unfoldable pub size_of : Setting → Tree → Rule ℕ
size_of s e = do
  z ← integer_of s e
  in_size z

-- a stream
abbrev pub in_stream : Value → Rule Stream
in_stream (values.Stream w) = Answer w
in_stream _ = raise kinds.BadType

-- the stream that an expression names; without one it is the object's own
unfoldable pub stream_for : Setting → Option Tree → Rule Stream
stream_for s None = Answer s.stream
stream_for s (Some e) = do
  v ← expression s e
  in_stream v
