-- The value of what is at a path: integers, bits, bytes and texts, value instances and parameters as the Kaitai Struct User Guide
-- has them, objects and lists by their path.
use Rattle.std.specs.Prelude.{ℕ, zero, suc, ◌+◌, nat_le, ◌==◌, Bool, not, ℤ, pos, List, length, take, Option, Some, None, is_some, if◌then◌else◌}
use Rattle.std.specs.Str.{bytes_eq}
use Rattle.ksv_basics.specs.Plan.{Answer, ◌>>=◌}
use Rattle.ksv_desc.specs.declared.order.ByteOrder.{ByteOrder}
use Rattle.ksv_expr_tree.specs.Tree.{Tree, Arguments, no_arguments, argument}
use Rattle.ksv_expr_value.specs.Places.{Place, byte_of, byte_in}
use Rattle.ksv_expr_value.specs.Bits.{number_of, bits_from}
use Rattle.ksv_expr_value.specs.Setting.{Setting}
use Rattle.ksv_expr_value.specs.Trail.{Trail, parent, last}
use Rattle.ksv_expr_value.specs.Range.{ranged}
use Rattle.ksv_expr_value.specs.Encodings.{decoded}
use Rattle.ksv_expr_value.specs.declared.encoding.Encoding.{Encoding}
use Rattle.ksv_expr_value.specs.declared.fault.FaultKind.TheVariants as kinds
use Rattle.ksv_expr_value.specs.declared.value.Value.{Value}
use Rattle.ksv_expr_value.specs.declared.value.Value.TheVariants as values
use Rattle.ksv_desc.specs.Description.{Description, is_truth, MemberKind, Parameter, ValueInstance, Field, Content, Extent, Sized, SizeEos, ByItself, Terminator}
use Rattle.ksv_desc.specs.Description as contents
use Rattle.ksv_nodes.specs.declared.given.Calc.{Calc}
use Rattle.ksv_nodes.specs.declared.given.Leaf.{Leaf}
use Rattle.ksv_nodes.specs.declared.given.Holder.{Holder}
use Rattle.ksv_nodes.specs.declared.given.Origin.{Origin}
use Rattle.ksv_nodes.specs.declared.given.Head.{Head}
use Rattle.ksv_nodes.specs.declared.given.Head.TheVariants as heads
use Rattle.ksv_nodes.specs.Reading.{first_at}
use Rattle.ksv_nodes.specs.Rule.{Rule, raise, ask_head, peek}
use Rattle.ksv_rule_meaning.specs.Checks.{value_checked}
use Rattle.ksv_rule_meaning.specs.Choosing.{content_of}
use Rattle.ksv_rule_meaning.specs.Fields.{members_of, kind_of, field_of, parameters_before}
use Rattle.ksv_rule_meaning.specs.Heads.{member_setting, holder_setting}
use Rattle.ksv_rule_meaning.specs.Integers.{integer_value}
use Rattle.ksv_rule_meaning.specs.Wanted.{expression}

-- an integer, and as a member of an enum where it is one
abbrev pub as_member : Option ℕ → ℤ → Value
as_member None n = values.Int n
as_member (Some e) n = values.Member e n

-- integers of at most 8 bytes are in the range
abbrev pub in_number : Option ℕ → Option ℤ → Rule Value
in_number enum None = raise kinds.Overflow
in_number enum (Some n) = Answer (as_member enum n)

-- the integer that bytes say; none has more than 8
abbrev pub number_in : Bool → ByteOrder → Option ℕ → List ℕ → Rule Value
number_in signed order enum bytes =
    if nat_le (length bytes) 8 then in_number enum (ranged (integer_value signed order bytes)) else raise kinds.BadType

unfoldable pub number_value : Leaf → Bool → ByteOrder → Option ℕ → Rule Value
number_value l signed order enum = do
  bs ← peek (byte_of l.from) (byte_of l.to)
  number_in signed order enum bs

-- the number that bits write
abbrev pub of_bits : ℕ → Option ℕ → ℕ → Rule Value
of_bits width enum n = if is_truth width enum then Answer (values.Bool (not (n == 0))) else in_number enum (ranged (pos n))

-- it has at most 64 bits, which meet at most nine bytes
abbrev pub bits_in : ℕ → Option ℕ → Leaf → List ℕ → Rule Value
bits_in width enum l bytes = if nat_le (length bytes) 9 then of_bits width enum (number_of (bits_from l.from l.to bytes)) else raise kinds.BadType

unfoldable pub bits_value : Leaf → ℕ → Option ℕ → Rule Value
bits_value l width enum = do
  bs ← peek (byte_in l.from) (byte_of l.to)
  bits_in width enum l bs

-- certain bytes and no others
unfoldable pub fixed_value : Leaf → List ℕ → Rule Value
fixed_value l wanted = do
  bs ← peek (byte_of l.from) (byte_of l.to)
  if bytes_eq bs wanted then Answer (values.Bytes (byte_of l.from) (byte_of l.to)) else raise kinds.Contents

-- Bytes with a size of their own are cut before the first terminator, or after it where it is included; without one they
-- aren't cut. Without a size the terminator isn't among the bytes, or is their last.
abbrev pub cut_by : Extent → Option Terminator → Option Terminator
cut_by (Sized e) t = t
cut_by SizeEos t = t
cut_by ByItself t = None

abbrev pub kept_of : Terminator → List ℕ → Option ℕ → ℕ
kept_of t bytes None = length bytes
kept_of t bytes (Some i) = if t.is_included then i + 1 else i

abbrev pub kept_by : Option Terminator → List ℕ → ℕ
kept_by None bytes = length bytes
kept_by (Some t) bytes = kept_of t bytes (first_at t.byte bytes)

-- whether the bytes of an attribute or instance may be cut, and how many of them are its value
abbrev pub is_cut : Field → Bool
is_cut f = is_some (cut_by f.extent f.terminator)

unfoldable pub kept : Field → List ℕ → ℕ
kept f bytes = kept_by (cut_by f.extent f.terminator) bytes

-- the range of bytes; where they may be cut they are read
unfoldable pub cut_bytes : Leaf → Field → Rule Value
cut_bytes l f = do
  bs ← peek (byte_of l.from) (byte_of l.to)
  Answer (values.Bytes (byte_of l.from) (byte_of l.from + kept f bs))

unfoldable pub bytes_value : Leaf → Field → Rule Value
bytes_value l f = if is_cut f then cut_bytes l f else Answer (values.Bytes (byte_of l.from) (byte_of l.to))

-- a text; bytes that spell none are the fault bad-text
abbrev pub in_text : Option (List ℕ) → Rule Value
in_text None = raise kinds.BadText
in_text (Some t) = Answer (values.Text t)

abbrev pub cut_text : Field → List ℕ → List ℕ
cut_text f bytes = if is_cut f then take (kept f bytes) bytes else bytes

unfoldable pub text_value : Leaf → Encoding → Field → Rule Value
text_value l encoding f = do
  bs ← peek (byte_of l.from) (byte_of l.to)
  in_text (decoded encoding (cut_text f bs))

unfoldable pub content_value : Leaf → Field → Content → Rule Value
content_value l f contents.Bytes = bytes_value l f
content_value l f (contents.Fixed bs) = fixed_value l bs
content_value l f (contents.Number signed size order enum) = number_value l signed order enum
content_value l f (contents.Bits width enum) = bits_value l width enum
content_value l f (contents.Characters encoding) = text_value l encoding f
content_value l f (contents.Object t given) = raise kinds.NoSuch

unfoldable pub leaf_value : Description → Leaf → Rule Value
leaf_value d l = do
  f ← field_of d l.origin.member
  c ← content_of f.choice l.origin.case
  content_value l f c

-- ---- calculated values

-- No member's value is a stream: `load` lets `_io` be alone only as the end of an `io`.
abbrev pub in_no_stream : Value → Rule Value
in_no_stream (values.Stream w) = raise kinds.BadType
in_no_stream v = Answer v

-- a value as a member of an enum, where it is one; what is no integer doesn't fit
abbrev pub in_enum : Option ℕ → Value → Rule Value
in_enum None v = in_no_stream v
in_enum (Some e) (values.Int n) = Answer (values.Member e n)
in_enum (Some e) _ = raise kinds.BadType

-- the expression of a value instance, in its object
unfoldable pub instance_value : Setting → Tree → Option ℕ → Rule Value
instance_value at e enum = do
  v ← expression at e
  in_enum enum v

-- the arguments that were given to an object of a type
abbrev pub given_by : Content → Rule Arguments
given_by (contents.Object t given) = Answer given
given_by _ = raise kinds.NoSuch

unfoldable pub arguments_for : Description → Origin → Rule Arguments
arguments_for d g = do
  f ← field_of d g.member
  c ← content_of f.choice g.case
  given_by c

-- the argument of this number; there is one for each parameter
unfoldable pub argument_at : Arguments → ℕ → Rule Tree
argument_at no_arguments i = raise kinds.NoSuch
argument_at (argument e es) zero = Answer e
argument_at (argument e es) (suc i) = argument_at es i

-- Where the arguments of the object q are evaluated: where the member by which q is read is. Their faults are at p, the parameter.
abbrev pub argument_setting : Trail → Trail → Origin → Place → Setting
argument_setting p q g start = member_setting p q (last q) g start

-- the value of an argument isn't converted
unfoldable pub plain_value : Setting → Tree → Rule Value
plain_value at e = do
  v ← expression at e
  in_no_stream v

unfoldable pub argument_value : Description → Trail → Trail → ℕ → Holder → Origin → Rule Value
argument_value d p q member o g = do
  given ← arguments_for d g
  e ← argument_at given (parameters_before member (members_of d o.type_number))
  plain_value (argument_setting p q g o.start) e

-- nothing is given to the root, which has no parameters
unfoldable pub parameter_value : Description → Trail → Trail → ℕ → Holder → Option Origin → Rule Value
parameter_value d p q member o None = raise kinds.NoSuch
parameter_value d p q member o (Some g) = argument_value d p q member o g

unfoldable pub calc_value : Description → Trail → Trail → Calc → MemberKind → Rule Value
calc_value d p q c Parameter = parameter_value d p q c.member c.object c.object.origin
calc_value d p q c (ValueInstance v) = instance_value (holder_setting p q c.object) v.value v.enum
calc_value d p q c _ = raise kinds.NoSuch

-- the value of a member that is calculated, at the path p, of the object q
unfoldable pub calculated : Description → Trail → Trail → Calc → Rule Value
calculated d p q c = do
  k ← kind_of d (record { type_number = c.object.type_number; member = c.member })
  calc_value d p q c k

-- ---- values

unfoldable pub value_at : Description → Trail → Head → Rule Value
value_at d p (heads.Absent at) = raise kinds.Absent
value_at d p (heads.Calc c) = calculated d p (parent p) c
value_at d p (heads.Leaf l) = leaf_value d l
value_at d p (heads.Object o) = Answer (values.Object p)
value_at d p (heads.List g) = Answer (values.List p)

-- a value is made, and then checked
unfoldable pub value_of : Description → Trail → Rule Value
value_of d p = do
  h ← ask_head p
  v ← value_at d p h
  u ← value_checked d p h v
  Answer v
