-- What an expression means: what it asks, and what it does with the answers. Operands are evaluated from left to
-- right, and the first fault ends the expression; `and`, `or` and `?:` take only what they need. The language is
-- that of the Kaitai Struct User Guide's expressions.
use Rattle.std.specs.Prelude.{ℕ, ◌+◌, ◌-◌, ◌==◌, Bool, true, false, not, nat_lt, ℤ, pos, negsuc, ◌-ℤ◌, List, [], ◌∷◌, Option, Some, None, if◌then◌else◌}
use Rattle.std.specs.Str.{bytes_eq}
use Rattle.ksv_basics.specs.Plan.{Answer, ◌>>=◌}
use Rattle.ksv_expr_tree.specs.declared.tree.Expr.{Expr}
use Rattle.ksv_expr_tree.specs.Tree.{view, Tree, Constant, integer, truth, string, Word, no_arguments, argument, literal, named, special, member, unary, binary, logical, choice, field, special_field, call, index, cast}
use Rattle.ksv_expr_tree.specs.declared.tree.BinaryOperator.{BinaryOperator}
use Rattle.ksv_expr_tree.specs.declared.tree.BinaryOperator.TheVariants as operators
use Rattle.ksv_expr_tree.specs.declared.tree.LogicalOperator.{LogicalOperator}
use Rattle.ksv_expr_tree.specs.declared.tree.LogicalOperator.TheVariants as logicals
use Rattle.ksv_expr_tree.specs.declared.tree.SpecialName.{SpecialName}
use Rattle.ksv_expr_tree.specs.declared.tree.SpecialName.TheVariants as specials
use Rattle.ksv_expr_tree.specs.declared.tree.EnumMember.{EnumMember}
use Rattle.ksv_expr_value.specs.declared.fault.FaultKind.TheVariants as kinds
use Rattle.ksv_expr_value.specs.declared.encoding.Encoding.{Encoding}
use Rattle.ksv_expr_meaning.specs.declared.method.Method.{Method}
use Rattle.ksv_expr_meaning.specs.declared.method.Method.TheVariants as methods
use Rattle.ksv_expr_value.specs.declared.step.Step.TheVariants as steps
use Rattle.ksv_expr_value.specs.declared.value.Stream.{Stream}
use Rattle.ksv_expr_value.specs.declared.value.Value.{Value}
use Rattle.ksv_expr_value.specs.declared.value.Value.TheVariants as values
use Rattle.ksv_expr_meaning.specs.declared.want.Want.TheVariants as wants
use Rattle.ksv_expr_value.specs.Trail.{Trail, element_limit, root, child, holder}
use Rattle.ksv_expr_value.specs.Range.{ranged}
use Rattle.ksv_expr_meaning.specs.Methods.{method_named}
use Rattle.ksv_expr_value.specs.Encodings.{encoding_named, decoded}
use Rattle.ksv_expr_meaning.specs.Operators.{exactly, matched, integers_of, same_truth, texts_of, members_of, unary_of, integer_method, truth_method, text_method, bytes_method, member_method, text_call_one, text_call_two}
use Rattle.ksv_expr_value.specs.Setting.{Setting, Element, NoElement, ElementAt, Made}
use Rattle.ksv_expr_value.specs.Places.{byte_of}
use Rattle.ksv_expr_meaning.specs.Asked.{Eval, raise, given, value_for, opened_for, number_for, truth_for, bytes_for}

-- ---- paths

-- a path, or the fault path-too-long
abbrev pub in_path : Option Trail → Eval Trail
in_path None = raise kinds.PathTooLong
in_path (Some p) = Answer p

-- the path of a member of an object, by the number of its name
unfoldable pub member_path : Trail → Option ℕ → Eval Trail
member_path q None = raise kinds.BadType
member_path q (Some x) = in_path (child q (steps.Name x))

-- the value of a member of an object
unfoldable pub member_value : Trail → Option ℕ → Eval Value
member_value q x = do
  p ← member_path q x
  value_for (wants.Value p)

-- the path of an element of a list
unfoldable pub element_path : Trail → ℤ → Eval Trail
element_path l (pos i) = if nat_lt i element_limit then in_path (child l (steps.Index i)) else raise kinds.BadIndex
element_path l (negsuc i) = raise kinds.BadIndex

-- the value of an element of a list
unfoldable pub element_value : Trail → ℤ → Eval Value
element_value l i = do
  p ← element_path l i
  value_for (wants.Value p)

-- how many elements a list has
unfoldable pub element_count : Trail → Eval ℕ
element_count l = do
  p ← in_path (child l (steps.Index 0))
  number_for (wants.Rest p)

-- the object that holds an attribute
abbrev pub holder_of : Option Trail → Eval Value
holder_of None = raise kinds.NoParent
holder_of (Some p) = Answer (values.Object p)

-- the stream of an object
unfoldable pub stream_of : Trail → Eval Value
stream_of q = do
  o ← opened_for (wants.Head q)
  Answer (values.Stream o.stream)

-- ---- names alone

-- the number of the element that the expression belongs to
abbrev pub index_value : Option ℕ → Eval Value
index_value None = raise kinds.BadType
index_value (Some i) = Answer (values.Int (pos i))

-- what `_` is: the value of the element just read, or the value just made, which isn't asked
abbrev pub element_read : Element → Eval Value
element_read NoElement = raise kinds.BadType
element_read (ElementAt p) = value_for (wants.Value p)
element_read (Made v) = Answer v

-- a name to which the language gives a meaning
unfoldable pub special_value : Setting → SpecialName → Eval Value
special_value s specials.Root = Answer (values.Object root)
special_value s specials.Parent = holder_of (holder s.home)
special_value s specials.Io = Answer (values.Stream s.stream)
special_value s specials.Index = index_value s.index
special_value s specials.Element = element_read s.element

-- a literal
abbrev pub literal_value : Constant → Value
literal_value (integer n) = values.Int (pos n)
literal_value (truth b) = values.Bool b
literal_value (string t) = values.Text t

-- a member of an enum, by its enum's number and its own
abbrev pub ranged_member : ℕ → Option ℤ → Eval Value
ranged_member e None = raise kinds.Overflow
ranged_member e (Some n) = Answer (values.Member e n)

abbrev pub enum_member : Option EnumMember → Eval Value
enum_member None = raise kinds.BadType
enum_member (Some m) = ranged_member m.enum_number (ranged m.number)

-- ---- operators

-- a truth value
abbrev pub in_truth_value : Value → Eval Bool
in_truth_value (values.Bool b) = Answer b
in_truth_value _ = raise kinds.BadType

-- a truth value, as a value
unfoldable pub truth_value : Value → Eval Value
truth_value v = do
  b ← in_truth_value v
  Answer (values.Bool b)

-- the left operand decides alone: for `and` if it is false, for `or` if it is true
abbrev pub decides : LogicalOperator → Bool → Bool
decides logicals.And b = not b
decides logicals.Or b = b

-- the same bytes; they are read if there are equally many
unfoldable pub same_bytes : ℕ → ℕ → ℕ → ℕ → Eval Bool
same_bytes f t f' t' = if (t - f) == (t' - f') then (do
  a ← bytes_for (wants.Bytes f t)
  b ← bytes_for (wants.Bytes f' t')
  Answer (bytes_eq a b)) else Answer false

-- an operator between two ranges of bytes
unfoldable pub bytes_with : BinaryOperator → ℕ → ℕ → ℕ → ℕ → Eval Value
bytes_with operators.Equal f t f' t' = do
  same ← same_bytes f t f' t'
  given (matched operators.Equal same)
bytes_with operators.NotEqual f t f' t' = do
  same ← same_bytes f t f' t'
  given (matched operators.NotEqual same)
bytes_with _ f t f' t' = raise kinds.BadType

-- an operator between a value of one kind and another value
unfoldable pub integer_and : BinaryOperator → ℤ → Value → Eval Value
integer_and op a (values.Int b) = given (integers_of op a b)
integer_and op a _ = raise kinds.BadType

unfoldable pub truth_and : BinaryOperator → Bool → Value → Eval Value
truth_and op a (values.Bool b) = given (matched op (same_truth a b))
truth_and op a _ = raise kinds.BadType

unfoldable pub text_and : BinaryOperator → List ℕ → Value → Eval Value
text_and op a (values.Text b) = given (texts_of op a b)
text_and op a _ = raise kinds.BadType

unfoldable pub bytes_and : BinaryOperator → ℕ → ℕ → Value → Eval Value
bytes_and op f t (values.Bytes f' t') = bytes_with op f t f' t'
bytes_and op f t _ = raise kinds.BadType

unfoldable pub member_and : BinaryOperator → ℕ → ℤ → Value → Eval Value
member_and op e m (values.Member f n) = given (members_of op e m f n)
member_and op e m _ = raise kinds.BadType

-- an operator between two values
unfoldable pub binary_of : BinaryOperator → Value → Value → Eval Value
binary_of op (values.Int a) w = integer_and op a w
binary_of op (values.Bool a) w = truth_and op a w
binary_of op (values.Text a) w = text_and op a w
binary_of op (values.Bytes f t) w = bytes_and op f t w
binary_of op (values.Member e m) w = member_and op e m w
binary_of op _ w = raise kinds.BadType

-- ---- after a `.`

-- an end minus a start
abbrev pub distance : ℕ → ℕ → Eval Value
distance end start = given (exactly (ranged (pos end -ℤ pos start)))

-- the size of a stream; an open one goes on to the end of the file
abbrev pub size_to : ℕ → Option ℕ → Eval Value
size_to from None = do
  n ← number_for wants.Size
  distance n from
size_to from (Some to) = distance to from

unfoldable pub stream_size : Stream → Eval Value
stream_size w = size_to w.from w.to

-- whether the current place is the end of the home's stream
unfoldable pub at_end : Eval Value
at_end = do
  b ← truth_for wants.Done
  Answer (values.Bool b)

-- a stream; only the home's own stream has a current place
unfoldable pub stream_method : Setting → Bool → Stream → Method → Eval Value
stream_method s own w methods.Size = stream_size w
stream_method s own w methods.Place = if own then distance (byte_of s.place) w.from else raise kinds.BadType
stream_method s own w methods.IsAtEnd = if own then at_end else raise kinds.BadType
stream_method s own w _ = raise kinds.BadType

-- the number of elements, and the last element
unfoldable pub list_size : Trail → Eval Value
list_size l = do
  n ← element_count l
  Answer (values.Int (pos n))

unfoldable pub last_element : Trail → Eval Value
last_element l = do
  n ← element_count l
  element_value l (pos n -ℤ pos 1)

-- a list
unfoldable pub list_method : Trail → Method → Eval Value
list_method l methods.First = element_value l (pos 0)
list_method l methods.Last = last_element l
list_method l methods.Size = list_size l
list_method l _ = raise kinds.BadType

-- a method without parentheses, of a value that isn't an object
unfoldable pub method_of : Setting → Bool → Value → Method → Eval Value
method_of s own (values.Int a) m = given (integer_method m a)
method_of s own (values.Bool b) m = given (truth_method m b)
method_of s own (values.Text t) m = given (text_method m t)
method_of s own (values.Bytes f t) m = given (bytes_method m f t)
method_of s own (values.Member e n) m = given (member_method m n)
method_of s own (values.Object q) m = raise kinds.BadType
method_of s own (values.List l) m = list_method l m
method_of s own (values.Stream w) m = stream_method s own w m

-- the same by the method's name
abbrev pub method_by : Setting → Bool → Value → Option Method → Eval Value
method_by s own v None = raise kinds.BadType
method_by s own v (Some m) = method_of s own v m

-- what a name after a value gives: for an object its member, for other values a method
unfoldable pub field_of : Setting → Bool → Value → Word → Eval Value
field_of s own (values.Object q) n = member_value q n.number
field_of s own v n = method_by s own v (method_named n.text)

-- the expression is `_io`, the home's own stream
abbrev pub is_own_stream : Tree → Bool
is_own_stream (special specials.Io) = true
is_own_stream _ = false

-- a special name after an object
abbrev pub object_special : Trail → SpecialName → Eval Value
object_special q specials.Root = Answer (values.Object root)
object_special q specials.Parent = holder_of (holder q)
object_special q specials.Io = stream_of q
object_special q _ = raise kinds.BadType

unfoldable pub special_of : Value → SpecialName → Eval Value
special_of (values.Object q) n = object_special q n
special_of _ n = raise kinds.BadType

-- the text that bytes spell; they are read even if the encoding is unknown
abbrev pub decoded_text : Option (List ℕ) → Eval Value
decoded_text None = raise kinds.BadText
decoded_text (Some t) = Answer (values.Text t)

abbrev pub decoded_by : Option Encoding → List ℕ → Eval Value
decoded_by None bs = raise kinds.BadText
decoded_by (Some e) bs = decoded_text (decoded e bs)

unfoldable pub text_in : ℕ → ℕ → List ℕ → Eval Value
text_in f t encoding = do
  bs ← bytes_for (wants.Bytes f t)
  decoded_by (encoding_named encoding) bs

-- bytes, with one value in parentheses
unfoldable pub bytes_call : Method → ℕ → ℕ → Value → Eval Value
bytes_call methods.ToText f t (values.Text e) = text_in f t e
bytes_call _ f t v = raise kinds.BadType

-- a method with one value in parentheses, and with two
unfoldable pub call_one : Value → Option Method → Value → Eval Value
call_one v None a = raise kinds.BadType
call_one (values.Text t) (Some m) a = given (text_call_one m t a)
call_one (values.Bytes f t) (Some m) a = bytes_call m f t a
call_one v (Some m) a = raise kinds.BadType

unfoldable pub call_two : Value → Option Method → Value → Value → Eval Value
call_two v None a b = raise kinds.BadType
call_two (values.Text t) (Some m) a b = given (text_call_two m t a b)
call_two v (Some m) a b = raise kinds.BadType

-- the first byte that was read
abbrev pub first_byte : List ℕ → Eval Value
first_byte [] = raise kinds.BadType
first_byte (b ∷ bs) = Answer (values.Int (pos b))

-- the byte at a place of the file
unfoldable pub byte_from : ℕ → Eval Value
byte_from p = do
  bs ← bytes_for (wants.Bytes p (p + 1))
  first_byte bs

-- the byte at a place of a range
unfoldable pub byte_at : ℕ → ℕ → ℤ → Eval Value
byte_at f t (pos i) = if nat_lt i (t - f) then byte_from (f + i) else raise kinds.BadIndex
byte_at f t (negsuc i) = raise kinds.BadIndex

-- the item at an index: of a list an element, of bytes a byte
unfoldable pub list_at : Trail → Value → Eval Value
list_at l (values.Int i) = element_value l i
list_at l _ = raise kinds.BadType

unfoldable pub bytes_at : ℕ → ℕ → Value → Eval Value
bytes_at f t (values.Int i) = byte_at f t i
bytes_at f t _ = raise kinds.BadType

unfoldable pub item_at : Value → Value → Eval Value
item_at (values.List l) i = list_at l i
item_at (values.Bytes f t) i = bytes_at f t i
item_at _ i = raise kinds.BadType

-- an object, if it has this type
unfoldable pub object_of_type : Trail → ℕ → Eval Value
object_of_type q t = do
  o ← opened_for (wants.Head q)
  if o.type_number == t then Answer (values.Object q) else raise kinds.BadType

abbrev pub object_as : Trail → Option ℕ → Eval Value
object_as q None = raise kinds.BadType
object_as q (Some t) = object_of_type q t

unfoldable pub cast_to : Value → Option ℕ → Eval Value
cast_to (values.Object q) t = object_as q t
cast_to _ t = raise kinds.BadType

-- ---- expressions

-- The value of an expression. Names, casts and members without numbers are bad-type, and so is a call without one
-- or two arguments.
unfoldable pub value_of : Setting → Tree → Eval Value
value_of s (literal c) = Answer (literal_value c)
value_of s (named n) = member_value s.home n.number
value_of s (special n) = special_value s n
value_of s (member m) = enum_member m.given
value_of s (unary op e) = do
  v ← value_of s e
  given (unary_of op v)
value_of s (binary op l r) = do
  v ← value_of s l
  w ← value_of s r
  binary_of op v w
value_of s (logical op l r) = do
  v ← value_of s l
  b ← in_truth_value v
  if decides op b then Answer (values.Bool b) else (do
    w ← value_of s r
    truth_value w)
value_of s (choice c y n) = do
  v ← value_of s c
  b ← in_truth_value v
  if b then value_of s y else value_of s n
value_of s (field e n) = do
  v ← value_of s e
  field_of s (is_own_stream e) v n
value_of s (special_field e n) = do
  v ← value_of s e
  special_of v n
value_of s (call e m (argument a no_arguments)) = do
  v ← value_of s e
  x ← value_of s a
  call_one v (method_named m) x
value_of s (call e m (argument a (argument b no_arguments))) = do
  v ← value_of s e
  x ← value_of s a
  y ← value_of s b
  call_two v (method_named m) x y
value_of s (call e m _) = raise kinds.BadType
value_of s (index e i) = do
  v ← value_of s e
  w ← value_of s i
  item_at v w
value_of s (cast e t) = do
  v ← value_of s e
  cast_to v t.number

-- the same for an expression as the code holds it
unfoldable pub meaning : Setting → Expr → Eval Value
meaning s e = value_of s (view e)
