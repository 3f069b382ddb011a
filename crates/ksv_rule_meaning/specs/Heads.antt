-- What is at a path, and where: attributes of `seq` one after the other, instances where they say, the elements of
-- repeated ones, and what each reads. The rules are those of the Kaitai Struct User Guide on `seq`, `instances`, sizes,
-- terminators, `if`, `switch-on` and `repeat`; that all of it is looked for only when it is asked is this project's own.
use Rattle.std.specs.Prelude.{ℕ, ◌+◌, ◌-◌, ◌==◌, nat_lt, nat_le, Bool, true, false, ◌||◌, length, Option, Some, None, if◌then◌else◌}
use Rattle.ksv_basics.specs.Plan.{Answer, Fail, ◌>>=◌, ◌>>◌}
use Rattle.ksv_expr_tree.specs.Tree.{Tree}
use Rattle.ksv_expr_value.specs.Trail.{Trail, element_limit, parent, last}
use Rattle.ksv_expr_value.specs.Places.{Place, at_byte, byte_of, aligned, further}
use Rattle.ksv_expr_value.specs.Setting.{Setting, NoElement}
use Rattle.ksv_expr_value.specs.declared.fault.FaultKind.TheVariants as kinds
use Rattle.ksv_expr_value.specs.declared.step.Step.{Step}
use Rattle.ksv_expr_value.specs.declared.step.Step.TheVariants as steps
use Rattle.ksv_expr_value.specs.declared.value.Stream.{Stream}
use Rattle.ksv_desc.specs.Description.{Description, Field, Content, Choice, Always, Extent, Sized, SizeEos, ByItself, Repeat, Once, Eos, Expr, Until, Terminator, MemberKind, Parameter, Attribute, ParseInstance, ValueInstance}
use Rattle.ksv_desc.specs.Description as contents
use Rattle.ksv_nodes.specs.declared.given.Origin.{Origin}
use Rattle.ksv_nodes.specs.declared.given.ObjectEnd.TheVariants as endings
use Rattle.ksv_nodes.specs.declared.given.Object.{Object}
use Rattle.ksv_nodes.specs.declared.given.Holder.{Holder}
use Rattle.ksv_nodes.specs.declared.given.List as lists
use Rattle.ksv_nodes.specs.declared.given.Head.{Head}
use Rattle.ksv_nodes.specs.declared.given.Head.TheVariants as heads
use Rattle.ksv_nodes.specs.declared.turn.readings.Found.{Found}
use Rattle.ksv_nodes.specs.declared.turn.readings.Found.TheVariants as founds
use Rattle.ksv_nodes.specs.declared.given.Ended.{Ended}
use Rattle.ksv_nodes.specs.Rule.{Rule, raise, There, part, ask_head, ask_end, reach, finish, done, find}
use Rattle.ksv_rule_meaning.specs.Fields.{Sought, member_named, field_of}
use Rattle.ksv_rule_meaning.specs.Choosing.{Chosen, choose}
use Rattle.ksv_rule_meaning.specs.Wanted.{whole, in_object, holds, size_of, stream_for}

-- ---- what is read at a place

-- n bytes from a place on
unfoldable pub leaf : Origin → Stream → Place → ℕ → Rule Head
leaf origin w s n = do
  reach w (byte_of s + n)
  Answer (heads.Leaf (record { origin = origin; from = s; to = at_byte (byte_of s + n); end = at_byte (byte_of s + n) }))

-- n bits from a place on; the file goes on at least to the byte after those that they meet
unfoldable pub bits_leaf : Origin → Stream → Place → ℕ → Rule Head
bits_leaf origin w s n = do
  reach w (byte_of (further s n))
  Answer (heads.Leaf (record { origin = origin; from = s; to = further s n; end = further s n }))

-- all bytes to the stream's end
unfoldable pub leaf_to_end : Origin → Stream → Place → Rule Head
leaf_to_end origin w s = do
  e ← finish w
  Answer (heads.Leaf (record { origin = origin; from = s; to = at_byte e; end = at_byte e }))

-- Bytes up to a terminator. It is a part of them where it is included, and what follows begins at it where it isn't consumed.
-- Without one the bytes go on to the stream's end, unless it must be there.
abbrev pub terminated_at : Origin → Place → Terminator → Found → Rule Head
terminated_at origin s t (founds.At q) = Answer (heads.Leaf (record { origin = origin; from = s; to = at_byte (if t.is_included then q + 1 else q); end = at_byte (if t.is_consumed then q + 1 else q) }))
terminated_at origin s t (founds.Missing e) = if t.is_required then raise kinds.NoTerminator else Answer (heads.Leaf (record { origin = origin; from = s; to = at_byte e; end = at_byte e }))

unfoldable pub terminated : Origin → Stream → Place → Terminator → Rule Head
terminated origin w s t = do
  q ← find w (byte_of s) t.byte
  terminated_at origin s t q

-- what goes as far as it goes by itself; where nothing says how far, nothing is there
unfoldable pub run_of : Origin → Stream → Place → Option Terminator → Rule Head
run_of origin w s None = Answer (heads.Absent (Some s))
run_of origin w s (Some t) = terminated origin w s t

-- bytes or a text
unfoldable pub sized_leaf : Setting → Origin → Stream → Place → Tree → Rule Head
sized_leaf at origin w s e = do
  n ← size_of at e
  leaf origin w s n

unfoldable pub bytes_at : Setting → Origin → Stream → Place → Extent → Option Terminator → Rule Head
bytes_at at origin w s (Sized e) t = sized_leaf at origin w s e
bytes_at at origin w s SizeEos t = leaf_to_end origin w s
bytes_at at origin w s ByItself t = run_of origin w s t

-- an object with a size has a stream of its own, with which it ends
unfoldable pub sized_object : Setting → Origin → ℕ → Stream → Place → Tree → Rule Head
sized_object at origin t w s e = do
  n ← size_of at e
  reach w (byte_of s + n)
  Answer (heads.Object (record { origin = Some origin; type_number = t; stream = record { from = byte_of s; to = Some (byte_of s + n) }; start = s; ending = endings.OfStream }))

-- an object to the stream's end, and one that ends with its fields
unfoldable pub object_at : Setting → Origin → ℕ → Stream → Place → Extent → Rule Head
object_at at origin t w s (Sized e) = sized_object at origin t w s e
object_at at origin t w s SizeEos = Answer (heads.Object (record { origin = Some origin; type_number = t; stream = record { from = byte_of s; to = w.to }; start = s; ending = endings.OfStream }))
object_at at origin t w s ByItself = Answer (heads.Object (record { origin = Some origin; type_number = t; stream = w; start = s; ending = endings.ByFields }))

unfoldable pub content_at : Setting → Origin → Stream → Place → Field → Content → Rule Head
content_at at origin w s f contents.Bytes = bytes_at at origin w s f.extent f.terminator
content_at at origin w s f (contents.Fixed bs) = leaf origin w s (length bs)
content_at at origin w s f (contents.Number signed size order enum) = leaf origin w s size
content_at at origin w s f (contents.Bits width enum) = bits_leaf origin w s width
content_at at origin w s f (contents.Characters encoding) = bytes_at at origin w s f.extent f.terminator
content_at at origin w s f (contents.Object t given) = object_at at origin t w s f.extent

-- what is read where a switch chose no case: bytes of a size, and without one nothing
unfoldable pub unchosen_at : Setting → Origin → Stream → Place → Extent → Rule Head
unchosen_at at origin w s (Sized e) = sized_leaf at origin w s e
unchosen_at at origin w s SizeEos = leaf_to_end origin w s
unchosen_at at origin w s ByItself = Answer (heads.Absent (Some s))

abbrev pub chosen_at : Setting → Origin → Stream → Place → Field → Option Chosen → Rule Head
chosen_at at origin w s f None = unchosen_at at origin w s f.extent
chosen_at at origin w s f (Some c) = content_at at (record origin { case = c.case }) w s f c.content

-- what an attribute or instance, or one of its elements, reads at a place of a stream: first its case is chosen
unfoldable pub shape_at : Setting → Origin → Stream → Place → Field → Rule Head
shape_at at origin w s f = do
  c ← choose at f.choice
  chosen_at at origin w s f c

-- ---- attributes

-- how many elements there are: at most `element_limit`
abbrev pub in_count : ℕ → Rule ℕ
in_count n = if nat_lt element_limit n then raise kinds.TooMany else Answer n

unfoldable pub count_of : Setting → Tree → Rule ℕ
count_of at e = do
  n ← size_of at e
  in_count n

-- the elements of an attribute
unfoldable pub counted : Setting → Origin → Stream → Place → Tree → Rule Head
counted at origin w s e = do
  n ← count_of at e
  Answer (heads.List (record { origin = origin; stream = w; start = s; count = Some n; is_empty = n == 0 }))

unfoldable pub until_eos : Setting → Origin → Stream → Place → Rule Head
until_eos at origin w s = do
  b ← done w s
  Answer (heads.List (record { origin = origin; stream = w; start = s; count = None; is_empty = b }))

unfoldable pub repeated : Setting → Origin → Stream → Place → Field → Repeat → Rule Head
repeated at origin w s f Once = shape_at at origin w s f
repeated at origin w s f (Expr e) = counted at origin w s e
repeated at origin w s f Eos = until_eos at origin w s
repeated at origin w s f (Until e) = Answer (heads.List (record { origin = origin; stream = w; start = s; count = None; is_empty = false }))

-- an attribute whose condition is false takes no bytes
unfoldable pub attribute_at : Setting → Origin → Stream → Place → Field → Rule Head
attribute_at at origin w s f = do
  there ← holds at f.condition
  if there then repeated at origin w s f f.repeat else Answer (heads.Absent (Some s))

-- An attribute begins where its object does, or after the attribute before it: bits where that one ends, all else at the next byte.
unfoldable pub part_end : Trail → Step → Rule Ended
part_end q step = do
  p ← part q step
  ask_end p

abbrev pub is_of_bits : Choice → Bool
is_of_bits (Always (contents.Bits width enum)) = true
is_of_bits _ = false

abbrev pub start_after : Place → Choice → Place
start_after e c = if is_of_bits c then e else aligned e

unfoldable pub attribute_start : Trail → Object → Option ℕ → Choice → Rule Place
attribute_start q o None c = Answer o.start
attribute_start q o (Some y) c = do
  e ← part_end q (steps.Name y)
  Answer (start_after e.place c)

-- where expressions of a member are evaluated: in the object q, at the place s, with faults at p
abbrev pub setting : Trail → Stream → Place → Trail → Setting
setting q w s p = record { home = q; stream = w; place = s; index = None; element = NoElement; here = p }

-- the same within the element of this number
abbrev pub within : Setting → ℕ → Setting
within at i = record at { index = Some i }

-- where expressions of an attribute of the object q, and of the element i of one, are evaluated: at the place s, with faults at r
abbrev pub attribute_setting : Trail → Trail → Origin → Place → Setting
attribute_setting r q g s = setting q g.home s r

abbrev pub element_setting : Trail → Trail → Origin → Place → ℕ → Setting
element_setting r q g s i = within (setting q g.home s r) i

-- how a member of an object is read; its case isn't chosen yet
abbrev pub origin_of : Object → Sought → Origin
origin_of o x = record { member = record { type_number = o.type_number; member = x.member }; case = None; home = o.stream }

unfoldable pub attribute_head : Trail → Trail → Object → Sought → Field → Rule Head
attribute_head p q o x f = do
  s ← attribute_start q o x.before f.choice
  attribute_at (attribute_setting p q (origin_of o x) s) (origin_of o x) o.stream s f

-- ---- instances

-- Expressions of an instance are evaluated where its object begins.
abbrev pub instance_setting : Trail → Trail → Object → Setting
instance_setting p q o = setting q o.stream o.start p

-- The same of a calculated value, whose object is known by its holder alone.
abbrev pub holder_setting : Trail → Trail → Holder → Setting
holder_setting p q o = setting q o.stream o.start p

-- A parse instance is in the stream of its object, or in the one that `io` names, at a position that is counted from that
-- stream's first byte.
unfoldable pub positioned_in : Setting → Origin → Stream → Tree → Field → Rule Head
positioned_in at origin w e f = do
  n ← size_of at e
  reach w (w.from + n)
  repeated (record at { place = at_byte (w.from + n) }) origin w (at_byte (w.from + n)) f f.repeat

unfoldable pub positioned : Setting → Origin → Tree → Option Tree → Field → Rule Head
positioned at origin e io f = do
  w ← stream_for at io
  positioned_in at origin w e f

-- an instance whose condition is false has no place
unfoldable pub instance_head : Setting → Origin → Tree → Option Tree → Field → Rule Head
instance_head at origin e io f = do
  there ← holds at f.condition
  if there then positioned at origin e io f else Answer (heads.Absent None)

-- what a calculated value depends on of the object that holds it: all but how its end is known
abbrev pub holder_of : Object → Holder
holder_of o = record { origin = o.origin; type_number = o.type_number; stream = o.stream; start = o.start }

-- a value instance or a parameter
abbrev pub calc : Object → Sought → Head
calc o x = heads.Calc (record { member = x.member; object = holder_of o })

unfoldable pub value_head : Setting → Object → Sought → Option Tree → Rule Head
value_head at o x condition = do
  there ← holds at condition
  if there then Answer (calc o x) else Answer (heads.Absent None)

-- ---- members

-- a member of an object
unfoldable pub member_at : Trail → Trail → Object → Sought → MemberKind → Rule Head
member_at p q o x Parameter = Answer (calc o x)
member_at p q o x (Attribute f) = attribute_head p q o x f
member_at p q o x (ParseInstance e io f) = instance_head (instance_setting p q o) (origin_of o x) e io f
member_at p q o x (ValueInstance v) = value_head (instance_setting p q o) o x v.condition

-- the member x of q, which is p
unfoldable pub member_head : Description → Trail → Trail → ℕ → Rule Head
member_head d p q x = do
  h ← ask_head q
  o ← in_object q h
  m ← member_named d o.type_number x
  member_at p q o m m.kind

-- ---- elements

-- The list that is at a path. Where an attribute is absent, so are its elements; what is no list has none.
abbrev pub in_list : Trail → Head → Rule lists.List
in_list l (heads.List g) = Answer g
in_list l (heads.Absent at) = Fail (There kinds.Absent l)
in_list l _ = raise kinds.NoSuch

-- the list is known to have no element of this index
abbrev pub is_past : Option ℕ → ℕ → Bool
is_past None i = false
is_past (Some n) i = nat_le n i

-- after the last element there is none
abbrev pub in_next : Ended → Rule Place
in_next e = if e.last then raise kinds.BadIndex else Answer e.place

-- an element begins where its list does, or where the element before it ends
unfoldable pub next_start : Trail → ℕ → Rule Place
next_start l i = do
  e ← part_end l (steps.Index i)
  in_next e

unfoldable pub element_start : Trail → lists.List → ℕ → Rule Place
element_start l g i = if g.is_empty || is_past g.count i then raise kinds.BadIndex
    else if i == 0 then Answer g.start
    else next_start l (i - 1)

-- Where the expressions of the member by which p is read are evaluated: in the object that holds it, with the number of p where p is
-- an element.
abbrev pub member_setting : Trail → Trail → Option Step → Origin → Place → Setting
member_setting r p (Some (steps.Index i)) g s = element_setting r (parent (parent p)) g s i
member_setting r p _ g s = attribute_setting r (parent p) g s

-- the element i of l, which is p; l is an attribute of the object q
unfoldable pub element_head : Description → Trail → Trail → Trail → ℕ → Rule Head
element_head d p l q i = do
  h ← ask_head l
  g ← in_list l h
  s ← element_start l g i
  f ← field_of d g.origin.member
  shape_at (element_setting p q g.origin s i) g.origin g.stream s f

-- ---- heads

-- the root is an object of the first type, in the whole file
abbrev pub root_head : Head
root_head = heads.Object (record { origin = None; type_number = 0; stream = whole; start = at_byte 0; ending = endings.ByFields })

abbrev pub head_at : Description → Trail → Option Step → Rule Head
head_at d p None = Answer root_head
head_at d p (Some (steps.Name x)) = member_head d p (parent p) x
head_at d p (Some (steps.Index i)) = element_head d p (parent p) (parent (parent p)) i

unfoldable pub head_of : Description → Trail → Rule Head
head_of d p = head_at d p (last p)
