-- What a list may be: plain lists. Such a list goes on to the end of its stream, or has a count. All its elements take the same bytes, or they
-- are objects of one type that end with their fields; each field takes always the same bytes, or is bytes whose size one earlier field says.
use Rattle.std.specs.Prelude.{ℕ, zero, suc, ◌-◌, ◌^◌, ◌==◌, nat_lt, Bool, true, false, not, ◌&&◌, ◌||◌, if◌then◌else◌, length, Option, Some, None, is_some}
use Rattle.std.specs.Prelude.{unwrap_or, slice_get}
use Rattle.ksv_expr_tree.specs.Tree.{named}
use Rattle.ksv_desc.specs.Description.{Description, Field, Attribute, Parameter, Content, Choice, Always, Switch, Extent, Sized, ByItself, Repeat, Once, Eos}
use Rattle.ksv_desc.specs.Description.{Expr, field_at, field_in, fields}
use Rattle.ksv_desc.specs.Description as contents
use Rattle.ksv_nodes.specs.declared.given.List as lists
use Rattle.ksv_rule_meaning.specs.Fields.{Sought, members_of, sought, is_attribute, last_attribute}

-- ---- sizes

-- how many bytes are read, where it is always as many
abbrev pub content_size : Content → Option ℕ
content_size (contents.Number is_signed size order enum) = Some size
content_size (contents.Fixed bytes) = Some (length bytes)
content_size _ = None

abbrev pub choice_size : Choice → Option ℕ
choice_size (Always c) = content_size c
choice_size (Switch on cases) = None

-- the name that says a size, where bytes are read and it is a name alone
abbrev pub extent_name : Extent → Option ℕ
extent_name (Sized (named w)) = w.number
extent_name _ = None

abbrev pub size_name : Choice → Extent → Option ℕ
size_name (Always contents.Bytes) x = extent_name x
size_name _ x = None

-- an integer that is no member of an enum
abbrev pub is_integer : Choice → Bool
is_integer (Always (contents.Number is_signed size order None)) = true
is_integer _ = false

-- ---- layouts

-- How each element is read: as an object of a type, or without fields, and then as one field that has no name. The fields go from 0 to the last:
-- their names, their places among the members, how each is read, and which one says the sizes of others.
pub record Layout : Type 0 where
  pub type_number : Option ℕ
  pub name : ℕ → ℕ
  pub member : ℕ → ℕ
  pub field : ℕ → Field
  pub last : ℕ
  pub sizer : ℕ

-- the size of a field; without one, another field says it
abbrev pub size_at : Layout → ℕ → Option ℕ
size_at y j = choice_size (y.field j).choice

-- a field up to this one has a size that another says
abbrev pub is_named_to : Layout → ℕ → Bool
is_named_to y zero = not (is_some (size_at y zero))
is_named_to y (suc j) = is_named_to y j || not (is_some (size_at y (suc j)))

-- the name of the field before
abbrev pub before : Layout → ℕ → Option ℕ
before y zero = None
before y (suc j) = Some (y.name j)

-- ---- the layout of elements without fields

abbrev pub whole : Field → Layout
whole f = record { type_number = None; name = λ j. 0; member = λ j. 0; field = λ j. f; last = 0; sizer = 0 }

-- ---- the layout of a type

-- the number of the field of a name, of those up to one; 0 where none has it
abbrev pub place_of : (ℕ → ℕ) → ℕ → ℕ → ℕ
place_of name x zero = 0
place_of name x (suc j) = if name (suc j) == x then suc j else place_of name x j

-- a field that says the size of one up to this one
abbrev pub sizer_of : (ℕ → ℕ) → (ℕ → Field) → ℕ → ℕ
sizer_of name field zero = 0
sizer_of name field (suc j) = elim (size_name (field (suc j)).choice (field (suc j)).extent) [ None ↦ sizer_of name field j | Some x ↦ place_of name x j ]

-- the attribute of this number; where there is none it is no attribute
abbrev pub no_attribute : Sought
no_attribute = record { member = 0; before = None; kind = Parameter }

abbrev pub found : Description → ℕ → ℕ → Sought
found d t j = unwrap_or (sought (unwrap_or (slice_get (fields d t) j) 0) 0 None (members_of d t)) no_attribute

-- how it is read; where there is none, as the list is
abbrev pub found_field : Description → Field → ℕ → ℕ → Field
found_field d f t j = unwrap_or (field_in (found d t j).kind) f

abbrev pub layout_of : Description → Field → ℕ → Layout
layout_of d f t = record {
  type_number = Some t;
  name = λ j. unwrap_or (slice_get (fields d t) j) 0;
  member = λ j. (found d t j).member;
  field = λ j. found_field d f t j;
  last = length (fields d t) - 1;
  sizer = sizer_of (λ j. unwrap_or (slice_get (fields d t) j) 0) (λ j. found_field d f t j) (length (fields d t) - 1);
}

-- ---- which are plain

abbrev pub same_name : Option ℕ → Option ℕ → Bool
same_name None None = true
same_name (Some x) (Some y) = x == y
same_name _ _ = false

abbrev pub is_once : Repeat → Bool
is_once Once = true
is_once _ = false

-- a field of a size that isn't 0, or one whose size an earlier integer says that has no `valid`
abbrev pub is_sized : Layout → ℕ → Option ℕ → Bool
is_sized y j (Some n) = nat_lt 0 n
is_sized y j None = nat_lt y.sizer j && (same_name (size_name (y.field j).choice (y.field j).extent) (Some (y.name y.sizer)) &&
    (is_integer (y.field y.sizer).choice && not (is_some (y.field y.sizer).valid)))

-- it is read once and has no condition
abbrev pub is_alone : Field → Bool
is_alone f = not (is_some f.condition) && is_once f.repeat

-- it is the attribute of its name, behind the field before
abbrev pub is_in_order : Layout → ℕ → Sought → Bool
is_in_order y j s = is_attribute s.kind && same_name s.before (before y j)

abbrev pub is_plain_field : Description → ℕ → Layout → ℕ → Bool
is_plain_field d t y j = is_in_order y j (found d t j) && (is_alone (y.field j) && (nat_lt (y.name j) (2 ^ 32) && is_sized y j (size_at y j)))

-- so of all up to this number
abbrev pub all_to : (ℕ → Bool) → ℕ → Bool
all_to p zero = p zero
all_to p (suc j) = p (suc j) && all_to p j

-- all attributes of a type are such fields
abbrev pub is_plain_type : Description → ℕ → Layout → Bool
is_plain_type d t y = all_to (is_plain_field d t y) y.last && same_name (last_attribute None (members_of d t)) (Some (y.name y.last))

-- elements to the end of the stream, or as many as a count says
abbrev pub repeats : Repeat → Option ℕ → Bool
repeats Eos None = true
repeats (Expr e) (Some n) = true
repeats _ _ = false

-- the layout of what a field reads each time, where it is plain
abbrev pub object_layout : Description → Field → Content → Extent → Option Layout
object_layout d f (contents.Object t given) ByItself = if is_plain_type d t (layout_of d f t) then Some (layout_of d f t) else None
object_layout d f _ _ = None

abbrev pub whole_layout : Field → Option ℕ → Option Layout
whole_layout f (Some n) = if nat_lt 0 n then Some (whole f) else None
whole_layout f None = None

abbrev pub content_layout : Description → Field → Choice → Option Layout
content_layout d f (Always c) = if is_some (content_size c) then whole_layout f (content_size c) else object_layout d f c f.extent
content_layout d f (Switch on cases) = None

abbrev pub field_layout : Description → lists.List → Option Field → Option Layout
field_layout d g None = None
field_layout d g (Some f) = if repeats f.repeat g.count then content_layout d f f.choice else None

-- The layout of the elements of a list. A list with one is plain.
abbrev pub list_layout : Description → lists.List → Option Layout
list_layout d g = field_layout d g (field_at d g.origin.member.type_number g.origin.member.member)
