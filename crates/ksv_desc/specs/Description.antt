-- What a description is: its types with their members, its enums, and the names of all members. Types, enums and names are
-- known by their numbers.
use Rattle.std.specs.Prelude.{ℕ, Bool, true, false, if◌then◌else◌, ◌==◌, ℤ, List, [], map, filter, find, take, Option, Some, None, option_map, option_and_then, unwrap_or, slice_get}
use Rattle.std.specs.List.{position_from}
use Rattle.std.specs.Option.{option_map_or}
use Rattle.std.specs.Ordering.{int_eq}
use Rattle.std.specs.Str.{bytes_eq, is_utf8}
use Rattle.ksv_expr_tree.specs.declared.tree.EnumMember.{EnumMember}
use Rattle.ksv_expr_tree.specs.Tree.{Arguments}
use Rattle.ksv_expr_tree.specs.Tree as expressions
use Rattle.ksv_expr_value.specs.declared.encoding.Encoding.{Encoding}
use Rattle.ksv_desc.specs.declared.order.ByteOrder.{ByteOrder}

-- ---- what a description holds

-- What is read: bytes; certain bytes; an integer, whether it has a sign, of how many bytes, in which order, as a member of
-- which enum; this many bits, as a member of which enum; a text; or an object of a type, with the arguments for its parameters.
pub data Content : Type 0 where
  Bytes : Content
  Fixed : List ℕ → Content
  Number : Bool → ℕ → ByteOrder → Option ℕ → Content
  Bits : ℕ → Option ℕ → Content
  Characters : Encoding → Content
  Object : ℕ → Arguments → Content

-- one bit that is no member of an enum is a truth value, and no integer
abbrev pub is_truth : ℕ → Option ℕ → Bool
is_truth width None = width == 1
is_truth width (Some enum) = false

-- what a switch compares with
pub data CaseValue : Type 0 where
  Literal : expressions.Constant → CaseValue
  Negated : ℕ → CaseValue
  EnumValue : EnumMember → CaseValue

-- a case of a switch, in the order of the text; `_` has no value
pub record Case : Type 0 where
  pub value : Option CaseValue
  pub content : Content

-- the same content each time, or one that a switch chooses
pub data Choice : Type 0 where
  Always : Content → Choice
  Switch : expressions.Tree → List Case → Choice

-- where it ends: after a size, at the end of the stream, or (without `size` and `size-eos`) where its content or
-- its terminator ends it
pub data Extent : Type 0 where
  Sized : expressions.Tree → Extent
  SizeEos : Extent
  ByItself : Extent

-- the byte that ends it: whether it is passed over, whether it is a part of the value, and whether it must be there
pub record Terminator : Type 0 where
  pub byte : ℕ
  pub is_consumed : Bool
  pub is_included : Bool
  pub is_required : Bool

pub data Repeat : Type 0 where
  Once : Repeat
  Eos : Repeat
  Expr : expressions.Tree → Repeat
  Until : expressions.Tree → Repeat

-- what a value must meet, once it is made: one of these conditions is true, or each of them; `_` is that value
pub data Valid : Type 0 where
  AnyOf : List expressions.Tree → Valid
  AllOf : List expressions.Tree → Valid

-- what an attribute of a `seq`, or a parse instance, reads
pub record Field : Type 0 where
  pub condition : Option expressions.Tree
  pub repeat : Repeat
  pub choice : Choice
  pub extent : Extent
  pub terminator : Option Terminator
  pub valid : Option Valid

-- what a value instance calculates: its condition, its value, as a member of which enum, and what it must meet
pub record Calculation : Type 0 where
  pub condition : Option expressions.Tree
  pub value : expressions.Tree
  pub enum : Option ℕ
  pub valid : Option Valid

-- a parameter; an attribute of `seq`; a parse instance, with its place and perhaps a stream of its own; a value instance
pub data MemberKind : Type 0 where
  Parameter : MemberKind
  Attribute : Field → MemberKind
  ParseInstance : expressions.Tree → Option expressions.Tree → Field → MemberKind
  ValueInstance : Calculation → MemberKind

-- a member, by the number of its name
pub record MemberOfType : Type 0 where
  pub name : ℕ
  pub kind : MemberKind

-- a type: its id, and its members in the order of the text
pub record TypeOfObjects : Type 0 where
  pub id : List ℕ
  pub members : List MemberOfType

-- a number of an enum and its id
pub record Numbered : Type 0 where
  pub number : ℤ
  pub id : List ℕ

pub record Enum : Type 0 where
  pub id : List ℕ
  pub members : List Numbered

-- A description. Its names are those of members, of which there are `known`, and then those that are only after
-- dots.
pub record Description : Type 0 where
  pub types : List TypeOfObjects
  pub enums : List Enum
  pub names : List (List ℕ)
  pub known : ℕ

-- ---- what is asked of a description

-- a name, by its number
abbrev pub name : Description → ℕ → List ℕ
name d n = unwrap_or (slice_get d.names n) []

-- the id of a type, and the names of its members and of those in its `seq`
abbrev pub type_id : Description → ℕ → List ℕ
type_id d t = option_map_or (λ x. x.id) (slice_get d.types t) []

abbrev pub is_attribute : MemberOfType → Bool
is_attribute m = elim m.kind [ Parameter ↦ false | Attribute f ↦ true | ParseInstance p s f ↦ false | ValueInstance v ↦ false ]

abbrev pub members : Description → ℕ → List ℕ
members d t = option_map_or (λ x. map (λ m. m.name) x.members) (slice_get d.types t) []

abbrev pub fields : Description → ℕ → List ℕ
fields d t = option_map_or (λ x. map (λ m. m.name) (filter is_attribute x.members)) (slice_get d.types t) []

-- the id of an enum, and of a number in it
abbrev pub enum_id : Description → ℕ → List ℕ
enum_id d e = option_map_or (λ x. x.id) (slice_get d.enums e) []

abbrev pub member_id : Description → ℕ → ℤ → Option (List ℕ)
member_id d e number = option_and_then (λ x. option_map (λ m. m.id) (find (λ m. int_eq number m.number) x.members)) (slice_get d.enums e)

-- the number of a member's name
abbrev pub number_of_name : Description → List ℕ → Option ℕ
number_of_name d text = position_from (bytes_eq text) 0 (take d.known d.names)

-- how a member reads, where it is one that reads
abbrev pub field_in : MemberKind → Option Field
field_in Parameter = None
field_in (Attribute f) = Some f
field_in (ParseInstance p s f) = Some f
field_in (ValueInstance v) = None

-- how the member at a place of a type's members reads
abbrev pub field_at : Description → ℕ → ℕ → Option Field
field_at d t place = option_and_then (λ m. field_in m.kind) (slice_get (option_map_or (λ x. x.members) (slice_get d.types t) []) place)

-- what was read, by the place of the case that a switch chose; where it chose none, bytes were
abbrev pub content_by : Choice → Option ℕ → Option Content
content_by (Always c) case = Some c
content_by (Switch on cases) None = Some Bytes
content_by (Switch on cases) (Some i) = option_map (λ c. c.content) (slice_get cases i)

-- what a member's value, or each element of it, must meet
abbrev pub valid_of : MemberKind → Option Valid
valid_of Parameter = None
valid_of (Attribute f) = f.valid
valid_of (ParseInstance p s f) = f.valid
valid_of (ValueInstance v) = v.valid

-- the bytes of a name or an id, if they are a text
unfoldable pub as_text : List ℕ → Option (List ℕ)
as_text bytes = if is_utf8 bytes then Some bytes else None
