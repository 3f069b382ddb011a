-- Each number in a description belongs to a name, a type, an enum or an enum's member in it; and each parameter has
-- its argument.
use Rattle.std.specs.Prelude.{◌≡◌, ℕ, ◌<◌, ◌≤◌, suc, Bool, true, false, List, [], ◌∷◌, length, filter, Option, Some, None, slice_get}
use Rattle.std.specs.Option.{option_map_or}
use Rattle.ksv_expr_tree.specs.Tree.{Tree, literal, named, special, member, unary, binary, logical, choice, field, special_field, call, index, cast, Arguments, no_arguments, argument, Word}
use Rattle.ksv_expr_tree.specs.declared.tree.EnumMember.{EnumMember}
use Rattle.ksv_desc.specs.Names.{AreDistinct}
use Rattle.ksv_desc.specs.Description.{Content, Bytes, Fixed, Number, Bits, Characters, Object, CaseValue, Literal, Negated, EnumValue, Case, Choice, Always, Switch, Extent, Sized, SizeEos, ByItself, Repeat, Once, Eos, Expr, Until, Valid, AnyOf, AllOf, Field, MemberKind, Parameter, Attribute, ParseInstance, ValueInstance, MemberOfType, Description, member_id}

-- how many arguments there are
abbrev pub count : Arguments → ℕ
count no_arguments = 0
count (argument e es) = suc (count es)

-- it holds for each of a list
abbrev pub Each : {A : Type 0} → (A → Type 0) → List A → Type 0
Each P [] = Unit {0}
Each P (x ∷ xs) = P x × Each P xs

-- it holds for something optional, if that is there
abbrev pub IfAny : {A : Type 0} → (A → Type 0) → Option A → Type 0
IfAny P None = Unit {0}
IfAny P (Some x) = P x

-- something is there, and it holds for that
abbrev pub IsThere : {A : Type 0} → (A → Type 0) → Option A → Type 0
IsThere P None = ⊥
IsThere P (Some x) = P x

-- ---- expressions

-- a name has the number of its text, a type is one of the types, and a member is one of its enum with its id
abbrev pub IsNamed : Description → Word → Type 0
IsNamed d w = IsThere (λ n. slice_get d.names n ≡ Some w.text) w.number

abbrev pub IsType : Description → ℕ → Type 0
IsType d n = n < length d.types

abbrev pub IsEnum : Description → ℕ → Type 0
IsEnum d e = e < length d.enums

abbrev pub IsMemberOf : Description → EnumMember → Type 0
IsMemberOf d g = IsThere (λ (id : List ℕ). Unit {0}) (member_id d g.enum_number g.number)

abbrev mutual
  pub IsResolvedTree : Description → Tree → Type 0
  IsResolvedTree d (literal c) = Unit {0}
  IsResolvedTree d (named w) = IsNamed d w
  IsResolvedTree d (special s) = Unit {0}
  IsResolvedTree d (member m) = IsThere (IsMemberOf d) m.given
  IsResolvedTree d (unary op x) = IsResolvedTree d x
  IsResolvedTree d (binary op x y) = IsResolvedTree d x × IsResolvedTree d y
  IsResolvedTree d (logical op x y) = IsResolvedTree d x × IsResolvedTree d y
  IsResolvedTree d (choice x y z) = IsResolvedTree d x × IsResolvedTree d y × IsResolvedTree d z
  IsResolvedTree d (field x w) = IsResolvedTree d x × IsNamed d w
  IsResolvedTree d (special_field x s) = IsResolvedTree d x
  IsResolvedTree d (call x m es) = IsResolvedTree d x × AreResolvedTrees d es
  IsResolvedTree d (index x y) = IsResolvedTree d x × IsResolvedTree d y
  IsResolvedTree d (cast x t) = IsResolvedTree d x × IsThere (IsType d) t.number

  pub AreResolvedTrees : Description → Arguments → Type 0
  AreResolvedTrees d no_arguments = Unit {0}
  AreResolvedTrees d (argument e es) = IsResolvedTree d e × AreResolvedTrees d es

-- ---- members

-- the parameters of a type
abbrev pub is_parameter : MemberOfType → Bool
is_parameter m = elim m.kind [ Parameter ↦ true | Attribute f ↦ false | ParseInstance p s f ↦ false | ValueInstance v ↦ false ]

abbrev pub parameters : Description → ℕ → List MemberOfType
parameters d t = option_map_or (λ x. filter is_parameter x.members) (slice_get d.types t) []

-- an object of an existing type, with an argument for each of its parameters
pub record IsResolvedObject (d : Description) (t : ℕ) (es : Arguments) : Type 0 where
  pub type : IsType d t
  pub as_many : count es ≡ length (parameters d t)
  pub arguments : AreResolvedTrees d es

abbrev pub IsResolvedContent : Description → Content → Type 0
IsResolvedContent d Bytes = Unit {0}
IsResolvedContent d (Fixed bs) = Unit {0}
IsResolvedContent d (Number signed bytes order enum) = IfAny (IsEnum d) enum
IsResolvedContent d (Bits width enum) = IfAny (IsEnum d) enum
IsResolvedContent d (Characters encoding) = Unit {0}
IsResolvedContent d (Object t es) = IsResolvedObject d t es

abbrev pub IsResolvedValue : Description → CaseValue → Type 0
IsResolvedValue d (Literal c) = Unit {0}
IsResolvedValue d (Negated n) = Unit {0}
IsResolvedValue d (EnumValue g) = IsMemberOf d g

abbrev pub IsResolvedCase : Description → Case → Type 0
IsResolvedCase d c = IfAny (IsResolvedValue d) c.value × IsResolvedContent d c.content

abbrev pub IsResolvedChoice : Description → Choice → Type 0
IsResolvedChoice d (Always content) = IsResolvedContent d content
IsResolvedChoice d (Switch on cases) = IsResolvedTree d on × Each (IsResolvedCase d) cases

abbrev pub IsResolvedExtent : Description → Extent → Type 0
IsResolvedExtent d (Sized e) = IsResolvedTree d e
IsResolvedExtent d SizeEos = Unit {0}
IsResolvedExtent d ByItself = Unit {0}

abbrev pub IsResolvedRepeat : Description → Repeat → Type 0
IsResolvedRepeat d Once = Unit {0}
IsResolvedRepeat d Eos = Unit {0}
IsResolvedRepeat d (Expr e) = IsResolvedTree d e
IsResolvedRepeat d (Until e) = IsResolvedTree d e

abbrev pub IsResolvedValid : Description → Valid → Type 0
IsResolvedValid d (AnyOf conditions) = Each (IsResolvedTree d) conditions
IsResolvedValid d (AllOf conditions) = Each (IsResolvedTree d) conditions

pub record IsResolvedField (d : Description) (f : Field) : Type 0 where
  pub condition : IfAny (IsResolvedTree d) f.condition
  pub repeat : IsResolvedRepeat d f.repeat
  pub choice : IsResolvedChoice d f.choice
  pub extent : IsResolvedExtent d f.extent
  pub valid : IfAny (IsResolvedValid d) f.valid

abbrev pub IsResolvedKind : Description → MemberKind → Type 0
IsResolvedKind d Parameter = Unit {0}
IsResolvedKind d (Attribute f) = IsResolvedField d f
IsResolvedKind d (ParseInstance place stream f) = IsResolvedTree d place × IfAny (IsResolvedTree d) stream × IsResolvedField d f
IsResolvedKind d (ValueInstance v) = IfAny (IsResolvedTree d) v.condition × IsResolvedTree d v.value × IfAny (IsEnum d) v.enum × IfAny (IsResolvedValid d) v.valid

-- a member has one of the names of members
abbrev pub IsResolvedMember : Description → MemberOfType → Type 0
IsResolvedMember d m = (m.name < d.known) × IsResolvedKind d m.kind

-- ---- a description

-- each name is there once, those of members before the others
pub record IsResolved (d : Description) : Type 0 where
  pub distinct : AreDistinct d.names
  pub known : d.known ≤ length d.names
  pub members : Each (λ t. Each (IsResolvedMember d) t.members) d.types
