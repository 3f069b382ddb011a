-- What a description says of the members of its types.
use Rattle.std.specs.Prelude.{ℕ, zero, suc, ◌+◌, ◌==◌, Bool, true, false, List, [], ◌∷◌, Option, Some, None, slice_get, if◌then◌else◌}
use Rattle.std.specs.Option.{option_map_or}
use Rattle.ksv_basics.specs.Plan.{Answer}
use Rattle.ksv_expr_value.specs.declared.fault.FaultKind.TheVariants as kinds
use Rattle.ksv_desc.specs.Description.{Description, MemberOfType, Field, MemberKind, Parameter, Attribute, ParseInstance, ValueInstance, field_at}
use Rattle.ksv_nodes.specs.declared.given.MemberRef.{MemberRef}
use Rattle.ksv_nodes.specs.Rule.{Rule, raise}

-- the members of a type, in written order; a number that no type has is that of none
unfoldable pub members_of : Description → ℕ → List MemberOfType
members_of d t = option_map_or (λ x. x.members) (slice_get d.types t) []

-- an attribute of `seq`
abbrev pub is_attribute : MemberKind → Bool
is_attribute (Attribute f) = true
is_attribute _ = false

-- the attribute of `seq` that is last, after a member
abbrev pub behind : Option ℕ → MemberOfType → Option ℕ
behind before m = if is_attribute m.kind then Some m.name else before

-- A member that was looked for: its place among the members of its type, the name of the attribute of `seq` before it, and what it is.
pub record Sought : Type 0 where
  pub member : ℕ
  pub before : Option ℕ
  pub kind : MemberKind

-- the member of a name, from the member of a place on, `before` being the attribute before that
unfoldable pub sought : ℕ → ℕ → Option ℕ → List MemberOfType → Option Sought
sought x i before [] = None
sought x i before (m ∷ ms) = if m.name == x then Some (record { member = i; before = before; kind = m.kind }) else sought x (i + 1) (behind before m) ms

-- a type without this name has no such member
abbrev pub in_sought : Option Sought → Rule Sought
in_sought None = raise kinds.NoSuch
in_sought (Some s) = Answer s

unfoldable pub member_named : Description → ℕ → ℕ → Rule Sought
member_named d t x = in_sought (sought x 0 None (members_of d t))

-- the last attribute of `seq`
abbrev pub last_attribute : Option ℕ → List MemberOfType → Option ℕ
last_attribute before [] = before
last_attribute before (m ∷ ms) = last_attribute (behind before m) ms

abbrev pub in_kind : Option MemberOfType → Rule MemberKind
in_kind None = raise kinds.NoSuch
in_kind (Some m) = Answer m.kind

-- what the member at a place of a type's members is; that of a true head is there (`HeadsAreRead` of Laws)
unfoldable pub kind_of : Description → MemberRef → Rule MemberKind
kind_of d r = in_kind (slice_get (members_of d r.type_number) r.member)

abbrev pub in_field : Option Field → Rule Field
in_field None = raise kinds.NoSuch
in_field (Some f) = Answer f

-- how it reads; that of a true head does
unfoldable pub field_of : Description → MemberRef → Rule Field
field_of d r = in_field (field_at d r.type_number r.member)

-- ---- parameters

abbrev pub is_parameter : MemberOfType → Bool
is_parameter m = elim m.kind [ Parameter ↦ true | Attribute f ↦ false | ParseInstance e io f ↦ false | ValueInstance v ↦ false ]

-- how many parameters are among the first of some members: this many arguments are those of others
unfoldable pub parameters_before : ℕ → List MemberOfType → ℕ
parameters_before zero ms = 0
parameters_before (suc i) [] = 0
parameters_before (suc i) (m ∷ ms) = if is_parameter m then parameters_before i ms + 1 else parameters_before i ms
