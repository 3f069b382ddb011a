-- Which members are in a `seq`.
use Rattle.std.specs.Prelude.{Bool, true, false}
use Rattle.ksv_desc.specs.declared.members.MemberKind.{MemberKind}
use Rattle.ksv_desc.specs.declared.members.MemberKind.TheVariants.{Parameter, Attribute, ParseInstance, ValueInstance}
use Rattle.ksv_desc.specs.declared.members.MemberDesc.{MemberDesc}

abbrev pub is_attribute_kind : MemberKind → Bool
is_attribute_kind Parameter = false
is_attribute_kind (Attribute field) = true
is_attribute_kind (ParseInstance place stream field) = false
is_attribute_kind (ValueInstance condition value enumeration valid) = false

abbrev pub is_attribute : MemberDesc → Bool
is_attribute m = is_attribute_kind m.kind
