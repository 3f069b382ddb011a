-- The plain data of the code's pieces of a description.
use Rattle.std.specs.Prelude.{map, option_map, string_bytes}
use Rattle.ksv_expr_tree.specs.Tree.{view, literal_of, arguments_of}
use Rattle.ksv_desc.specs.declared.content.Content.{Content as CodeContent}
use Rattle.ksv_desc.specs.declared.content.Content.TheVariants as contents
use Rattle.ksv_desc.specs.declared.content.CaseValue.{CaseValue as CodeValue}
use Rattle.ksv_desc.specs.declared.content.CaseValue.TheVariants as values
use Rattle.ksv_desc.specs.declared.content.Case.{Case as CodeCase}
use Rattle.ksv_desc.specs.declared.content.Choice.{Choice as CodeChoice}
use Rattle.ksv_desc.specs.declared.content.Choice.TheVariants as choices
use Rattle.ksv_desc.specs.declared.field.Extent.{Extent as CodeExtent}
use Rattle.ksv_desc.specs.declared.field.Extent.TheVariants as extents
use Rattle.ksv_desc.specs.declared.field.Terminator.{Terminator as CodeTerminator}
use Rattle.ksv_desc.specs.declared.field.Repeat.{Repeat as CodeRepeat}
use Rattle.ksv_desc.specs.declared.field.Repeat.TheVariants as repeats
use Rattle.ksv_desc.specs.declared.valid.Valid.{Valid as CodeValid}
use Rattle.ksv_desc.specs.declared.valid.Valid.TheVariants as valids
use Rattle.ksv_desc.specs.declared.field.Field.{Field as CodeField}
use Rattle.ksv_desc.specs.declared.members.MemberKind.{MemberKind as CodeKind}
use Rattle.ksv_desc.specs.declared.members.MemberKind.TheVariants as kinds
use Rattle.ksv_desc.specs.declared.members.MemberDesc.{MemberDesc}
use Rattle.ksv_desc.specs.declared.type_desc.TypeDesc.{TypeDesc}
use Rattle.ksv_desc.specs.declared.enums.EnumEntry.{EnumEntry}
use Rattle.ksv_desc.specs.declared.enums.EnumDesc.{EnumDesc}
use Rattle.ksv_desc.specs.Description.{Content, Bytes, Fixed, Number, Bits, Characters, Object, CaseValue, Literal, Negated, EnumValue, Case, Choice, Always, Switch, Extent, Sized, SizeEos, ByItself, Terminator, Repeat, Once, Eos, Expr, Until, Valid, AnyOf, AllOf, Field, MemberKind, Parameter, Attribute, ParseInstance, ValueInstance, MemberOfType, TypeOfObjects, Numbered, Enum}

-- ---- what is read

abbrev pub plain_content : CodeContent → Content
plain_content contents.Bytes = Bytes
plain_content (contents.Fixed bytes) = Fixed bytes.items
plain_content (contents.Number is_signed size order enumeration) = Number is_signed size order enumeration
plain_content (contents.Bits width enumeration) = Bits width enumeration
plain_content (contents.Characters encoding) = Characters encoding
plain_content (contents.Object type_number arguments) = Object type_number (arguments_of (map view arguments.items))

abbrev pub plain_value : CodeValue → CaseValue
plain_value (values.Literal literal) = Literal (literal_of literal)
plain_value (values.Negated number) = Negated number
plain_value (values.Member member) = EnumValue member

abbrev pub plain_case : CodeCase → Case
plain_case c = record { value = option_map plain_value c.value; content = plain_content c.content }

abbrev pub plain_choice : CodeChoice → Choice
plain_choice (choices.Always content) = Always (plain_content content)
plain_choice (choices.Switch on cases) = Switch (view on) (map plain_case cases.items)

-- ---- how it is read

abbrev pub plain_extent : CodeExtent → Extent
plain_extent (extents.Sized e) = Sized (view e)
plain_extent extents.SizeEos = SizeEos
plain_extent extents.ByItself = ByItself

abbrev pub plain_terminator : CodeTerminator → Terminator
plain_terminator t = record { byte = t.byte; is_consumed = t.is_consumed; is_included = t.is_included; is_required = t.is_required }

abbrev pub plain_repeat : CodeRepeat → Repeat
plain_repeat repeats.Once = Once
plain_repeat repeats.Eos = Eos
plain_repeat (repeats.Expr e) = Expr (view e)
plain_repeat (repeats.Until e) = Until (view e)

abbrev pub plain_valid : CodeValid → Valid
plain_valid (valids.AnyOf conditions) = AnyOf (map view conditions.items)
plain_valid (valids.AllOf conditions) = AllOf (map view conditions.items)

abbrev pub plain_field : CodeField → Field
plain_field f = record {
  condition = option_map view f.condition;
  repeat = plain_repeat f.repeat;
  choice = plain_choice f.choice;
  extent = plain_extent f.extent;
  terminator = option_map plain_terminator f.terminator;
  valid = option_map plain_valid f.valid;
}

-- ---- members, types and enums

abbrev pub plain_kind : CodeKind → MemberKind
plain_kind kinds.Parameter = Parameter
plain_kind (kinds.Attribute field) = Attribute (plain_field field)
plain_kind (kinds.ParseInstance place stream field) = ParseInstance (view place) (option_map view stream) (plain_field field)
plain_kind (kinds.ValueInstance condition value enumeration valid) = ValueInstance (record { condition = option_map view condition; value = view value; enum = enumeration; valid = option_map plain_valid valid })

abbrev pub plain_member : MemberDesc → MemberOfType
plain_member m = record { name = m.name; kind = plain_kind m.kind }

abbrev pub plain_type : TypeDesc → TypeOfObjects
plain_type t = record { id = string_bytes t.id; members = map plain_member t.members.items }

abbrev pub plain_entry : EnumEntry → Numbered
plain_entry e = record { number = e.number; id = string_bytes e.id }

abbrev pub plain_enum : EnumDesc → Enum
plain_enum e = record { id = string_bytes e.id; members = map plain_entry e.entries.items }
