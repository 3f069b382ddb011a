-- The plain data of the code's rows.
use Rattle.std.specs.Prelude.{ℕ, Bool, List, map, string_bytes, is_some, codes}
use Rattle.ksv_yaml_tree.specs.View.{view}
use Rattle.ksv_schema_names.specs.declared.row.Row.{Row as RowOfCode}
use Rattle.ksv_schema_names.specs.declared.members.Member.{Member as MemberOfCode}
use Rattle.ksv_schema_names.specs.declared.members.MemberName.{MemberName}
use Rattle.ksv_schema_names.specs.declared.members.MemberName.TheVariants.{Written, Made}
use Rattle.ksv_schema_names.specs.declared.outwards.Sought as sought
use Rattle.ksv_schema_names.specs.declared.outwards.Sought.TheVariants.{Named, Order, Encoding}
use Rattle.ksv_schema_names.specs.Rows.{Row, row_in}
use Rattle.ksv_schema_names.specs.Members.{Member}
use Rattle.ksv_schema_names.specs.Types.{order_in, setting}

abbrev pub row_of : RowOfCode → Row
row_of r = record { within = r.within; line = r.line; id = r.id.now; value = view r.value.now }

abbrev pub name_of : MemberName → List ℕ
name_of (Written name) = name.now
name_of (Made name) = string_bytes name

abbrev pub member_of : MemberOfCode → Member
member_of m = record { role = m.role; line = m.line; name = name_of m.name; value = view m.value.now }

-- whether a type has what is sought
abbrev pub has_sought : List Row → sought.Sought → ℕ → Bool
has_sought types (Named rows name) n = is_some (row_in (map row_of rows.now) name.now n)
has_sought types Order n = is_some (order_in types n)
has_sought types Encoding n = is_some (setting (codes "encoding") types n)
