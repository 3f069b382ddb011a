use Rattle.ksv_schema_names.proofs.Common.{◌≡◌, ◌++◌, map, drop, pair, members_of, member_of, row_of}
use Rattle.std.specs.Prelude.{flat_map}
use Rattle.ksv_schema_names.specs.Members.{members_at_key}
use Rattle.ksv_schema_names.proofs.members.members_of.Given as goal

abbrev pub invariant-loop-entry : goal.invariant-loop-entry
invariant-loop-entry l = map member_of l.members.items ++ flat_map members_at_key (map pair (drop l.entry-index l.entry-items)) ≡ members_of (row_of l.row)
