use Rattle.ksv_schema_names.proofs.Common.{◌≡◌, ◌++◌, map, drop, pair, member_of}
use Rattle.ksv_schema_names.specs.Members.{instance}
use Rattle.ksv_schema_names.proofs.members.add_instances.Given as goal

abbrev pub invariant-loop-entry : goal.invariant-loop-entry
invariant-loop-entry l = map member_of l.members.items ++ map instance (map pair (drop l.entry-index l.entries)) ≡ map member_of l.fn.members.items
    ++ map instance (map pair l.entries)
