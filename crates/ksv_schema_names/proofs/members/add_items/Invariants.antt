use Rattle.ksv_schema_names.proofs.Common.{◌≡◌, ◌++◌, map, drop, member_of}
use Rattle.ksv_yaml_tree.specs.View.{view}
use Rattle.ksv_schema_names.specs.Members.{items_from}
use Rattle.ksv_schema_names.proofs.members.add_items.Given as goal

abbrev pub invariant-loop-number : goal.invariant-loop-number
invariant-loop-number l = map member_of l.members.items ++ items_from l.role l.number (map view (drop l.number l.items)) ≡ map member_of l.fn.members.items
    ++ items_from l.role 0 (map view l.items)
