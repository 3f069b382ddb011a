use Rattle.ksv_schema_names.proofs.Common.{◌≡◌, ◌++◌, map, drop, members_of, member_of, row_of}
use Rattle.ksv_schema_names.proofs.members.members_of_each.Given as goal

abbrev pub invariant-loop-row : goal.invariant-loop-row
invariant-loop-row l = map (λ v. map member_of v.items) l.members.items ++ map members_of (map row_of (drop l.row-index l.types))
    ≡ map members_of (map row_of l.types)
