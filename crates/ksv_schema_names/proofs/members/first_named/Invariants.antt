use Rattle.ksv_schema_names.proofs.Common.{◌≡◌, map, drop, position_from, bytes_eq, member_of}
use Rattle.ksv_schema_names.proofs.members.first_named.Given as goal

abbrev pub invariant-loop-place : goal.invariant-loop-place
invariant-loop-place l = position_from (λ m. bytes_eq m.name l.name) l.place (map member_of (drop l.place l.members))
    ≡ position_from (λ m. bytes_eq m.name l.name) 0 (map member_of l.members)
