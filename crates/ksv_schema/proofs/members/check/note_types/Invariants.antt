use Rattle.ksv_schema.proofs.Common.{◌≡◌, drop, map, row_of, noted, all_types_faults, seen_fault}
use Rattle.ksv_schema.proofs.members.check.note_types.Given as goal

abbrev pub invariant-loop-number : goal.invariant-loop-number
invariant-loop-number l = noted (seen_fault l.least) (all_types_faults l.number (map row_of (drop l.number l.types)))
    ≡ noted (seen_fault l.fn.least) (all_types_faults 0 (map row_of l.types))
