use Rattle.ksv_schema_names.proofs.Common.{◌≡◌, map, drop, flat_map, view, declared, Other, part_faults, least}
use Rattle.ksv_schema_names.proofs.faults.+faults.Given as goal

-- with the faults of the arguments from this one on, those of all are noted
abbrev pub invariant-note_list-loop-argument : goal.invariant-note_list-loop-argument
invariant-note_list-loop-argument l =
    least l.found (flat_map (part_faults (declared l.scopes) l.within l.position Other) (map view (drop l.argument-index l.arguments)))
    ≡ least l.fn.found (flat_map (part_faults (declared l.scopes) l.within l.position Other) (map view l.arguments))
