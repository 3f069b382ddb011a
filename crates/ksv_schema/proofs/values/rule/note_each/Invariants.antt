use Rattle.ksv_schema.proofs.Common.{◌≡◌, drop, map, flat_map, pair, ruled_faults, noted, seen_fault}
use Rattle.ksv_schema.specs.KeyCode.{seen_type_at}
use Rattle.ksv_schema.specs.Code.{seen_ruled}
use Rattle.ksv_schema.proofs.values.rule.note_each.Given as goal

abbrev pub invariant-loop-ruled : goal.invariant-loop-ruled
invariant-loop-ruled l = noted (seen_fault l.least)
    (flat_map (ruled_faults l.kind l.line (seen_type_at l.typed) (map pair l.entries)) (map seen_ruled (drop l.ruled-index l.rules)))
    ≡ noted (seen_fault l.fn.least) (flat_map (ruled_faults l.kind l.line (seen_type_at l.typed) (map pair l.entries)) (map seen_ruled l.rules))
