use Rattle.ksv_schema.proofs.Common.{◌≡◌, drop, map, flat_map, pair, noted, seen_fault}
use Rattle.ksv_schema.specs.Rules.{key_faults}
use Rattle.ksv_schema.proofs.values.key.note_keys.Given as goal

abbrev pub invariant-loop-entry : goal.invariant-loop-entry
invariant-loop-entry l = noted (seen_fault l.least) (flat_map (key_faults l.kind) (map pair (drop l.entry-index l.entries)))
    ≡ noted (seen_fault l.fn.least) (flat_map (key_faults l.kind) (map pair l.entries))
