use Rattle.ksv_schema_names.proofs.Common.{◌≡◌, drop, map, find, pair}
use Rattle.ksv_schema_names.specs.Enums.{is_named}
use Rattle.ksv_schema_names.proofs.entries.number_in.Given as goal

abbrev pub invariant-loop-entry : goal.invariant-loop-entry
invariant-loop-entry l = find (is_named l.id) (map pair (drop l.entry-index l.entries)) ≡ find (is_named l.id) (map pair l.entries)
