use Rattle.ksv_schema_names.proofs.Common.{◌≡◌, drop, map, find, pair}
use Rattle.ksv_schema_names.specs.Enums.{is_numbered}
use Rattle.ksv_schema_names.proofs.entries.id_in.Given as goal

abbrev pub invariant-loop-entry : goal.invariant-loop-entry
invariant-loop-entry l = find (is_numbered l.number) (map pair (drop l.entry-index l.entries)) ≡ find (is_numbered l.number) (map pair l.entries)
