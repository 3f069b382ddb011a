use Rattle.ksv_schema.proofs.Common.{◌≡◌, drop, map, pair}
use Rattle.ksv_schema.specs.Valid.{has_no_key}
use Rattle.ksv_schema.proofs.values.valid.has_no_key.Given as goal

abbrev pub invariant-loop-entry : goal.invariant-loop-entry
invariant-loop-entry l = has_no_key (map pair (drop l.entry-index l.entries)) ≡ has_no_key (map pair l.entries)
