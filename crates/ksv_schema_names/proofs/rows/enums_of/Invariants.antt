use Rattle.ksv_schema_names.proofs.Common.{◌≡◌, ◌++◌, map, drop, row_of}
use Rattle.ksv_schema_names.specs.Rows.{enums_from}
use Rattle.ksv_schema_names.proofs.rows.enums_of.Given as goal

abbrev pub invariant-loop-n : goal.invariant-loop-n
invariant-loop-n l = map row_of l.rows.items ++ enums_from l.n (map row_of (drop l.n l.types)) ≡ enums_from 0 (map row_of l.types)
