use Rattle.ksv_schema_names.proofs.Common.{◌≡◌, ◌++◌, map, drop, pair, row_of}
use Rattle.ksv_schema_names.specs.Rows.{named_row}
use Rattle.ksv_schema_names.proofs.rows.add_enums.Given as goal

abbrev pub invariant-loop-name : goal.invariant-loop-name
invariant-loop-name l = map row_of l.rows.items ++ map (named_row l.n) (map pair (drop l.name-index l.names)) ≡ map row_of l.fn.rows.items
    ++ map (named_row l.n) (map pair l.names)
