use Rattle.ksv_schema_names.proofs.Common.{◌≡◌, map, row_in, row_of}
use Rattle.std.proofs.Common.{rules}
use Rattle.ksv_schema_names.proofs.Placed.{row_inside}
use Rattle.ksv_schema_names.proofs.rows.row_in.Goals as goal

pub returns-clause-inside : goal.returns-clause-inside
returns-clause-inside c =
    let value : c.copied.result ≡ row_in (map row_of c.args.rows.now) c.args.name.now c.args.n = search rules in
    row_inside _ _ _ _ value
