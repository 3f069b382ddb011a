use Rattle.std.proofs.Common.{◌≡◌, ◌%◌, arith}
use Rattle.ksv_test_engine.specs.Rows.{same_row, row_number}
use Rattle.ksv_test_engine.proofs.samples.rows.row_number.Goals as goal

pub returns : goal.returns
returns c = same_row _ (row_number c.args.byte) (let same : c.args.byte ≡ c.args.byte % 256 = omega arith in same)
