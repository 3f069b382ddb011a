use Rattle.ksv_schema_names.proofs.Common.{arith}
use Rattle.std.specs.Prelude.{◌-◌}
use Rattle.ksv_schema_names.proofs.Placed.{one_placed, all_placed}
use Rattle.ksv_schema_names.proofs.rows.places_of.Goals as goal

pub loop-left-preserved : goal.loop-left-preserved
loop-left-preserved c = (
  omega arith,
  one_placed c.args.rows.now c.loop-left.left (c.loop-left.left - 1) _ _ _ (omega arith) (omega arith) c.index-rows-left.is c.in_ok-put_place.ensures
      c.loop-left.invariant.1,
)

pub returns : goal.returns
returns c = all_placed c.args.rows.now c.loop-left.left _ (omega arith) c.loop-left.invariant.1
