use Rattle.std.proofs.Common.{arith}
use Rattle.ksv_desc.proofs.Numbered.{one_before}
use Rattle.ksv_desc.proofs.enums.places_of.Goals as goal

pub loop-left-preserved : goal.loop-left-preserved
loop-left-preserved c = (
  omega arith,
  one_before c.args.entries.now c.loop-left.left _ c.index-entries-left.result _ _ (omega arith) (omega arith) c.index-entries-left.is
      c.in_ok-put_place.ensures c.loop-left.invariant.1,
)
