-- A table of no names has no number.
use Rattle.ksv_desc.proofs.Table.{none_yet}
use Rattle.ksv_desc.proofs.names.Names.new.Goals as goal

pub invariant_of-result : goal.invariant_of-result
invariant_of-result c = none_yet _ _ c.new.ensures.items c.new-2.ensures.empty
