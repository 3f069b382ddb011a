use Rattle.ksv_folds.proofs.Scanned.{apart_first, nth_first}
use Rattle.std.proofs.Common.{arith}
use Rattle.ksv_folds.proofs.scanning.Saying.cut.Goals as goal

pub set_last-requires-clause-apart : goal.set_last-requires-clause-apart
set_last-requires-clause-apart c = grind (arith, apart_first, nth_first)

pub set_last-requires-clause-from : goal.set_last-requires-clause-from
set_last-requires-clause-from c = grind (arith, apart_first, nth_first)

pub set_last-requires-clause-room : goal.set_last-requires-clause-room
set_last-requires-clause-room c = grind (arith, apart_first, nth_first)

pub returns-clause-same : goal.returns-clause-same
returns-clause-same c = grind (arith, apart_first, nth_first)
