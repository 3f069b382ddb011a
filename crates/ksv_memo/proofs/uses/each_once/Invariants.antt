use Rattle.ksv_memo.proofs.Common.{take, HasEachOnce}
use Rattle.ksv_memo.proofs.uses.each_once.Given as goal

abbrev pub invariant-loop-used : goal.invariant-loop-used
invariant-loop-used l = HasEachOnce l.once.items (take l.used-index l.uses)
