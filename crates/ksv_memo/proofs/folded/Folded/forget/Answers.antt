use Rattle.ksv_memo.proofs.Common.{arith, common_steps}
use Rattle.ksv_memo.proofs.folded.Folded.forget.Goals as goal

pub forget-requires-clause-within : goal.forget-requires-clause-within
forget-requires-clause-within g c = grind (arith, common_steps)
