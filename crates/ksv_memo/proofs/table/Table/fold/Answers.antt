use Rattle.ksv_memo.proofs.Common.{arith, common_steps}
use Rattle.ksv_memo.proofs.table.Table.fold.Goals as goal

pub returns-in-Some : goal.returns-in-Some
returns-in-Some g c = grind (arith, common_steps)
