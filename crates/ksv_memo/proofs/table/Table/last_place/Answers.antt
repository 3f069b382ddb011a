use Rattle.ksv_memo.proofs.Common.{arith, common_steps}
use Rattle.ksv_memo.proofs.table.Table.last_place.Goals as goal

pub returns-in-Some-clause-some : goal.returns-in-Some-clause-some
returns-in-Some-clause-some g c = grind (arith, common_steps)

pub returns-in-Some-clause-none : goal.returns-in-Some-clause-none
returns-in-Some-clause-none g c = grind (arith, common_steps)
