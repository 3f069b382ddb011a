use Rattle.ksv_memo_links.proofs.Common.{arith, common_steps}
use Rattle.ksv_memo_links.proofs.cells.Cells.reach.Goals as goal

pub returns-in_ok-resize-clause-ok : goal.returns-in_ok-resize-clause-ok
returns-in_ok-resize-clause-ok g c = grind (arith, common_steps)
