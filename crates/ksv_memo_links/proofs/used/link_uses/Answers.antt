use Rattle.ksv_memo_links.proofs.Common.{arith, common_steps}
use Rattle.ksv_memo_links.proofs.used.link_uses.Goals as goal

pub returns-in-empty-clause-ok : goal.returns-in-empty-clause-ok
returns-in-empty-clause-ok c = grind (arith, common_steps)

pub returns-in-Some-clause-ok : goal.returns-in-Some-clause-ok
returns-in-Some-clause-ok c = grind (arith, common_steps)
