use Rattle.ksv_memo_links.proofs.Items.{all-listed}
use Rattle.ksv_memo_links.proofs.chains.Chains.linked.Goals as goal

pub returns : goal.returns
returns c = rw (← c.self.view_is) (all-listed c.self.invariant)
