use Rattle.ksv_memo_links.proofs.Turns.{listed-as}
use Rattle.ksv_memo_links.proofs.used.Uses.linked.Goals as goal

pub returns-clause-listed : goal.returns-clause-listed
returns-clause-listed c =
    let i = c.self.inside in
    rw (← c.self.view_is) (listed-as _ c.self.invariant.each c.linked.ensures)
