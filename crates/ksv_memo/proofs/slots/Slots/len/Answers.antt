use Rattle.ksv_memo.proofs.Zipping.{count-zip}
use Rattle.ksv_memo.proofs.slots.Slots.len.Goals as goal

pub returns-clause-len : goal.returns-clause-len
returns-clause-len g c =
    let t = c.self.inside in
    cc (count-zip (g.P.Places.nodes t.places) t.slots.items c.self.invariant)
