use Rattle.ksv_memo.proofs.Zipping.{slots-zip}
use Rattle.ksv_memo.proofs.slots.Slots.lend.Goals as goal

pub returns : goal.returns
returns g c = cc (slots-zip (g.P.Places.nodes c.self.inside.places) _ c.self.invariant)
