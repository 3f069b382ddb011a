use Rattle.ksv_places.proofs.Common.{spots_of}
use Rattle.ksv_places.proofs.Filing.{one_place}
use Rattle.ksv_places.proofs.spots.Spots.apart.Goals as goal

pub returns : goal.returns
returns c =
    let t = c.self.inside in
    rw (← c.self.view_is)
    (one_place t.tree t.rows.items (spots_of t.paths.items t.kinds.items) c.self.invariant.filed c.apart.ensures)
