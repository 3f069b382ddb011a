use Rattle.ksv_places.proofs.Common.{length, ◌∙◌, sym, ap, length-map, Spotted, node_of, spots_of}
use Rattle.ksv_places.proofs.Pairing.{count}
use Rattle.ksv_places.proofs.spots.Spots.len.Goals as goal

pub returns : goal.returns
returns c =
    let t = c.self.inside in
    ap length c.as_slice.ensures.value
    ∙ sym (length-map (spots_of t.paths.items t.kinds.items) (node_of t.tree) ∙ count t.paths.items t.kinds.items c.self.invariant.both)
    ∙ ap (λ (s : Spotted). length s.nodes) c.self.view_is
