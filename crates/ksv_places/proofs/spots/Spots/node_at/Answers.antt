use Rattle.ksv_places.proofs.Common.{◌≡◌, ◌<◌, List, [], Some, length, get_or, reverse, sym, ◌∙◌, ap, arith, slice_get, option_map, length-map}
use Rattle.ksv_places.proofs.Common.{slice_get-map, slice_get-get_or, Step, Spot, spots_of, Spotted, spot_at, node_of}
use Rattle.ksv_places.proofs.Filing.{path_in}
use Rattle.ksv_places.proofs.Pairing.{count}
use Rattle.ksv_places.proofs.spots.Spots.node_at.Goals as goal

pub spot_at-spot-requires-clause-there : goal.spot_at-spot-requires-clause-there
spot_at-spot-requires-clause-there c =
    let t = c.self.inside in
    let n = length-map (spots_of t.paths.items t.kinds.items) (node_of t.tree) in
    let m = ap (λ (s : Spotted). length s.nodes) c.self.view_is in
    omega (arith, count t.paths.items t.kinds.items c.self.invariant.both, ap length c.as_slice.ensures.value, c.requires)

pub steps_of-requires : goal.steps_of-requires
steps_of-requires c =
    let t = c.self.inside in
    let spots = spots_of t.paths.items t.kinds.items in
    let n = length-map spots (node_of t.tree) in
    let m = ap (λ (s : Spotted). length s.nodes) c.self.view_is in
    let there : c.args.place < length spots = omega (arith, c.requires) in
    let spot : c.spot_at-spot.result ≡ spot_at spots c.args.place =
    c.spot_at-spot.ensures ∙ (λ i. spot_at (spots_of (c.as_slice.ensures.value i) (c.as_slice-2.ensures.value i)) c.args.place) in
    rw spot (omega (arith, path_in t.tree t.rows.items spots c.self.invariant.filed c.args.place there, c.self.invariant.filed.few))

pub returns : goal.returns
returns c =
    let t = c.self.inside in
    let spots = spots_of t.paths.items t.kinds.items in
    let place = c.args.place in
    let n = length-map spots (node_of t.tree) in
    let m = ap (λ (s : Spotted). length s.nodes) c.self.view_is in
    let there : place < length spots = omega (arith, c.requires) in
    let s = c.spot_at-spot.result in
    let spot : s ≡ spot_at spots place = c.spot_at-spot.ensures ∙ (λ i. spot_at (spots_of (c.as_slice.ensures.value i) (c.as_slice-2.ensures.value i)) place) in
    let wrote : reverse c.steps_of.new.steps.items ≡ get_or t.tree s.path [] = c.in_ok-steps_of.ensures in
    ap (λ (s : Spotted). slice_get s.nodes place) (sym c.self.view_is)
    ∙ slice_get-map (node_of t.tree) spots place
    ∙ ap (option_map (node_of t.tree)) (slice_get-get_or spots place _ there)
    ∙ ap (λ (x : Spot). Some (x.kind, get_or t.tree x.path [])) (sym spot)
    ∙ ap (λ (q : List Step). Some (s.kind, q)) (sym wrote)
