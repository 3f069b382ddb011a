use Rattle.ksv_places.proofs.Common.{[], get_or, arith, refl, number_at, shelf_at, paths_of}
use Rattle.ksv_places.proofs.Walking.{one_path, length-paths}
use Rattle.ksv_places.proofs.tree.Tree.apart.Goals as goal

pub returns : goal.returns
returns c =
    let t = c.self.inside in
    rw (← c.self.view_is)
    (λ i j a b e. one_path t.links.items (number_at t.firsts) (shelf_at t.members) (shelf_at t.elements) c.self.invariant (get_or (paths_of t.links.items) j [])
    i j (omega (arith, length-paths t.links.items)) (omega (arith, length-paths t.links.items)) e refl)
