use Rattle.ksv_places.proofs.Common.{◌≡◌, take}
use Rattle.ksv_places.proofs.spots.Spots.rebuilt.Given as goal

abbrev pub invariant-loop-place : goal.invariant-loop-place
invariant-loop-place l = l.fresh.nodes ≡ take l.place l.self.nodes
