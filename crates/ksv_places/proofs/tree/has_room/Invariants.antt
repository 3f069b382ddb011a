use Rattle.ksv_places.proofs.Common.{◌≡◌, ◌+◌, ◌<◌, length}
use Rattle.ksv_places.specs.Tree.{chain_length}
use Rattle.ksv_places.proofs.tree.has_room.Given as goal

abbrev pub invariant-loop-path : goal.invariant-loop-path
invariant-loop-path l = (l.path < length l.links) × (l.count < 8)
    × (l.count + chain_length l.links (length l.links) l.path ≡ chain_length l.links (length l.links) l.first)

abbrev pub decreases-loop-path : goal.decreases-loop-path
decreases-loop-path l = l.path
