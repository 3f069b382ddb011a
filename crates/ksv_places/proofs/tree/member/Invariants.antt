use Rattle.ksv_places.proofs.Common.{◌≡◌, ◌<◌, length, chain}
use Rattle.ksv_places.proofs.tree.member.Given as goal

abbrev pub invariant-loop-path : goal.invariant-loop-path
invariant-loop-path l = (l.path < length l.links) × (chain l.links (length l.links) l.path l.name ≡ chain l.links (length l.links) l.first l.name)

abbrev pub decreases-loop-path : goal.decreases-loop-path
decreases-loop-path l = l.path
