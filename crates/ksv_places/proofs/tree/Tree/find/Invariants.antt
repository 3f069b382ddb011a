use Rattle.ksv_places.proofs.Common.{◌≡◌, ◌<◌, ◌≤◌, [], length, get_or, take, reverse, paths_of}
use Rattle.ksv_places.proofs.tree.Tree.find.Given as goal

abbrev pub invariant-loop-count : goal.invariant-loop-count
invariant-loop-count l = (l.path < length l.self-inside.links.items) × (get_or (paths_of l.self-inside.links.items) l.path [] ≡ reverse (take l.count l.steps))
    × (l.count ≤ l.path) × (l.path < 4294967296)
