use Rattle.ksv_places.proofs.Common.{◌≡◌, ◌<◌, ◌++◌, [], length, get_or, paths_of}
use Rattle.ksv_places.proofs.tree.Tree.steps_of.Given as goal

abbrev pub invariant-loop-above : goal.invariant-loop-above
invariant-loop-above l = (l.above < length l.self-inside.links.items)
    × (l.steps.items ++ get_or (paths_of l.self-inside.links.items) l.above [] ≡ get_or (paths_of l.self-inside.links.items) l.path [])

abbrev pub decreases-loop-above : goal.decreases-loop-above
decreases-loop-above l = l.above
