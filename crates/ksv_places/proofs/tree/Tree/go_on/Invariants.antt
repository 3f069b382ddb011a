use Rattle.ksv_places.proofs.Common.{◌≡◌, ◌<◌, [], length, get_or, take, reverse, number_at, shelf_at, paths_of, IsTree, IsMore}
use Rattle.ksv_places.proofs.tree.Tree.go_on.Given as goal

abbrev pub invariant-loop-count : goal.invariant-loop-count
invariant-loop-count l =
    (IsTree l.self-inside.links.items (number_at l.self-inside.firsts) (shelf_at l.self-inside.members) (shelf_at l.self-inside.elements)
    × (l.path < length l.self-inside.links.items)) × IsMore l.fn.self (paths_of l.self-inside.links.items)
    × (get_or (paths_of l.self-inside.links.items) l.path [] ≡ reverse (take l.count l.steps))
