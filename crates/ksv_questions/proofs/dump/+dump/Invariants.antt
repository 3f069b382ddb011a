use Rattle.ksv_questions.proofs.Common.{◌+◌, ◌-◌, ◌*◌, [], drop, map, no_members, view, bytes_of, desc_of, elements_part, members_part, part}
use Rattle.serde_json.specs.View.{members_view}
use Rattle.ksv_questions.proofs.Steps.{Pending}
use Rattle.ksv_questions.proofs.dump.+dump.Given as goal

-- each function calls those with a lower number; the part of a path goes one level down
abbrev pub decreases-inner_part : goal.decreases-inner_part
decreases-inner_part g l = 8 * l.depth + 3

abbrev pub decreases-dump_part : goal.decreases-dump_part
decreases-dump_part g l = 8 * l.depth + 2

abbrev pub decreases-members_part : goal.decreases-members_part
decreases-members_part g l = 8 * l.depth + 4

abbrev pub decreases-elements_part : goal.decreases-elements_part
decreases-elements_part g l = 8 * l.depth + 4

abbrev pub decreases-object_part : goal.decreases-object_part
decreases-object_part g l = 8 * l.depth + 5

abbrev pub decreases-list_part : goal.decreases-list_part
decreases-list_part g l = 8 * l.depth + 5

abbrev pub decreases-value_part : goal.decreases-value_part
decreases-value_part g l = 8 * l.depth + 6

abbrev pub decreases-asked_part : goal.decreases-asked_part
decreases-asked_part g l = 8 * l.depth + 7

abbrev pub invariant-members_part-loop-name : goal.invariant-members_part-loop-name
invariant-members_part-loop-name g l =
    let d = desc_of l.file in
    let each = part d (bytes_of l.file) l.depth in
    Pending d (bytes_of l.file) (members_part d each l.object l.initial.left l.names no_members) l.initial.engine
    (members_part d each l.object l.left (drop l.name-index l.names) (members_view l.members.entries)) l.engine

abbrev pub invariant-elements_part-loop-index : goal.invariant-elements_part-loop-index
invariant-elements_part-loop-index g l =
    let d = desc_of l.file in
    let each = part d (bytes_of l.file) l.depth in
    Pending d (bytes_of l.file) (elements_part d each l.list l.initial.left 0 l.count []) l.initial.engine
    (elements_part d each l.list l.left l.index (l.count - l.index) (map view l.elements.items)) l.engine
