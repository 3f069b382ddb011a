use Rattle.ksv_schema.proofs.Common.{◌≡◌, drop, map, plain_kind, context_of}
use Rattle.std.specs.Vec.Iter.{into_iter_items}
use Rattle.ksv_desc.specs.Pieces.{plain_member}
use Rattle.ksv_schema_names.specs.View.{member_of as row}
use Rattle.ksv_schema.specs.Code.{onto}
use Rattle.ksv_schema.specs.Description.{each_of, member_of}
use Rattle.ksv_schema.proofs.members.description.add_kinds.Given as goal

abbrev pub invariant-loop-member : goal.invariant-loop-member
invariant-loop-member l =
    onto (map plain_member l.made.items)
    (each_of (member_of (context_of l.context)) (map row (drop l.member-index l.members)) (map plain_kind (into_iter_items l.kinds)))
    ≡ onto (map plain_member l.fn.made.items) (each_of (member_of (context_of l.context)) (map row l.members) (map plain_kind (into_iter_items l.fn.kinds)))
