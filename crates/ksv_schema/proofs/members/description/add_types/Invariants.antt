use Rattle.ksv_schema.proofs.Common.{◌≡◌, drop, map, plain_kind, declared, row_of}
use Rattle.std.specs.Vec.Iter.{into_iter_items}
use Rattle.ksv_desc.specs.Pieces.{plain_type}
use Rattle.ksv_schema.specs.Code.{onto}
use Rattle.ksv_schema.specs.Description.{types_of}
use Rattle.ksv_schema.proofs.members.description.add_types.Given as goal

abbrev pub invariant-loop-within : goal.invariant-loop-within
invariant-loop-within l =
    onto (map plain_type l.made.items)
    (types_of (declared l.scopes) l.names l.within (map row_of (drop l.within l.types)) (map (λ w. map plain_kind w.items) (into_iter_items l.kinds)))
    ≡ onto (map plain_type l.fn.made.items)
    (types_of (declared l.scopes) l.names 0 (map row_of l.types) (map (λ w. map plain_kind w.items) (into_iter_items l.fn.kinds)))
