use Rattle.std.proofs.Common.{◌≡◌, ◌++◌, map, drop}
use Rattle.std.specs.Prelude.{filter}
use Rattle.ksv_desc.specs.Sequence.{is_attribute}
use Rattle.ksv_desc.proofs.type_desc.fields_of.Given as goal

abbrev pub invariant-loop-member : goal.invariant-loop-member
invariant-loop-member l = l.fields.items ++ map (λ m. m.name) (filter is_attribute (drop l.member-index l.members))
    ≡ map (λ m. m.name) (filter is_attribute l.members)
