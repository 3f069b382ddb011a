use Rattle.std.proofs.Common.{◌≡◌, map}
use Rattle.ksv_desc.specs.Pieces.{plain_member}
use Rattle.ksv_folds.proofs.layout.are_parts.Given as goal
use Rattle.ksv_folds.specs.Layouts.{AreParts, name_before}
use Rattle.ksv_folds.specs.Parts.{edge}

abbrev pub invariant-loop-part : goal.invariant-loop-part
invariant-loop-part l = (l.place ≡ l.part-index) × (l.before ≡ name_before l.names l.place) × (l.low ≡ edge l.parts l.place)
    × AreParts (map plain_member l.members) l.names l.parts l.place
