use Rattle.ksv_schema_names.proofs.Common.{◌≤◌, length}
use Rattle.ksv_schema_names.proofs.Placed.{ArePlacedFrom}
use Rattle.ksv_schema_names.proofs.rows.places_of.Given as goal

-- the rows from this place on are in the table
abbrev pub invariant-loop-left : goal.invariant-loop-left
invariant-loop-left l = (l.left ≤ length l.rows) × ArePlacedFrom l.rows l.left l.places

abbrev pub decreases-loop-left : goal.decreases-loop-left
decreases-loop-left l = l.left
