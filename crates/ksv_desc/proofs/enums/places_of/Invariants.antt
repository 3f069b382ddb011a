use Rattle.std.proofs.Common.{◌≤◌, length}
use Rattle.ksv_desc.proofs.Numbered.{AreFirstFrom}
use Rattle.ksv_desc.proofs.enums.places_of.Given as goal

-- the entries from this place on are in the table
abbrev pub invariant-loop-left : goal.invariant-loop-left
invariant-loop-left l = (l.left ≤ length l.entries) × AreFirstFrom l.entries l.left l.places

abbrev pub decreases-loop-left : goal.decreases-loop-left
decreases-loop-left l = l.left
