use Rattle.std.proofs.Common.{◌≡◌, length}
use Rattle.ksv_folds.proofs.making.have_own_names.Given as goal
use Rattle.ksv_folds.specs.Parts.{have_own_names}

abbrev pub invariant-loop-left : goal.invariant-loop-left
invariant-loop-left l = have_own_names l.left ≡ have_own_names l.parts

abbrev pub decreases-loop-left : goal.decreases-loop-left
decreases-loop-left l = length l.left
