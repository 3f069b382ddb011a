use Rattle.std.proofs.Common.{◌≡◌, drop}
use Rattle.ksv_folds.proofs.making.is_rising.Given as goal
use Rattle.ksv_folds.specs.Parts.{is_rising}

abbrev pub invariant-loop-part : goal.invariant-loop-part
invariant-loop-part l = is_rising l.low l.size (drop l.part-index l.parts) ≡ is_rising 0 l.size l.parts
