use Rattle.ksv_memo.proofs.Common.{◌≤◌, take, AllByRecursion}
use Rattle.ksv_memo.specs.Folding.{IsNoneBelow}
use Rattle.ksv_memo.proofs.frames.least_place.Given as goal

abbrev pub invariant-loop-frame : goal.invariant-loop-frame
invariant-loop-frame g l =
    (l.least ≤ l.most) × AllByRecursion (λ frame. IsNoneBelow (g.S.Folds.fold l.nodes) l.least frame.node) (take l.frame-index l.frames)
