use Rattle.std.proofs.Common.{◌-◌, ◌≤◌}
use Rattle.ksv_folds.proofs.plain_list.PlainList.said_elements.Given as goal
use Rattle.ksv_folds.specs.Layouts.{AreSaidTo}
use Rattle.ksv_folds.specs.Sequence.{start_of}

abbrev pub invariant-loop-whole : goal.invariant-loop-whole
invariant-loop-whole l = (l.whole ≤ l.most) × (start_of l.self l.whole ≤ l.end) × AreSaidTo l.self l.bytes l.kept l.whole

abbrev pub decreases-loop-whole : goal.decreases-loop-whole
decreases-loop-whole l = l.most - l.whole
