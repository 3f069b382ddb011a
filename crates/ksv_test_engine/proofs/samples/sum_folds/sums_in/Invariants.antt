use Rattle.std.proofs.Common.{◌-◌, ◌≤◌}
use Rattle.ksv_test_engine.specs.Sums.{AreSums}
use Rattle.ksv_test_engine.proofs.samples.sum_folds.sums_in.Given as goal

abbrev pub invariant-loop-count : goal.invariant-loop-count
invariant-loop-count l = (l.count ≤ l.all) × (AreSums l.bytes l.sums l.kept → AreSums l.bytes l.sums l.count)

abbrev pub decreases-loop-count : goal.decreases-loop-count
decreases-loop-count l = l.all - l.count
