use Rattle.std.proofs.Common.{◌≤◌, length}
use Rattle.ksv_test_engine.proofs.samples.sum_folds.all_sums.Given as goal

abbrev pub invariant-loop-place : goal.invariant-loop-place
invariant-loop-place l = length l.sums.items ≤ l.place
