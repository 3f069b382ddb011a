use Rattle.std.proofs.Common.{◌≡◌, drop}
use Rattle.ksv_test_engine.specs.Rows as spec
use Rattle.ksv_test_engine.proofs.samples.rows.total.Given as goal

abbrev pub invariant-loop-place : goal.invariant-loop-place
invariant-loop-place l = spec.total 0 l.replies ≡ spec.total l.so_far (drop l.place l.replies)
