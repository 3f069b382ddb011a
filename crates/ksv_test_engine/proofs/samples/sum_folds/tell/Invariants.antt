use Rattle.std.proofs.Common.{◌≡◌, ◌<◌, ℕ, length, get_or, Ok}
use Rattle.ksv_test_engine.proofs.samples.sum_folds.tell.Given as goal

abbrev pub invariant-loop-place : goal.invariant-loop-place
invariant-loop-place l = (length l.sums.items ≡ length l.initial.sums.items)
    × ((j : ℕ) → j < l.kept → get_or l.sums.items j (Ok 0) ≡ get_or l.initial.sums.items j (Ok 0))
