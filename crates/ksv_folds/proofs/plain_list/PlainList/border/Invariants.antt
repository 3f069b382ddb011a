use Rattle.std.proofs.Common.{◌-◌, ◌<◌, ◌≤◌, ℕ}
use Rattle.ksv_folds.specs.Sequence.{spot_at, reach_of}
use Rattle.ksv_folds.proofs.plain_list.PlainList.border.Given as goal

abbrev pub invariant-loop-low : goal.invariant-loop-low
invariant-loop-low l = (l.low ≤ l.high) × (l.high ≤ l.kept) × ((j : ℕ) → j < l.low → reach_of l.self (spot_at l.self j) ≤ l.at)
    × ((j : ℕ) → l.high ≤ j → j < l.kept → l.at < reach_of l.self (spot_at l.self j))

abbrev pub decreases-loop-low : goal.decreases-loop-low
decreases-loop-low l = l.high - l.low
