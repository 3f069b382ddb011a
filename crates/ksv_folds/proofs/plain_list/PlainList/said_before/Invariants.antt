use Rattle.std.proofs.Common.{◌-◌, ◌<◌, ◌≤◌, ℕ, suc}
use Rattle.ksv_folds.specs.Sequence.{edge_of, sizer}
use Rattle.ksv_folds.proofs.plain_list.PlainList.said_before.Given as goal

abbrev pub invariant-loop-low : goal.invariant-loop-low
invariant-loop-low l = (l.low ≤ l.high) × (l.high ≤ l.self.most) × ((i : ℕ) → i < l.low → edge_of l.self i (suc (sizer l.self)) ≤ l.at)
    × ((i : ℕ) → l.high ≤ i → i < l.self.most → l.at < edge_of l.self i (suc (sizer l.self)))

abbrev pub decreases-loop-low : goal.decreases-loop-low
decreases-loop-low l = l.high - l.low
