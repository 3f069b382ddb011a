use Rattle.ksv_places.proofs.Common.{◌≡◌, ℕ, ◌+◌, ◌-◌, ◌≤◌, length, row_at}
use Rattle.std.specs.Prelude.{max}
use Rattle.ksv_places.proofs.spots.widen.Given as goal

abbrev pub invariant-loop-rows : goal.invariant-loop-rows
invariant-loop-rows l = record {
  same : (other : ℕ) → row_at l.rows.items other ≡ row_at l.initial.rows.items other;
  few : length l.rows.items ≤ max (length l.initial.rows.items) (l.path + 1);
}

abbrev pub decreases-loop-rows : goal.decreases-loop-rows
decreases-loop-rows l = l.path + 1 - length l.rows.items
