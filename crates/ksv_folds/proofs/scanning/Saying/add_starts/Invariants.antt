use Rattle.std.proofs.Common.{◌≡◌, ◌-◌, ◌≤◌, true, length, take}
use Rattle.ksv_expr_value.specs.Places.{end_limit}
use Rattle.ksv_folds.specs.Parts.{are_apart, nth}
use Rattle.ksv_folds.proofs.scanning.Saying.add_starts.Given as goal

abbrev pub invariant-loop-self : goal.invariant-loop-self
invariant-loop-self l = (take (length l.initial.starts.items) l.starts.items ≡ l.initial.starts.items) × (length l.initial.starts.items ≤ length l.starts.items)
    × (length l.starts.items ≤ l.limit) × (are_apart l.self.size 0 l.starts.items ≡ true) × (nth l.starts.items (length l.starts.items - 1) ≤ end_limit)

abbrev pub decreases-loop-self : goal.decreases-loop-self
decreases-loop-self l = l.limit - length l.starts.items
