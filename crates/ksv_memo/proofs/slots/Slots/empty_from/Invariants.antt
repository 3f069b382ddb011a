use Rattle.ksv_memo.proofs.Common.{◌≡◌, ◌≤◌}
use Rattle.ksv_memo.proofs.slots.Slots.empty_from.Given as goal

abbrev pub invariant-loop-place : goal.invariant-loop-place
invariant-loop-place g l =
    record { entries : l.self.entries ≡ l.fn.self.entries; places : l.self.places ≡ l.fn.self.places; looks : l.fn.self.looks ≤ l.self.looks }
