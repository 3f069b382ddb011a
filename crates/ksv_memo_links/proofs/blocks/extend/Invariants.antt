use Rattle.ksv_memo_links.proofs.Common.{◌≡◌, ℕ, ◌-◌, ◌≤◌, length, entry_at}
use Rattle.std.proofs.Common.{vec_capacity}
use Rattle.ksv_memo_links.proofs.blocks.extend.Given as goal

abbrev pub invariant-loop-entries : goal.invariant-loop-entries
invariant-loop-entries l = record {
  after : length l.fn.entries.items ≤ length l.entries.items;
  room : l.end ≤ vec_capacity l.entries;
  within : length l.entries.items ≤ l.end;
  each : (p : ℕ) → entry_at l.entries.items p ≡ entry_at l.fn.entries.items p;
}

abbrev pub decreases-loop-entries : goal.decreases-loop-entries
decreases-loop-entries l = l.end - length l.entries.items
