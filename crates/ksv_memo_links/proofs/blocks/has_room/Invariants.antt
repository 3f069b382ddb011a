use Rattle.ksv_memo_links.proofs.Common.{◌≡◌, ℕ, ◌+◌, ◌<◌, entry_at}
use Rattle.ksv_memo_links.proofs.blocks.has_room.Given as goal

abbrev pub invariant-loop-k : goal.invariant-loop-k
invariant-loop-k l = (i : ℕ) → i < l.k → (entry_at l.entries (l.begin + i)).owner ≡ l.owner
