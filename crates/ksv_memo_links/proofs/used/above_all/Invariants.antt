use Rattle.ksv_memo_links.proofs.Common.{ℕ, ◌<◌, get_or}
use Rattle.ksv_memo_links.proofs.used.above_all.Given as goal

abbrev pub invariant-loop-list : goal.invariant-loop-list
invariant-loop-list l = (k : ℕ) → k < l.list-index → get_or l.lists k 0 < l.above
