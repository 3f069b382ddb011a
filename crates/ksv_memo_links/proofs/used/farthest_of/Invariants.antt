use Rattle.ksv_memo_links.proofs.Common.{◌≡◌, take, farthest}
use Rattle.ksv_memo_links.proofs.used.farthest_of.Given as goal

abbrev pub invariant-loop-used : goal.invariant-loop-used
invariant-loop-used l = l.place ≡ farthest (take l.used-index l.uses)
