use Rattle.ksv_memo_links.proofs.Common.{row, HitsUsers}
use Rattle.ksv_memo_links.proofs.Cursors.{left_from, seen_to, StandsAt}
use Rattle.ksv_memo_links.proofs.parts.Parts.mark_users.Given as goal

abbrev pub invariant-loop-user : goal.invariant-loop-user
invariant-loop-user l = record {
  users : HitsUsers l.fn.self l.self l.slot (seen_to (row l.fn.self.asks.lists l.slot) l.at) 1;
  at : StandsAt l.fn.self.asks.lists l.slot l.at;
}

abbrev pub decreases-loop-user : goal.decreases-loop-user
decreases-loop-user l = left_from (row l.fn.self.asks.lists l.slot) l.at
