use Rattle.ksv_memo_links.proofs.Common.{row, HitsRow}
use Rattle.ksv_memo_links.proofs.Cursors.{left_from, seen_to, StandsAt}
use Rattle.ksv_memo_links.proofs.parts.Parts.hit_items.Given as goal

abbrev pub invariant-loop-item : goal.invariant-loop-item
invariant-loop-item l = record {
  hits : HitsRow l.fn.self l.self l.change (row l.fn.self.uses.lists l.list) (seen_to (row l.fn.self.uses.lists l.list) l.at) 0;
  at : StandsAt l.fn.self.uses.lists l.list l.at;
}

abbrev pub decreases-loop-item : goal.decreases-loop-item
decreases-loop-item l = left_from (row l.fn.self.uses.lists l.list) l.at
