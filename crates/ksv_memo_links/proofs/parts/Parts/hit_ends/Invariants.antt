use Rattle.ksv_memo_links.proofs.Common.{◌≤◌, max, end_lists, HitsRows}
use Rattle.ksv_memo_links.proofs.parts.Parts.hit_ends.Given as goal

abbrev pub invariant-loop-list : goal.invariant-loop-list
invariant-loop-list l = record {
  hits : HitsRows l.fn.self l.self l.change (end_lists l.fn.self.uses.lists) l.first l.list;
  bound : l.list ≤ max l.first l.last;
}
