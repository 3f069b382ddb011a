use Rattle.ksv_memo_links.proofs.Common.{◌≤◌, max, page_lists, HitsRows}
use Rattle.ksv_memo_links.proofs.parts.Parts.hit_pages.Given as goal

abbrev pub invariant-loop-page : goal.invariant-loop-page
invariant-loop-page l = record {
  hits : HitsRows l.fn.self l.self l.change (page_lists l.fn.self.uses.lists) l.first l.page;
  bound : l.page ≤ max l.first l.last;
}
