use Rattle.ksv_memo_links.proofs.Common.{◌≡◌, ◌-◌, ◌/◌, ◌≤◌, ◌++◌, map, numbers_from, list_of_page}
use Rattle.ksv_memo_links.proofs.used.add_pages.Given as goal

abbrev pub invariant-loop-page : goal.invariant-loop-page
invariant-loop-page l = record {
  lists : l.lists.items ≡ l.fn.lists.items ++ map list_of_page (numbers_from (l.from / 64) (l.page - l.from / 64));
  from : l.from / 64 ≤ l.page;
  until : l.page ≤ l.end;
}
