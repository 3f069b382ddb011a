use Rattle.ksv_memo_links.proofs.Common.{◌≡◌, map, take, pages_in, list_of_page}
use Rattle.ksv_memo_links.proofs.used.all_pages.Given as goal

abbrev pub invariant-loop-used : goal.invariant-loop-used
invariant-loop-used l = l.lists.items ≡ map list_of_page (pages_in (take l.used-index l.uses))
