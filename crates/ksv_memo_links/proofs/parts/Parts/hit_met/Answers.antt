use Rattle.ksv_memo_links.proofs.Common.{◌≡◌, ◌-◌, ◌/◌, ◌+◌, min, length, subst, arith, page_lists, first_page, end_page, HitsRows}
use Rattle.ksv_memo_links.proofs.Turns.{count-pages}
use Rattle.ksv_memo_links.proofs.parts.Parts.hit_met.Goals as goal

pub returns : goal.returns
returns c =
    let p = c.args.self.now in
    let n = count-pages p.uses.lists in
    let e : min ((c.saturating_add.result - 1) / 64 + 1) (length (page_lists p.uses.lists))
    ≡ min (end_page c.args.at c.args.n) (length (page_lists p.uses.lists)) = omega arith in
    subst (HitsRows p c.hit_pages.new.self c.args.change (page_lists p.uses.lists) (first_page c.args.at)) e c.hit_pages.ensures
