use Rattle.ksv_memo_links.proofs.Common.{length, ◌∙◌, ap, arith, row}
use Rattle.ksv_memo_links.proofs.Hits.{rows-none, rows-more, row-as}
use Rattle.ksv_memo_links.proofs.Turns.{row-of-page, count-ends, count-pages}
use Rattle.ksv_memo_links.proofs.parts.Parts.hit_pages.Goals as goal

pub loop-page-init : goal.loop-page-init
loop-page-init c = record { hits = rows-none _ _ _ _; bound = omega arith }

pub hit_list-requires-clause-list_in : goal.hit_list-requires-clause-list_in
hit_list-requires-clause-list_in c =
    omega (arith, ap length c.loop-page.invariant.hits.more.same.use_lists, count-ends c.args.self.now.uses.lists, count-pages c.args.self.now.uses.lists)

pub loop-page-preserved : goal.loop-page-preserved
loop-page-preserved c =
    let p = c.args.self.now in
    let q = c.loop-page.self in
    let r = c.hit_list.new.self in
    let same = ap (λ lists. row lists c.page_list.result) c.loop-page.invariant.hits.more.same.use_lists in
    let there = ap (row p.uses.lists) c.page_list.ensures.number ∙ row-of-page p.uses.lists c.loop-page.page in
    record {
      hits = rows-more (omega arith) c.loop-page.invariant.hits
          (row-as (same ∙ there) c.hit_list.ensures);
      bound = omega arith;
    }
