use Rattle.ksv_memo_links.proofs.Common.{arith, Parts}
use Rattle.ksv_memo_links.proofs.Hits.{peek-uses, row-from}
use Rattle.ksv_memo_links.proofs.parts.Parts.hit_list.Goals as goal

pub hit_items-requires-clause-begins : goal.hit_items-requires-clause-begins
hit_items-requires-clause-begins c =
    cc

pub returns : goal.returns
returns c =
    let p = c.args.self.now in
    let p1 : Parts = record { asks = p.asks; uses = c.first_item-first.new.self; marks = p.marks } in
    let h = c.first_item-first.ensures in
    let k = peek-uses p p1.uses h.rows h.lists (omega arith) h.grows in
    row-from k
    (rw (← h.lists) c.hit_items.ensures)
