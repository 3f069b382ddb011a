use Rattle.ksv_memo_links.proofs.Common.{arith, Parts, row, item_at}
use Rattle.ksv_memo_links.proofs.Hits.{peek-uses, row-none, row-more, row-end, listed-in}
use Rattle.ksv_memo_links.proofs.Cursors.{seen_to, starts, steps, ended}
use Rattle.ksv_memo_links.proofs.parts.Parts.hit_items.Goals as goal

pub loop-item-init : goal.loop-item-init
loop-item-init c =
    let p = c.args.self.now in
    let items = row p.uses.lists c.args.list in
    let start = starts c.args.list c.linked.ensures.listed c.requires.begins in
    record {
      hits = rw start.1 (row-none _ _ _);
      at = start.0;
    }

pub hit-requires-clause-slot_in : goal.hit-requires-clause-slot_in
hit-requires-clause-slot_in c =
    let p = c.args.self.now in
    let i = c.loop-item.invariant in
    let n = seen_to (row p.uses.lists c.args.list) c.loop-item.at in
    let step = steps c.args.list c.linked.ensures.listed c.loop-item.at c.in-Some.item
    i.hits.more.same.use_lists i.at c.in-Some.ensures.some in
    let some = listed-in p.uses.rows p.uses.lists c.args.list n c.linked.ensures.listed step.inside in
    omega (arith, c.requires.shaped.used_in (item_at p.uses.lists c.args.list n).owner some)

pub loop-item-preserved : goal.loop-item-preserved
loop-item-preserved c =
    let p = c.args.self.now in
    let q = c.loop-item.self in
    let q1 : Parts = record { asks = q.asks; uses = c.item.new.self; marks = q.marks } in
    let i = c.loop-item.invariant in
    let h = c.item.ensures in
    let items = row p.uses.lists c.args.list in
    let step = steps _ c.linked.ensures.listed _ _
    i.hits.more.same.use_lists i.at c.in-Some.ensures.some in
    let k = peek-uses q q1.uses h.rows h.lists (omega (arith, c.in-Some.ensures.looks)) h.grows in
    record {
      hits = rw step.seen (row-more i.hits k step.inside step.owner
          c.hit.ensures);
      at = step.stands;
    }

pub loop-item-smaller : goal.loop-item-smaller
loop-item-smaller c =
    let p = c.args.self.now in
    let i = c.loop-item.invariant in
    (steps _ c.linked.ensures.listed _ _
    i.hits.more.same.use_lists i.at c.in-Some.ensures.some).less

pub returns : goal.returns
returns c =
    let p = c.args.self.now in
    let q = c.loop-item.self in
    let q1 : Parts = record { asks = q.asks; uses = c.item.new.self; marks = q.marks } in
    let i = c.loop-item.invariant in
    let h = c.item.ensures in
    let items = row p.uses.lists c.args.list in
    let idle = c.in_default.ensures.idle in
    let end = ended c.args.list c.linked.ensures.listed c.loop-item.at i.hits.more.same.use_lists i.at
    c.in_default.ensures.none in
    row-end i.hits (peek-uses _ _ h.rows h.lists (omega arith) h.grows) (omega arith) end
