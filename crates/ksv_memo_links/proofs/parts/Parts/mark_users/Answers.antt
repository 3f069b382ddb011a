use Rattle.ksv_memo_links.proofs.Common.{refl, arith, Parts, row}
use Rattle.ksv_memo_links.proofs.More.{MarksOne}
use Rattle.ksv_memo_links.proofs.Hits.{peek-asks}
use Rattle.ksv_memo_links.proofs.Spreading.{users-first, users-more, users-end, user-there}
use Rattle.ksv_memo_links.proofs.Cursors.{seen_to, starts, steps, ended}
use Rattle.ksv_memo_links.proofs.parts.Parts.mark_users.Goals as goal

pub loop-user-init : goal.loop-user-init
loop-user-init c =
    let p = c.args.self.now in
    let p1 : Parts = record { asks = c.first_item-at.new.self; uses = p.uses; marks = p.marks } in
    let h = c.first_item-at.ensures in
    let start = starts c.args.slot c.linked.ensures h.result in
    record {
      users = rw start.1 (users-first p p1 c.args.slot (peek-asks _ _ h.named h.lists (omega arith) h.grows));
      at = start.0;
    }

pub loop-user-preserved : goal.loop-user-preserved
loop-user-preserved c =
    let p = c.args.self.now in
    let q = c.loop-user.self in
    let q1 : Parts = record { asks = c.item.new.self; uses = q.uses; marks = q.marks } in
    let r : Parts = record { asks = c.item.new.self; uses = q.uses; marks = c.mark.new.self } in
    let i = c.loop-user.invariant in
    let h = c.item.ensures in
    let step = steps _ c.linked.ensures _ _ i.users.more.same.ask_lists i.at
    c.in-Some.ensures.some in
    let one : MarksOne q1 r c.in-Some.user.owner = record {
      same = record { asks = refl; ask_lists = refl; uses = refl; use_lists = refl };
      kept = c.mark.ensures.kept;
      work = c.mark.ensures.work;
      least = c.mark.ensures.least;
      rises = omega arith;
    } in
    let k = peek-asks q q1.asks h.named h.lists (omega (arith, c.in-Some.ensures.looks)) h.grows in
    record {
      users = rw step.seen (users-more p q q1 r c.args.slot (seen_to (row p.asks.lists c.args.slot) c.loop-user.at) c.in-Some.user.owner i.users k
          c.linked.ensures step.inside
          step.owner one (omega arith));
      at = step.stands;
    }

pub mark-requires : goal.mark-requires
mark-requires c =
    let p = c.args.self.now in
    let i = c.loop-user.invariant in
    let step = steps c.args.slot c.linked.ensures c.loop-user.at c.in-Some.user
    i.users.more.same.ask_lists i.at c.in-Some.ensures.some in
    omega (arith, user-there p c.args.slot (seen_to (row p.asks.lists c.args.slot) c.loop-user.at) c.requires.shaped c.linked.ensures step.inside)

pub loop-user-smaller : goal.loop-user-smaller
loop-user-smaller c =
    let p = c.args.self.now in
    let i = c.loop-user.invariant in
    (steps _ c.linked.ensures _ _ i.users.more.same.ask_lists i.at
    c.in-Some.ensures.some).less

pub returns : goal.returns
returns c =
    let p = c.args.self.now in
    let q = c.loop-user.self in
    let q1 : Parts = record { asks = c.item.new.self; uses = q.uses; marks = q.marks } in
    let i = c.loop-user.invariant in
    let h = c.item.ensures in
    let idle = c.in_default.ensures.idle in
    let end = ended c.args.slot c.linked.ensures c.loop-user.at i.users.more.same.ask_lists i.at
    c.in_default.ensures.none in
    users-end p q q1 c.args.slot (seen_to (row p.asks.lists c.args.slot) c.loop-user.at) i.users (peek-asks _ _ h.named h.lists (omega arith) h.grows)
    (omega arith) end
