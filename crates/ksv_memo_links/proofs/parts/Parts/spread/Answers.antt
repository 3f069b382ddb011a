use Rattle.ksv_memo_links.proofs.Common.{refl, arith, Parts}
use Rattle.ksv_memo_links.proofs.Hits.{Peeks}
use Rattle.ksv_memo_links.proofs.Spreading.{spread-none, spread-more, spread-end}
use Rattle.ksv_memo_links.proofs.parts.Parts.spread.Goals as goal

pub loop-slot-init : goal.loop-slot-init
loop-slot-init c = spread-none _

pub loop-slot-preserved : goal.loop-slot-preserved
loop-slot-preserved c =
    let q = c.loop-slot.self in
    let q1 : Parts = record { asks = q.asks; uses = q.uses; marks = c.at.new.self } in
    let k : Peeks q q1 = record {
      same = record { asks = refl; ask_lists = refl; uses = refl; use_lists = refl };
      kept = c.at.ensures.kept;
      work = c.at.ensures.work;
      looks = omega arith;
      least = c.at.ensures.least;
      rises = omega arith;
    } in
    spread-more c.loop-slot.invariant k c.in-Some.ensures.some.0
    c.in-Some.ensures.some.1 c.mark_users.ensures

pub returns : goal.returns
returns c =
    let q = c.loop-slot.self in
    let q1 : Parts = record { asks = q.asks; uses = q.uses; marks = c.at.new.self } in
    let k : Peeks q q1 = record {
      same = record { asks = refl; ask_lists = refl; uses = refl; use_lists = refl };
      kept = c.at.ensures.kept;
      work = c.at.ensures.work;
      looks = omega arith;
      least = c.at.ensures.least;
      rises = omega arith;
    } in
    spread-end c.loop-slot.invariant k c.in_default.ensures.none
