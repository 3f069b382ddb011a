use Rattle.ksv_memo_links.proofs.Common.{length, get_or, refl, sym, ◌∙◌, ap, arith, Parts}
use Rattle.std.proofs.lemmas.List.{length_push}
use Rattle.ksv_memo_links.proofs.Mark.{marked_yes}
use Rattle.ksv_memo_links.proofs.More.{MarksOne}
use Rattle.ksv_memo_links.proofs.Also.{first-more}
use Rattle.ksv_memo_links.proofs.parts.Parts.mark_all.Goals as goal

pub loop-slot-preserved : goal.loop-slot-preserved
loop-slot-preserved c =
    let q = c.loop-slot.self in
    let r : Parts = record { asks = q.asks; uses = q.uses; marks = c.mark_kept.new.self } in
    let slot = get_or c.args.slots.now c.loop-slot.slot-index 0 in
    let i = c.loop-slot.invariant in
    let kept = i.left c.loop-slot.slot-index (omega arith) (omega arith) in
    let one : MarksOne q r slot = record {
      same = record { asks = refl; ask_lists = refl; uses = refl; use_lists = refl };
      kept = c.mark_kept.ensures.kept;
      work = c.mark_kept.ensures.work ∙ sym (marked_yes _ _ _ kept);
      least = c.mark_kept.ensures.least;
      rises = omega arith;
    } in
    first-more c.requires.once i c.loop-slot-test.true refl one
    (omega (arith, c.mark_kept.ensures.looks, ap length c.mark_kept.ensures.work, length_push q.marks.work slot))
