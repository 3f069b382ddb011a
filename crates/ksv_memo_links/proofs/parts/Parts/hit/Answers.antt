use Rattle.ksv_memo_links.proofs.Common.{refl, sym, ◌∙◌, arith, Parts}
use Rattle.ksv_memo_links.proofs.More.{MarksOne}
use Rattle.ksv_memo_links.proofs.Hits.{hit-marked}
use Rattle.ksv_memo_links.proofs.parts.Parts.hit.Goals as goal

pub returns-then-is_touched : goal.returns-then-is_touched
returns-then-is_touched c =
    let p = c.args.self.now in
    let q : Parts = record { asks = p.asks; uses = c.is_touched.new.self; marks = c.mark.new.self } in
    let one : MarksOne p q c.args.slot = record {
      same = record { asks = refl; ask_lists = refl; uses = c.is_touched.ensures.rows; use_lists = c.is_touched.ensures.lists };
      kept = c.mark.ensures.kept;
      work = c.mark.ensures.work;
      least = c.mark.ensures.least;
      rises = omega arith;
    } in
    hit-marked _ _ _ _ one (sym c.is_touched.ensures.result ∙ c.if-is_touched.true)
    (omega arith)
