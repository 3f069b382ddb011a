use Rattle.ksv_memo_links.proofs.Common.{refl, sym, ◌∙◌, arith, Parts, common_steps}
use Rattle.ksv_memo_links.proofs.Keeping.{same_whole, filled_whole}
use Rattle.ksv_memo_links.proofs.parts.Parts.keep.Goals as goal

pub returns-in_err-fill-clause-whole : goal.returns-in_err-fill-clause-whole
returns-in_err-fill-clause-whole c = same_whole c.requires.whole c.in_err-fill.ensures.err

pub returns-clause-whole : goal.returns-clause-whole
returns-clause-whole c =
    let p = c.args.self.now in
    let q = c.fill.new.self in
    let r : Parts = record { asks = q.asks; uses = q.uses; marks = c.keep.new.self } in
    let f = c.in_ok-fill.ensures.ok in
    filled_whole r c.requires.whole c.requires.idle c.requires.slot_in c.requires.asked_kept f refl refl
    (cc) c.keep.ensures.work

pub returns-clause-ok : goal.returns-clause-ok
returns-clause-ok c =
    let f = c.in_ok-fill.ensures.ok in
    let h = c.requires.whole.shaped in
    record {
      kept = cc;
      asked = f.asks;
      uses = f.uses;
      in_asked = omega arith;
      in_uses = omega arith;
      waits = c.keep.ensures.work ∙ sym c.requires.idle;
    }

pub fill-requires-clause-asked_in : goal.fill-requires-clause-asked_in
fill-requires-clause-asked_in c = grind (arith, common_steps)
