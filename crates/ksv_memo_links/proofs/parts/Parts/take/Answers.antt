use Rattle.ksv_memo_links.proofs.Common.{refl, Parts}
use Rattle.ksv_memo_links.proofs.Keeping.{taken_whole}
use Rattle.ksv_memo_links.proofs.parts.Parts.take.Goals as goal

pub returns-clause-whole : goal.returns-clause-whole
returns-clause-whole c =
    let p = c.args.self.now in
    let q : Parts = record { asks = p.asks; uses = p.uses; marks = c.take.new.self } in
    taken_whole _ _ _ _ c.requires.whole c.take.ensures.kept c.in_ok-slot.ensures.work c.in_ok-slot.ensures.inside refl refl
    c.clear.ensures
