use Rattle.ksv_memo_links.proofs.Common.{length, ap, arith}
use Rattle.ksv_memo_links.proofs.Also.{begins}
use Rattle.ksv_memo_links.proofs.Closing.{forgets, whole-after, near, behind, rises}
use Rattle.ksv_memo_links.proofs.parts.Parts.forget.Goals as goal

pub returns-clause-forgets : goal.returns-clause-forgets
returns-clause-forgets c = forgets _ _ _ _ _ c.requires.whole c.requires.idle
    c.linked.ensures (begins c.mark_all.ensures c.hit_touched.ensures) c.spread.ensures

pub returns-clause-whole : goal.returns-clause-whole
returns-clause-whole c = whole-after _ _ _ _ _ c.requires.whole c.requires.idle
    c.linked.ensures (begins c.mark_all.ensures c.hit_touched.ensures) c.spread.ensures

pub returns-clause-near : goal.returns-clause-near
returns-clause-near c = near _ _ _ _ _ c.requires.whole c.requires.idle
    c.linked.ensures (begins c.mark_all.ensures c.hit_touched.ensures) c.spread.ensures

pub returns-clause-behind : goal.returns-clause-behind
returns-clause-behind c = behind _ _ _ _ _ c.requires.whole c.requires.idle
    c.linked.ensures (begins c.mark_all.ensures c.hit_touched.ensures) c.spread.ensures

pub returns-clause-grows : goal.returns-clause-grows
returns-clause-grows c = rises _ _ _ _ _ c.requires.whole c.requires.idle
    c.linked.ensures (begins c.mark_all.ensures c.hit_touched.ensures) c.spread.ensures

pub returns-clause-vacant : goal.returns-clause-vacant
returns-clause-vacant c s e =
    (c.requires.whole.vacant s e (λ k. (let z = ap length c.requires.idle in absurd (omega arith)))).1
