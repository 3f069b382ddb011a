use Rattle.ksv_memo.proofs.Common.{◌∙◌, ap, inl, nodes}
use Rattle.ksv_memo.proofs.Tabling.{hears, replies}
use Rattle.ksv_memo.proofs.table.Table.ask.Goals as goal

-- a kept answer is heard
pub invariant_of-self-in-Ok-Kept : goal.invariant_of-self-in-Ok-Kept
invariant_of-self-in-Ok-Kept g c =
    let t = c.seek.new in
    let came = rw c.in-Ok-Kept.field-0-is at c.in-Ok-Kept.ensures.ok in
    hears g.R.Node.PartialEq.eq _ _ _ c.in-Ok-Kept.ensures.laid c.args.node _ came.0 _
    c.in_ok-hear-in-Ok-Kept.ensures.ok

pub returns-in_ok-hear-in-Ok-Kept-clause-ok : goal.returns-in_ok-hear-in-Ok-Kept-clause-ok
returns-in_ok-hear-in-Ok-Kept-clause-ok g c =
    let t = c.seek.new in
    let eq = g.R.Node.PartialEq.eq in
    let came = rw c.in-Ok-Kept.field-0-is at c.in-Ok-Kept.ensures.ok in
    inl (rw (came.1 ∙ ap nodes c.self.view_is) at (replies eq t.slots.entries t.links t.frames c.in-Ok-Kept.ensures.laid c.args.node
    (g.met.R.Node.Eq.laws.refl c.args.node) c.in-Ok-Kept.place came.0
    c.hear.new.self c.in_ok-hear-in-Ok-Kept.ensures.ok))
