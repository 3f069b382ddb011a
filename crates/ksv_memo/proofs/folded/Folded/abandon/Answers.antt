use Rattle.ksv_memo.proofs.Common.{nodes}
use Rattle.ksv_memo.proofs.Runs.{opened-folding, takes-all}
use Rattle.ksv_memo.proofs.folded.Folded.abandon.Goals as goal

pub invariant_of-self : goal.invariant_of-self
invariant_of-self g c =
    opened-folding g.R.Node.PartialEq.eq g.met.R.Node.Eq.laws g.met.R.Rules.exact g.R.Fold.Folds.fold c.self.inside.run (nodes c.self.inside.table)
    (nodes c.abandon.new.self) c.self.invariant c.abandon.ensures.kept
    (λ P all. takes-all (λ o. P o.node) c.abandon.result c.self.inside.table.opened c.abandon.new.self.opened c.abandon.ensures.rest all)
