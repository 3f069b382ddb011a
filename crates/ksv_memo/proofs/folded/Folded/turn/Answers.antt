use Rattle.ksv_memo.proofs.Common.{nodes}
use Rattle.ksv_memo.proofs.Runs.{named-folding}
use Rattle.ksv_memo.proofs.folded.Folded.turn.Goals as goal

pub invariant_of-self : goal.invariant_of-self
invariant_of-self g c =
    named-folding g.R.Node.PartialEq.eq g.met.R.Node.Eq.laws g.met.R.Rules.exact g.R.Fold.Folds.fold c.self.inside.run (nodes c.self.inside.table)
    (nodes c.turn.new.self) c.self.invariant c.turn.ensures.kept c.turn.ensures.waiting
