use Rattle.ksv_memo.proofs.Runs.{begins-folding}
use Rattle.ksv_memo.proofs.folded.close_founding.Goals as goal

pub returns-clause-run : goal.returns-clause-run
returns-clause-run g c =
    (begins-folding g.R.Node.PartialEq.eq g.met.R.Node.Eq.laws g.met.R.Rules.exact g.R.Fold.Folds.fold c.in_ok-found.found c.args.answer
    c.args.table.now.opened c.args.table.now c.close_slotted.new.table c.in_ok-found.ensures c.in_ok-close_slotted.ensures.ok).0

pub returns-clause-ok : goal.returns-clause-ok
returns-clause-ok g c =
    (begins-folding g.R.Node.PartialEq.eq g.met.R.Node.Eq.laws g.met.R.Rules.exact g.R.Fold.Folds.fold c.in_ok-found.found c.args.answer
    c.args.table.now.opened c.args.table.now c.close_slotted.new.table c.in_ok-found.ensures c.in_ok-close_slotted.ensures.ok).1
