use Rattle.ksv_memo.proofs.Common.{Some, IfOk, nodes, subst}
use Rattle.ksv_memo.specs.Nodes.{Asks}
use Rattle.ksv_memo.specs.Folding.{viewed}
use Rattle.ksv_memo.proofs.Runs.{asks-folding, wilder-folding, wilder-view}
use Rattle.ksv_memo.proofs.folded.ask_beside.Goals as goal

-- it is kept by its number
pub ask_folded-requires-clause-run : goal.ask_folded-requires-clause-run
ask_folded-requires-clause-run g c =
    wilder-folding g.R.Node.PartialEq.eq g.met.R.Node.Eq.laws g.met.R.Rules.exact g.R.Fold.Folds.fold c.args.run.now c.covered.new.run
    (nodes c.args.table.now) c.covered.ensures.same c.requires.run

pub returns-in-Some-clause-ok : goal.returns-in-Some-clause-ok
returns-in-Some-clause-ok g c =
    let eq = g.R.Node.PartialEq.eq in
    subst (λ v. IfOk c.ask_folded.result (λ came.
    Asks eq c.args.node (nodes v) (nodes (viewed eq g.R.Fold.Folds.fold (Some c.ask_folded.new.run) c.ask_folded.new.table)) came))
    (wilder-view g.R.Node.PartialEq.eq g.met.R.Node.Eq.laws g.met.R.Rules.exact g.R.Fold.Folds.fold c.args.run.now c.covered.new.run
    c.args.table.now c.covered.ensures.same)
    c.ask_folded.ensures.ok

-- it may have a slot
pub returns-in-None-clause-run : goal.returns-in-None-clause-run
returns-in-None-clause-run g c =
    (asks-folding g.R.Node.PartialEq.eq g.met.R.Node.Eq.laws g.met.R.Rules.exact g.R.Fold.Folds.fold c.args.run.now c.covered.new.run
    c.args.table.now c.ask.new.self c.covered.ensures.same c.requires.run c.args.node c.in-None.ensures.none c.ask.result c.ask.ensures.ok
    c.ask.ensures.err).0

pub returns-in-None-clause-ok : goal.returns-in-None-clause-ok
returns-in-None-clause-ok g c =
    (asks-folding g.R.Node.PartialEq.eq g.met.R.Node.Eq.laws g.met.R.Rules.exact g.R.Fold.Folds.fold c.args.run.now c.covered.new.run
    c.args.table.now c.ask.new.self c.covered.ensures.same c.requires.run c.args.node c.in-None.ensures.none c.ask.result c.ask.ensures.ok
    c.ask.ensures.err).1
