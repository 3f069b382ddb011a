use Rattle.ksv_memo.proofs.Common.{nodes}
use Rattle.ksv_memo.proofs.Runs.{known-folding, starts-folding, wilder-folding}
use Rattle.ksv_memo.proofs.folded.start_beside.Goals as goal

-- it is kept by its number
pub returns-in_err-answer-in-Some-clause-run : goal.returns-in_err-answer-in-Some-clause-run
returns-in_err-answer-in-Some-clause-run g c =
    wilder-folding g.R.Node.PartialEq.eq g.met.R.Node.Eq.laws g.met.R.Rules.exact g.R.Fold.Folds.fold c.args.run.now c.covered.new.run
    (nodes c.args.table.now) c.covered.ensures.same c.requires.run

pub returns-in_ok-answer-in-Some-clause-run : goal.returns-in_ok-answer-in-Some-clause-run
returns-in_ok-answer-in-Some-clause-run g c =
    wilder-folding g.R.Node.PartialEq.eq g.met.R.Node.Eq.laws g.met.R.Rules.exact g.R.Fold.Folds.fold c.args.run.now c.covered.new.run
    (nodes c.args.table.now) c.covered.ensures.same c.requires.run

pub returns-in_ok-answer-in-Some-clause-ok : goal.returns-in_ok-answer-in-Some-clause-ok
returns-in_ok-answer-in-Some-clause-ok g c =
    known-folding g.R.Node.PartialEq.eq g.met.R.Node.Eq.laws g.met.R.Rules.exact g.R.Fold.Folds.fold c.args.run.now c.covered.new.run
    c.args.table.now c.covered.ensures.same c.in-Some.place c.args.node c.in-Some.ensures.some c.in_ok-answer-in-Some.answer
    c.in_ok-answer-in-Some.ensures

-- it may have a slot
pub returns-in-None-clause-run : goal.returns-in-None-clause-run
returns-in-None-clause-run g c =
    (starts-folding g.R.Node.PartialEq.eq g.met.R.Node.Eq.laws g.met.R.Rules.exact g.R.Fold.Folds.fold c.args.run.now c.covered.new.run
    c.args.table.now c.start.new.self c.covered.ensures.same c.requires.run c.args.node c.in-None.ensures.none c.start.result c.start.ensures.ok
    c.start.ensures.err).0

pub returns-in-None-clause-ok : goal.returns-in-None-clause-ok
returns-in-None-clause-ok g c =
    (starts-folding g.R.Node.PartialEq.eq g.met.R.Node.Eq.laws g.met.R.Rules.exact g.R.Fold.Folds.fold c.args.run.now c.covered.new.run
    c.args.table.now c.start.new.self c.covered.ensures.same c.requires.run c.args.node c.in-None.ensures.none c.start.result c.start.ensures.ok
    c.start.ensures.err).1
