use Rattle.ksv_memo.proofs.Common.{◌+◌, refl, arith, subst, inr, nodes, AllByRecursion, Some}
use Rattle.ksv_memo_rules.specs.Folds.{first_of}
use Rattle.ksv_memo.specs.Nodes.{IsPut}
use Rattle.ksv_memo.specs.Folding.{IsFolding, IsNext, IsNoneBelow, with_folded}
use Rattle.ksv_memo.specs.declared.folded.Run.{Run}
use Rattle.ksv_memo.proofs.Absorbing.{absorbs, loses-run}
use Rattle.ksv_memo.proofs.folded.absorb.Given
use Rattle.ksv_memo.proofs.folded.absorb.Goals.{After-max-run}
use Rattle.ksv_memo.proofs.folded.absorb.Goals as goal

-- it isn't kept
pub returns-in_err-is_heard-clause-run : goal.returns-in_err-is_heard-clause-run
returns-in_err-is_heard-clause-run g c =
    (loses-run g.R.Node.PartialEq.eq g.met.R.Node.Eq.laws g.met.R.Rules.exact g.R.Fold.Folds.fold c.args.run.now c.args.place c.in_ok-answer.answer
    (nodes c.args.table.now) (nodes c.keep_beside.new.table) c.requires.run
    (subst (λ a. IsNext g.R.Fold.Folds.fold c.args.run.now c.args.place a c.args.table.now.opened) c.in_ok-answer.ensures c.requires.next)
    c.keep_beside.new.run c.in_err-is_heard.ensures.same
    c.in_err-is_heard.ensures.err).0

-- it is
abbrev last : (g : Given.Over) (c : After-max-run g) → Run g.row.R-Node.Denot g.row.R-Fold.Denot
last g c = record {
  nodes = c.keep_beside.new.run.nodes;
  kept = c.args.place + 1;
  wild = c.max-run.result;
  far = c.keep_beside.new.run.far;
  lent = c.keep_beside.new.run.lent;
  moved = c.keep_beside.new.run.moved;
  has_lost = c.keep_beside.new.run.has_lost;
}

absorbed : (g : Given.Over) (c : After-max-run g) → IsFolding g.R.Node.PartialEq.eq g.R.Fold.Folds.fold (Some (last g c)) (nodes c.keep_beside.new.table)
    × IsPut ((g.R.Fold.Folds.fold c.args.run.now.nodes).entry c.args.place)
    (with_folded g.R.Node.PartialEq.eq (first_of (g.R.Fold.Folds.fold c.args.run.now.nodes) c.args.run.now.kept) c.args.table.now.kept)
    (with_folded g.R.Node.PartialEq.eq (first_of (g.R.Fold.Folds.fold c.keep_beside.new.run.nodes) (c.args.place + 1)) c.keep_beside.new.table.kept)
absorbed g c =
    let same = c.in_ok-is_heard.ensures.lent in
    let f = g.R.Fold.Folds.fold in
    let far = same.far in
    let within = c.least_open.ensures.within in
    absorbs g.R.Node.PartialEq.eq g.met.R.Node.Eq.laws g.met.R.Rules.exact f c.args.run.now c.args.place c.in_ok-answer.answer
    (nodes c.args.table.now) (nodes c.keep_beside.new.table) c.requires.run
    (subst (λ a. IsNext g.R.Fold.Folds.fold c.args.run.now c.args.place a c.args.table.now.opened) c.in_ok-answer.ensures c.requires.next)
    (last g c) c.least_open.result c.in_ok-is_heard.is_heard same.nodes
    refl c.max-run.ensures far same.lent (omega arith)
    (subst (λ ns. AllByRecursion (λ w. IsNoneBelow (f ns) c.least_open.result w.node) c.keep_beside.new.table.opened) same.nodes c.least_open.ensures.apart)
    c.in_ok-is_heard.ensures.ok

pub returns-then-is_heard-clause-run : goal.returns-then-is_heard-clause-run
returns-then-is_heard-clause-run g c = (absorbed g (goal.at.returns-then-is_heard-clause-run g c).After-max-run).0

pub returns-then-is_heard-clause-ok : goal.returns-then-is_heard-clause-ok
returns-then-is_heard-clause-ok g c = (absorbed g (goal.at.returns-then-is_heard-clause-ok g c).After-max-run).1

-- and the one below doesn't get its answer
pub returns-else-is_heard-clause-run : goal.returns-else-is_heard-clause-run
returns-else-is_heard-clause-run g c = (absorbed g (goal.at.returns-else-is_heard-clause-run g c).After-max-run).0

pub returns-else-is_heard-clause-err : goal.returns-else-is_heard-clause-err
returns-else-is_heard-clause-err g c = inr (absorbed g (goal.at.returns-else-is_heard-clause-err g c).After-max-run).1
