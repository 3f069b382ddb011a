use Rattle.ksv_memo.proofs.Common.{ℕ, List, Result, sym, subst, nodes, arith, common_steps}
use Rattle.ksv_memo.specs.Nodes.{Nodes}
use Rattle.ksv_memo.specs.Folding.{IsRun}
use Rattle.ksv_memo.proofs.Absorbing.{far-run, first-now, next-is, right-next, told-now}
use Rattle.ksv_memo.proofs.Taking.{Asking, asking}
use Rattle.ksv_memo.proofs.folded.next_open.Given
use Rattle.ksv_memo.proofs.folded.next_open.Goals as goal

-- what it is proved from
abbrev asks : (g : Given.Over) (rules : g.row.R.Denot) (bytes : List ℕ) → Asking g.row.R-Node.Denot (Result g.row.R-Value.Denot g.row.R-Fault.Denot)
asks g rules bytes = asking (g.R.Rules.meaning rules) (g.met.R.Rules.lawful rules) bytes g.R.Node.PartialEq.eq g.met.R.Node.Eq.laws g.met.R.Rules.exact

-- it is the next one
pub returns-then-place-count-clause-some : goal.returns-then-place-count-clause-some
returns-then-place-count-clause-some g c =
    let q = asks g c.args.rules.now c.args.bytes.now in
    let told = told-now q g.R.Fold.Folds.fold c.args.run.now (nodes c.args.table.now) c.requires.run c.args.answer.now c.requires.reached in
    let first = first-now q g.R.Fold.Folds.fold c.args.run.now (nodes c.args.table.now) c.requires.run c.args.answer.now c.requires.reached in
    next-is q g.R.Fold.Folds.fold c.args.run.now (nodes c.args.table.now) c.requires.run c.args.answer.now c.requires.reached c.in_ok-place.place
    c.in_ok-place.ensures.some c.foldable-count.result c.if-place-run.true c.if-run.false (c.foldable-count.ensures.fold told first) c.if-place-count.true

pub returns-then-place-count-clause-right : goal.returns-then-place-count-clause-right
returns-then-place-count-clause-right g c =
    let q = asks g c.args.rules.now c.args.bytes.now in
    let told = told-now q g.R.Fold.Folds.fold c.args.run.now (nodes c.args.table.now) c.requires.run c.args.answer.now c.requires.reached in
    let first = first-now q g.R.Fold.Folds.fold c.args.run.now (nodes c.args.table.now) c.requires.run c.args.answer.now c.requires.reached in
    right-next q g.R.Fold.Folds.fold c.args.run.now (nodes c.args.table.now) c.requires.run c.args.answer.now c.requires.reached c.in_ok-place.place
    c.in_ok-place.ensures.some c.foldable-count.result c.if-place-run.true c.if-run.false (c.foldable-count.ensures.fold told first) c.if-place-count.true

-- it isn't, and may have a slot
pub returns-clause-run : goal.returns-clause-run
returns-clause-run g c =
    let q = asks g c.args.rules.now c.args.bytes.now in
    let run = c.args.run.now in
    subst (λ (t : Nodes g.row.R-Node.Denot (Result g.row.R-Value.Denot g.row.R-Fault.Denot)).
    IsRun g.R.Node.PartialEq.eq (g.R.Fold.Folds.fold run.nodes) run.kept run.wild c.min-run.result run.lent.items t.kept t.opened)
    (sym c.foldable-count.ensures.nodes)
    (far-run q g.R.Fold.Folds.fold run (nodes c.args.table.now) c.requires.run c.args.answer.now c.requires.reached c.in_ok-place.place
    c.in_ok-place.ensures.some c.min-run.result c.min-run.ensures)

pub returns-clause-none : goal.returns-clause-none
returns-clause-none g c = grind (arith, common_steps)
