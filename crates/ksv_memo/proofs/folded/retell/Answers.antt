use Rattle.ksv_memo.proofs.Common.{arith, sym, subst}
use Rattle.ksv_memo.specs.Folding.{IsRun, with_folded}
use Rattle.ksv_memo.specs.Nodes.{Nodes}
use Rattle.ksv_memo.proofs.Retelling.{firsts-same, retold}
use Rattle.ksv_memo.proofs.folded.retell.Goals as goal

pub returns-clause-run : goal.returns-clause-run
returns-clause-run g c =
    let eq = g.R.Node.PartialEq.eq in
    let old = g.R.Fold.Folds.fold c.args.run.now.nodes in
    let new = g.R.Fold.Folds.fold c.retell.new.folded in
    let kept = c.args.run.now.kept in
    let lent = c.args.run.now.lent.items in
    subst (λ (t : Nodes _ _). IsRun eq new kept kept kept lent t.kept t.opened) (sym c.retell.ensures.nodes)
    (retold eq old new kept c.retell.ensures.begins c.args.run.now.wild c.args.run.now.far lent c.args.table.now.kept c.args.table.now.opened
    c.requires.opened (g.R.Fold.Folds.laid c.retell.new.folded) c.requires.run)

pub returns-clause-seen : goal.returns-clause-seen
returns-clause-seen g c =
    let eq = g.R.Node.PartialEq.eq in
    let old = g.R.Fold.Folds.fold c.args.run.now.nodes in
    let new = g.R.Fold.Folds.fold c.retell.new.folded in
    let kept = c.args.run.now.kept in
    λ i. (record {
      kept = with_folded eq (firsts-same eq old new kept c.retell.ensures.begins kept (omega arith) i) (c.retell.ensures.nodes i).kept;
      opened = (c.retell.ensures.nodes i).opened;
    })
