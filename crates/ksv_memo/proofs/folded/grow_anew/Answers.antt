use Rattle.ksv_memo.proofs.Common.{◌∙◌, ap, sym, subst, nodes}
use Rattle.ksv_memo.specs.Folding.{IsRun}
use Rattle.ksv_memo.specs.Nodes.{Nodes}
use Rattle.ksv_memo.specs.declared.folded.Run.{Run}
use Rattle.ksv_memo.proofs.Retelling.{wild-far}
use Rattle.ksv_memo.proofs.folded.grow_anew.Goals.{then-is_outdated, else-is_outdated}
use Rattle.ksv_memo.proofs.folded.grow_anew.Goals as goal

pub grow_run-requires-clause-run : goal.grow_run-requires-clause-run
grow_run-requires-clause-run g c =
    let eq = g.R.Node.PartialEq.eq in
    let fold = g.R.Fold.Folds.fold in
    let Far = λ (r : Run g.row.R-Node.Denot g.row.R-Fold.Denot) (t : Nodes _ _). IsRun eq (fold r.nodes) r.kept r.far r.far r.lent.items t.kept t.opened in
    elim c.if-is_outdated.branch [
      | then-is_outdated w ↦
          let none = ap (λ (t : Nodes _ _). t.opened) w.widen.ensures.seen ∙ w.retell.ensures.opened in
          let now = wild-far eq fold w.widen.new.run w.widen.new.table.kept w.widen.new.table.opened w.widen.ensures.run none in
          subst (λ r. Far r (nodes c.if-is_outdated.table)) (sym w.run-is) (subst (λ t. Far w.widen.new.run (nodes t)) (sym w.table-is) now)
      | else-is_outdated w ↦
          let now = wild-far eq fold c.args.run.now c.args.table.now.kept c.args.table.now.opened c.requires.run c.requires.opened in
          let same = subst (Far c.args.run.now) (sym c.is_outdated.ensures.nodes) now in
          subst (λ r. Far r (nodes c.if-is_outdated.table)) (sym w.run-is) (subst (λ t. Far c.args.run.now (nodes t)) (sym w.table-is) same)
    ]
