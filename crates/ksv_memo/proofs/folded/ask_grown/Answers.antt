use Rattle.ksv_memo.proofs.Common.{Some}
use Rattle.ksv_memo.specs.Folding.{viewed}
use Rattle.ksv_memo.proofs.folded.ask_grown.Goals as goal

pub returns-clause-asked : goal.returns-clause-asked
returns-clause-asked g c = record {
  mid = viewed g.R.Node.PartialEq.eq g.R.Fold.Folds.fold (Some c.grow_run.new.run) c.grow_run.new.table;
  grown = c.grow_run.ensures.grown;
  ok = c.ask_beside.ensures.ok;
  err = c.ask_beside.ensures.err;
}
