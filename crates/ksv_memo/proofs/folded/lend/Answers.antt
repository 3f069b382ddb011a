use Rattle.ksv_memo.proofs.Common.{subst, nodes}
use Rattle.ksv_memo.specs.Folding.{ClosesAs}
use Rattle.ksv_memo.proofs.Lending.{fails-lost, fails-put}
use Rattle.ksv_memo.proofs.Turns.{on_err_always}
use Rattle.ksv_memo.proofs.folded.lend.Goals as goal

-- it isn't kept
pub returns-in_err-keep_beside-clause-err : goal.returns-in_err-keep_beside-clause-err
returns-in_err-keep_beside-clause-err g c = on_err_always c.from_residual.result
    (fails-lost g.R.Fold.Folds.fold c.args.place c.args.answer c.args.run.now c.keep_beside.new.run (nodes c.args.table.now) (nodes c.keep_beside.new.table)
    c.in_err-keep_beside.ensures.err c.in_err-keep_beside.ensures.same)

-- it is, and the one below doesn't get its answer
pub returns-else-branch-clause-err : goal.returns-else-branch-clause-err
returns-else-branch-clause-err g c =
    fails-put g.R.Fold.Folds.fold c.args.place c.args.answer c.args.run.now c.keep_beside.new.run (nodes c.args.table.now) (nodes c.keep_beside.new.table)
    (subst (λ b. ClosesAs (g.R.Fold.Folds.fold c.args.run.now.nodes) c.args.place c.args.answer b c.args.table.now.opened (nodes c.args.table.now)
    (nodes c.keep_beside.new.table)) c.if-branch.false c.in_ok-keep_beside.ensures.ok)
    c.in_ok-keep_beside.ensures.lent
