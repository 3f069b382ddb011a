use Rattle.ksv_memo.proofs.Common.{sym, subst}
use Rattle.std.proofs.Common.{IfNone}
use Rattle.ksv_memo.specs.Folding.{IsNoneBelow}
use Rattle.ksv_memo.proofs.Leasts.{below_none}
use Rattle.ksv_memo.proofs.folded.covered.Goals as goal

pub returns-in_err-place-clause-none : goal.returns-in_err-place-clause-none
returns-in_err-place-clause-none g c =
    let f = g.R.Fold.Folds.fold c.args.run.now.nodes in
    subst (λ r. IfNone r (IsNoneBelow f c.args.run.now.wild c.args.node.now)) (sym c.from_residual.ensures)
    (below_none f c.args.run.now.wild c.args.node.now c.requires.1 c.in_err-place.ensures.none)
