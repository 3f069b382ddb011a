use Rattle.ksv_memo.proofs.Common.{ap, on}
use Rattle.ksv_memo.specs.Folding.{viewed}
use Rattle.ksv_memo.proofs.Growth.{grows-same}
use Rattle.ksv_memo.proofs.folded.Folded.grow.Goals as goal

-- there is no run
pub returns-in-None-clause-grown : goal.returns-in-None-clause-grown
returns-in-None-clause-grown g c =
    grows-same (on (g.R.Rules.meaning c.args.rules.now) c.args.bytes.now) c.args.node.now c.args.self.now
    (viewed g.R.Node.PartialEq.eq g.R.Fold.Folds.fold c.self.inside.run c.self.inside.table) c.args.turns.now c.requires.right
    (ap (λ v. v.kept) c.self.view_is) (ap (λ v. v.opened) c.self.view_is)
