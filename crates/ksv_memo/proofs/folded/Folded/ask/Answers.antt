use Rattle.ksv_memo.proofs.Common.{on, rules}
use Rattle.ksv_memo.specs.Folding.{viewed}
use Rattle.ksv_memo.proofs.Growth.{asks-same}
use Rattle.ksv_memo.proofs.folded.Folded.ask.Goals as goal

-- there is no run
pub returns-in-None-clause-asked : goal.returns-in-None-clause-asked
returns-in-None-clause-asked g c =
    let view = viewed g.R.Node.PartialEq.eq g.R.Fold.Folds.fold c.self.inside.run in
    asks-same (on (g.R.Rules.meaning c.args.rules.now) c.args.bytes.now) g.R.Node.PartialEq.eq c.args.node c.args.self.now
    (view c.self.inside.table) (view c.ask.new.self) c.args.turns.now c.requires.right c.self.view_is c.ask.result (search rules) (search rules)
