use Rattle.ksv_memo.proofs.Common.{ap, on}
use Rattle.ksv_memo_rules.proofs.Keeping.{none_right}
use Rattle.ksv_memo.proofs.engine.Engine.new.Goals as goal

pub returns-clause-right : goal.returns-clause-right
returns-clause-right g c rules bytes = none_right (on (g.R.Rules.meaning rules) bytes) _ (ap (λ t. t.kept) c.new.ensures.table)
