use Rattle.ksv_memo.proofs.Common.{law_on}
use Rattle.ksv_memo.proofs.Forgetting.{left-decides}
use Rattle.ksv_memo.proofs.laws.edits_leave_untouched_nodes.Goals as goal

pub returns : goal.returns
returns g c bytes nodes node = left-decides _
    (law_on (g.R.Rules.meaning c.args._rules.now) (g.met.R.Rules.lawful c.args._rules.now) bytes) c.args._change nodes node
