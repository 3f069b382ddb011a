use Rattle.ksv_memo.proofs.Change.{untouched-stays}
use Rattle.ksv_memo.proofs.laws.untouched_answers_stay_right.Goals as goal

pub returns : goal.returns
returns g c before after kept made right free = untouched-stays _ (g.met.R.Rules.lawful c.args._rules.now) c.args._change
    before after made _ right free
