use Rattle.ksv_memo.proofs.Common.{◌∙◌, ap, nodes_in, on, arith, common_steps}
use Rattle.ksv_memo.proofs.Topping.{called-laid, called-nodes}
use Rattle.ksv_memo.proofs.table.Table.turn.Goals as goal

-- there are more uses than before
pub invariant_of-self : goal.invariant_of-self
invariant_of-self g c =
    let w = on (g.R.Rules.meaning c.args.rules.now) c.args.bytes.now in
    called-laid _ w _ _ _ c.run_last.result c.run_last.ensures.step
    c.run_last.ensures.refused c.run_last.ensures.frames c.run_last.ensures.asked c.self.invariant

pub returns-clause-waiting : goal.returns-clause-waiting
returns-clause-waiting g c =
    called-nodes c.self.inside.slots.entries c.self.inside.frames c.run_last.new.frames c.run_last.ensures.frames c.run_last.ensures.asked
    ∙ ap (λ v. nodes_in v.opened) c.self.view_is

pub returns-clause-step : goal.returns-clause-step
returns-clause-step g c = grind (arith, common_steps)
