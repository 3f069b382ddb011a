use Rattle.ksv_memo.proofs.Common.{[], ◌∙◌, ap, sym, subst, OnOk, on, law_on, done, nodes_of, nodes_in, AreSame, to_keep}
use Rattle.ksv_memo.proofs.Common.{IsSettled, IsLeft, debt}
use Rattle.ksv_memo_rules.specs.Right.{counted}
use Rattle.std.proofs.Common.{OnErr}
use Rattle.std.proofs.lemmas.Result.{IfOk-weaker, on_err_weaker, on_ok_weaker}
use Rattle.ksv_memo.specs.Growing.{GrowsBy}
use Rattle.ksv_memo.proofs.Growing.{asked-all, asked-left, asked-turns, grown-right}
use Rattle.ksv_memo.proofs.machine.Machine.ask.Given
use Rattle.ksv_memo.proofs.machine.Machine.ask.Goals.{After-grow}
use Rattle.ksv_memo.proofs.machine.Machine.ask.Goals as goal

-- the nodes that were there before, and those that the table has grown by
grown : (g : Given.Over) (c : After-grow g)
    → GrowsBy (on (g.R.Rules.meaning c.args.rules.now) c.args.bytes.now) c.args.node (nodes_in c.tidy.new.self.opened) c.args.self.now.table.kept
    c.grow.new.self.kept c.grow.ensures.grown.calls
grown g c = subst (λ t. GrowsBy (on (g.R.Rules.meaning c.args.rules.now) c.args.bytes.now) c.args.node (nodes_in c.tidy.new.self.opened) t.kept
    c.grow.new.self.kept c.grow.ensures.grown.calls) c.tidy.ensures.nodes c.grow.ensures.grown.grown

law : (g : Given.Over) (c : After-grow g) → IsSettled (on (g.R.Rules.meaning c.args.rules.now) c.args.bytes.now)
law g c = law_on (g.R.Rules.meaning c.args.rules.now) (g.met.R.Rules.lawful c.args.rules.now) c.args.bytes.now

pub run-outcome-requires-clause-right : goal.run-outcome-requires-clause-right
run-outcome-requires-clause-right g c =
    let a = (goal.at.run-outcome-requires-clause-right g c).After-grow in
    grown-right (on (g.R.Rules.meaning c.args.rules.now) c.args.bytes.now) (law g a) _ _ _ _ _ (grown g a) c.requires.right

pub returns-clause-kept : goal.returns-clause-kept
returns-clause-kept g c =
    let w = on (g.R.Rules.meaning c.args.rules.now) c.args.bytes.now in
    let a = (goal.at.returns-clause-kept g c).After-grow in
    subst (λ es. OnOk c.run-outcome.result (AreSame w (nodes_of es) (to_keep w c.args.self.now.table.kept (done w [] c.args.node))))
    (sym c.abandon.ensures.kept)
    (on_ok_weaker c.run-outcome.result (λ same x. same x ∙ asked-all w (law g a) _ _ _ _ _ (grown g a) x) c.run-outcome.ensures.kept)

pub returns-clause-left : goal.returns-clause-left
returns-clause-left g c =
    let w = on (g.R.Rules.meaning c.args.rules.now) c.args.bytes.now in
    let a = (goal.at.returns-clause-left g c).After-grow in
    subst (λ es. OnErr c.run-outcome.result (IsLeft w (to_keep w c.args.self.now.table.kept (done w [] c.args.node)) c.args.self.now.table.kept es))
    (sym c.abandon.ensures.kept)
    (on_err_weaker c.run-outcome.result (asked-left w (law g a) _ _ _ _ _ (grown g a) _) c.run-outcome.ensures.left)

pub returns-clause-turns : goal.returns-clause-turns
returns-clause-turns g c =
    let w = on (g.R.Rules.meaning c.args.rules.now) c.args.bytes.now in
    let a = (goal.at.returns-clause-turns g c).After-grow in
    IfOk-weaker c.run-outcome.result _ _ (λ out turns answered. c.abandon.ensures.turns ∙ turns answered
    ∙ ap (counted (debt w c.grow.new.self.kept (done w [] c.args.node))) c.grow.ensures.grown.turns
    ∙ asked-turns w (law g a) _ _ _ _ _ (grown g a) c.args.self.now.turns) c.run-outcome.ensures.turns
