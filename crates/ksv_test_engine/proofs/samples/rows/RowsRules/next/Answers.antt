use Rattle.std.proofs.Common.{◌≡◌, ◌++◌, ◌∙◌, ap, subst, sym, IfOk, OnOk}
use Rattle.std.specs.Prelude.{slice_get}
use Rattle.ksv_test_engine.specs.Rows.{row_next, row_uses}
use Rattle.std.proofs.lemmas.List.{append-nil}
use Rattle.ksv_test_engine.proofs.samples.rows.RowsRules.next.Goals as goal

pub returns-in-None-clause-uses : goal.returns-in-None-clause-uses
returns-in-None-clause-uses c =
    let seen = c.in-None.ensures ∙ ap (λ rows. slice_get rows c.node.result.now.number) c.as_slice.ensures.value
    ∙ ap (λ n. slice_get c.args.self.now.rows.items n.number) c.node.ensures in
    sym (ap (λ row. c.args.uses.now.items ++ row_uses c.args.bytes.now c.args.replies.now row) (sym seen) ∙ append-nil c.args.uses.now.items)

pub returns-in-Some-clause-step : goal.returns-in-Some-clause-step
returns-in-Some-clause-step c =
    let seen = c.in-Some.ensures ∙ ap (λ rows. slice_get rows c.node.result.now.number) c.as_slice.ensures.value
    ∙ ap (λ n. slice_get c.args.self.now.rows.items n.number) c.node.ensures in
    subst (λ row. IfOk c.row_next.result (λ step. step ≡ row_next c.args.bytes.now c.args.replies.now row)) seen c.row_next.ensures.step

pub returns-in-Some-clause-uses : goal.returns-in-Some-clause-uses
returns-in-Some-clause-uses c =
    let seen = c.in-Some.ensures ∙ ap (λ rows. slice_get rows c.node.result.now.number) c.as_slice.ensures.value
    ∙ ap (λ n. slice_get c.args.self.now.rows.items n.number) c.node.ensures in
    subst (λ row. OnOk c.row_next.result (c.row_next.new.uses.items ≡ c.args.uses.now.items ++ row_uses c.args.bytes.now c.args.replies.now row)) seen
    c.row_next.ensures.uses
