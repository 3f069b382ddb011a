use Rattle.std.proofs.Common.{◌∙◌, ◌∷◌, ap, sym}
use Rattle.ksv_expr_value.specs.declared.step.Step.TheVariants.{Name, Index}
use Rattle.ksv_folds.proofs.plain_list.PlainList.spot_for.Goals as goal
use Rattle.ksv_folds.specs.Lemmas.Once.{none_found}

pub returns-in_ok-field-in-Member-clause-none : goal.returns-in_ok-field-in-Member-clause-none
returns-in_ok-field-in-Member-clause-none c =
    let p = c.args.self.now in
    let field = c.in_ok-field-in-Member.ensures.some in
    none_found p c.args.node.now c.in-Member.element c.in_ok-field-in-Member.field field.0
    (c.in-Member.ensures ∙ ap (λ n. Name n ∷ (Index c.in-Member.element ∷ p.root.path.upward)) (sym field.1)) c.member_spot.result c.member_spot.ensures
