use Rattle.std.proofs.Common.{◌≡◌, sym, subst, ap, ◌∙◌}
use Rattle.ksv_expr_value.specs.Setting.{Setting}
use Rattle.ksv_expr_value.specs.declared.value.Value.{Value}
use Rattle.ksv_expr_tree.specs.Tree.{view}
use Rattle.ksv_nodes.specs.Rule.{Rule}
use Rattle.ksv_nodes.specs.Turning.{Runs}
use Rattle.ksv_rule_meaning.specs.Wanted.{expression}
use Rattle.ksv_rules.specs.Code.{value_of_name}
use Rattle.ksv_rules.proofs.Naming.{name_alone}
use Rattle.ksv_rules.proofs.evaluation.value_of_expression.Goals as goal

pub returns-in-Name : goal.returns-in-Name
returns-in-Name c =
    let home : c.ctx.inside.home.now ≡ c.args.ctx.now.home = ap (λ (s : Setting). s.home) c.ctx.view_is in
    let same : expression c.args.ctx.now (view c.args.expr.now) ≡ value_of_name c.args.ctx.now.home c.in-Name.name.number =
    ap (λ e. expression c.args.ctx.now (view e)) c.in-Name.is ∙ name_alone c.args.ctx.now c.in-Name.name in
    let rule : value_of_name c.ctx.inside.home.now c.in-Name.name.number ≡ expression c.args.ctx.now (view c.args.expr.now) =
    ap (λ q. value_of_name q c.in-Name.name.number) home ∙ sym same in
    subst (λ (r : Rule Value). Runs r (λ v. v) c.args.turn.now c.value_of_name.new.turn c.value_of_name.result) rule c.value_of_name.ensures
