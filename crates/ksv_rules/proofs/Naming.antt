-- An expression that is a name alone yields what its object's member is asked for.
use Rattle.std.proofs.Common.{◌≡◌, ℕ, Option, Some, None, refl, ap, ◌∙◌}
use mathlib.Core.Path.{fun_ext}
use Rattle.ksv_basics.specs.Plan.{Answer, Ask, bind, translate}
use Rattle.ksv_expr_tree.specs.Tree.{Tree, view, view_layer, named, name_of}
use Rattle.ksv_expr_tree.specs.declared.tree.Expr as opened
use Rattle.ksv_expr_tree.specs.declared.tree.Expr.TheVariants as exprs
use Rattle.ksv_expr_tree.specs.declared.tree.Expr.TheFolds.{fold_out-Expr}
use Rattle.ksv_expr_tree.specs.declared.tree.Name.{Name}
use Rattle.ksv_expr_value.specs.Setting.{Setting}
use Rattle.ksv_expr_value.specs.Trail.{Trail, child}
use Rattle.ksv_expr_value.specs.declared.step.Step.TheVariants as steps
use Rattle.ksv_expr_value.specs.declared.value.Value.{Value}
use Rattle.ksv_expr_meaning.specs.Asked as asked
use Rattle.ksv_expr_meaning.specs.Heard.{Valued}
use Rattle.ksv_expr_meaning.specs.Meaning as meaning
use Rattle.ksv_expr_meaning.specs.declared.want.Want.TheVariants as wants
use Rattle.ksv_nodes.specs.Rule.{Here, Of, ask_value, in_path, in_value, value_node}
use Rattle.ksv_nodes.specs.declared.given.Given.{Given}
use Rattle.ksv_nodes.specs.declared.given.Given.TheVariants as givens
use Rattle.ksv_rule_meaning.specs.Wanted.{wanted, expression}
use Rattle.ksv_rules.specs.Code.{value_of_name}

module _ (s : Setting) where
  -- an answer, as a value that is heard, is the value
  by_given : (g : Given) → bind (bind (in_value g) (λ v. Answer (Valued v))) (λ r. translate (wanted s) Here (asked.in_value r)) ≡ in_value g
  unfolding bind
  by_given (givens.Head h) = refl
  by_given (givens.Value v) = refl
  by_given (givens.End place last) = refl
  by_given (givens.Rest count place) = refl

  by_path : (o : Option Trail) → translate (wanted s) Here (bind (meaning.in_path o) (λ p. asked.value_for (wants.Value p))) ≡ bind (in_path o) ask_value
  unfolding bind wanted
  by_path None = refl
  by_path (Some p) = ap (Ask (Of (value_node p))) (fun_ext by_given)

  by_number : (q : Trail) (x : Option ℕ) → translate (wanted s) Here (meaning.member_value q x) ≡ value_of_name q x
  unfolding bind meaning.member_value meaning.member_path
  by_number q None = refl
  by_number q (Some x) = by_path (child q (steps.Name x))

  seen : (n : Name) → view (exprs.Name n) ≡ named (name_of n)
  unfolding opened.out-Expr denote.Hole.Carrier.out
  seen n = fold_out-Expr Tree view_layer (exprs.Name n)

  named_alone : (n : Name) → expression s (named (name_of n)) ≡ value_of_name s.home n.number
  unfolding expression meaning.value_of
  named_alone n = by_number s.home n.number

  pub name_alone : (n : Name) → expression s (view (exprs.Name n)) ≡ value_of_name s.home n.number
  name_alone n = ap (expression s) (seen n) ∙ named_alone n
