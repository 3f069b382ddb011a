-- The trees of an expression's forms.
use Rattle.std.proofs.Common.{◌≡◌, map, sym, ap, ◌∙◌, string_bytes, Box, Global, String, Vec}
use Rattle.ksv_expr_tree.specs.declared.tree.Expr.{Expr, Unary', Binary', Logical', Choice', Field', SpecialField', Index', Cast'}
use Rattle.ksv_expr_tree.specs.declared.tree.Expr as opened
use Rattle.ksv_expr_tree.specs.declared.tree.Expr.TheVariants as made
use Rattle.ksv_expr_tree.specs.declared.tree.Expr.TheOpen.{Expr-F}
use Rattle.ksv_expr_tree.specs.declared.tree.Expr.TheFolds.{fold_out-Expr, fold-roll-Expr}
use Rattle.ksv_expr_tree.specs.declared.tree.Literal.{Literal}
use Rattle.ksv_expr_tree.specs.declared.tree.Name.{Name}
use Rattle.ksv_expr_tree.specs.declared.tree.TypeName.{TypeName}
use Rattle.ksv_expr_tree.specs.declared.tree.Member.{Member}
use Rattle.ksv_expr_tree.specs.declared.tree.SpecialName.{SpecialName}
use Rattle.ksv_expr_tree.specs.declared.tree.UnaryOperator.{UnaryOperator}
use Rattle.ksv_expr_tree.specs.declared.tree.BinaryOperator.{BinaryOperator}
use Rattle.ksv_expr_tree.specs.declared.tree.LogicalOperator.{LogicalOperator}
use Rattle.ksv_expr_tree.specs.Tree.{Tree, view, view_layer, literal_of, name_of, path_of, member_of, arguments_of, literal, named, special, member, unary}
use Rattle.ksv_expr_tree.specs.Tree.{binary, logical, choice, field, special_field, call, index, cast}

pub view_literal : (l : Literal) → view (made.Literal l) ≡ literal (literal_of l)
unfolding opened.out-Expr denote.Hole.Carrier.out
view_literal l = fold_out-Expr Tree view_layer (made.Literal l)

pub view_name : (w : Name) → view (made.Name w) ≡ named (name_of w)
unfolding opened.out-Expr denote.Hole.Carrier.out
view_name w = fold_out-Expr Tree view_layer (made.Name w)

pub view_special : (s : SpecialName) → view (made.Special s) ≡ special s
unfolding opened.out-Expr denote.Hole.Carrier.out
view_special s = fold_out-Expr Tree view_layer (made.Special s)

pub view_member : (m : Member) → view (made.Member m) ≡ member (member_of m)
unfolding opened.out-Expr denote.Hole.Carrier.out
view_member m = fold_out-Expr Tree view_layer (made.Member m)

pub view_unary : (op : UnaryOperator) (p : _) (a : Expr) → view (Unary' op p a) ≡ unary op (view a)
unfolding opened.out-Expr denote.Hole.Carrier.out
view_unary op p a = fold_out-Expr Tree view_layer (Unary' op p a)

pub view_binary : (op : BinaryOperator) (p q : _) (a b : Expr) → view (Binary' op p a q b) ≡ binary op (view a) (view b)
unfolding opened.out-Expr denote.Hole.Carrier.out
view_binary op p q a b = fold_out-Expr Tree view_layer (Binary' op p a q b)

pub view_logical : (op : LogicalOperator) (p q : _) (a b : Expr) → view (Logical' op p a q b) ≡ logical op (view a) (view b)
unfolding opened.out-Expr denote.Hole.Carrier.out
view_logical op p q a b = fold_out-Expr Tree view_layer (Logical' op p a q b)

pub view_choice : (p q r : _) (a b c : Expr) → view (Choice' p a q b r c) ≡ choice (view a) (view b) (view c)
unfolding opened.out-Expr denote.Hole.Carrier.out
view_choice p q r a b c = fold_out-Expr Tree view_layer (Choice' p a q b r c)

pub view_field : (p : _) (a : Expr) (w : Name) → view (Field' p a w) ≡ field (view a) (name_of w)
unfolding opened.out-Expr denote.Hole.Carrier.out
view_field p a w = fold_out-Expr Tree view_layer (Field' p a w)

pub view_special_field : (p : _) (a : Expr) (s : SpecialName) → view (SpecialField' p a s) ≡ special_field (view a) s
unfolding opened.out-Expr denote.Hole.Carrier.out
view_special_field p a s = fold_out-Expr Tree view_layer (SpecialField' p a s)

pub view_call : (a : Box Expr Global) (m : String Global) (es : Vec Expr Global)
    → view (made.Call a m es) ≡ call (view a.value) (string_bytes m) (arguments_of (map view es.items))
view_call a m es = ap view (sym (made.rolls-Call a m es)) ∙ fold-roll-Expr Tree view_layer (Expr-F.Call a m es)

pub view_index : (p q : _) (a b : Expr) → view (Index' p a q b) ≡ index (view a) (view b)
unfolding opened.out-Expr denote.Hole.Carrier.out
view_index p q a b = fold_out-Expr Tree view_layer (Index' p a q b)

pub view_cast : (p : _) (a : Expr) (t : TypeName) → view (Cast' p a t) ≡ cast (view a) (path_of t)
unfolding opened.out-Expr denote.Hole.Carrier.out
view_cast p a t = fold_out-Expr Tree view_layer (Cast' p a t)
