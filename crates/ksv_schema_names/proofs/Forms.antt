-- The faults of an expression, form by form.
use Rattle.ksv_schema_names.proofs.Common.{◌≡◌, ℕ, suc, List, [], ◌∷◌, ◌++◌, map, length, Option, refl, sym, ap, ◌∙◌, is_none, flat_map, Expr, Tree, view}
use Rattle.ksv_schema_names.proofs.Common.{path_of, Declared, NameFault, Unknown, Other, part_faults, least}
use Rattle.std.proofs.Common.{not, string_bytes, Box, Global, String, Vec}
use Rattle.ksv_expr_tree.specs.declared.tree.Expr.{Unary', Binary', Logical', Choice', Field', SpecialField', Index', Cast'}
use Rattle.ksv_expr_tree.specs.declared.tree.Expr.TheVariants as made
use Rattle.ksv_expr_tree.specs.declared.tree.Literal.{Literal}
use Rattle.ksv_expr_tree.specs.declared.tree.Name.{Name}
use Rattle.ksv_expr_tree.specs.declared.tree.TypeName.{TypeName}
use Rattle.ksv_expr_tree.specs.declared.tree.Member.{Member}
use Rattle.ksv_expr_tree.specs.declared.tree.SpecialName.{SpecialName}
use Rattle.ksv_expr_tree.specs.declared.tree.UnaryOperator.{UnaryOperator}
use Rattle.ksv_expr_tree.specs.declared.tree.BinaryOperator.{BinaryOperator}
use Rattle.ksv_expr_tree.specs.declared.tree.LogicalOperator.{LogicalOperator}
use Rattle.ksv_expr_tree.specs.Tree.{member_of, arguments_of}
use Rattle.ksv_schema_names.specs.Members.{member_named}
use Rattle.ksv_schema_names.specs.declared.position.Position.{Position}
use Rattle.ksv_schema_names.specs.Names.{Behind, Dot, list_faults, wrong_if, special_faults, special_field_faults, is_member, cast_faults, is_call}
use Rattle.ksv_desc.specs.Resolved.{count}
use Rattle.ksv_schema_names.specs.Code.{faults_at}
use Rattle.ksv_schema_names.proofs.Noted.{least_then}
use Rattle.ksv_desc.proofs.Views.{view_literal, view_name, view_special, view_member, view_unary, view_binary, view_logical, view_choice, view_field}
use Rattle.ksv_desc.proofs.Views.{view_special_field, view_call, view_index, view_cast}

-- the faults of arguments, one after the other
pub list_flat : (d : Declared) (n : ℕ) (p : Position) (ts : List Tree) → list_faults d n p (arguments_of ts) ≡ flat_map (part_faults d n p Other) ts
unfolding part_faults
list_flat d n p [] = refl
list_flat d n p (t ∷ ts) = ap (λ (ks : List NameFault). part_faults d n p Other t ++ ks) (list_flat d n p ts)

pub count_map : (es : List Expr) → count (arguments_of (map view es)) ≡ length es
count_map [] = refl
count_map (e ∷ es) = ap suc (count_map es)

module _ (d : Declared) (n : ℕ) (p : Position) (b : Behind) where
  pub of_literal : (c : Literal) → faults_at d n p b (made.Literal c) ≡ []
  unfolding faults_at part_faults
  of_literal c = ap (part_faults d n p b) (view_literal c)

  pub of_name : (w : Name) → faults_at d n p b (made.Name w) ≡ wrong_if (is_none (member_named d.types n (string_bytes w.text))) Unknown
  unfolding faults_at part_faults
  of_name w = ap (part_faults d n p b) (view_name w)

  pub of_special : (s : SpecialName) → faults_at d n p b (made.Special s) ≡ special_faults p b s
  unfolding faults_at part_faults
  of_special s = ap (part_faults d n p b) (view_special s)

  pub of_member : (m : Member) → faults_at d n p b (made.Member m) ≡ wrong_if (not (is_member d n (member_of m))) Unknown
  unfolding faults_at part_faults
  of_member m = ap (part_faults d n p b) (view_member m)

  pub of_unary : (op : UnaryOperator) (q : _) (e : Expr) → faults_at d n p b (Unary' op q e) ≡ faults_at d n p Other e
  unfolding faults_at part_faults
  of_unary op q e = ap (part_faults d n p b) (view_unary op q e)

  pub of_binary : (op : BinaryOperator) (q r : _) (e f : Expr) → faults_at d n p b (Binary' op q e r f) ≡ faults_at d n p Other e ++ faults_at d n p Other f
  unfolding faults_at part_faults
  of_binary op q r e f = ap (part_faults d n p b) (view_binary op q r e f)

  pub of_logical : (op : LogicalOperator) (q r : _) (e f : Expr) → faults_at d n p b (Logical' op q e r f) ≡ faults_at d n p Other e ++ faults_at d n p Other f
  unfolding faults_at part_faults
  of_logical op q r e f = ap (part_faults d n p b) (view_logical op q r e f)

  pub of_choice : (q r s : _) (e f g : Expr) → faults_at d n p b (Choice' q e r f s g) ≡ faults_at d n p Other e ++ faults_at d n p Other f
      ++ faults_at d n p Other g
  unfolding faults_at part_faults
  of_choice q r s e f g = ap (part_faults d n p b) (view_choice q r s e f g)

  pub of_field : (q : _) (e : Expr) (w : Name) → faults_at d n p b (Field' q e w) ≡ faults_at d n p (Dot (string_bytes w.text)) e
  unfolding faults_at part_faults
  of_field q e w = ap (part_faults d n p b) (view_field q e w)

  pub of_special_field : (q : _) (e : Expr) (s : SpecialName) → faults_at d n p b (SpecialField' q e s) ≡ faults_at d n p Other e ++ special_field_faults p b s
  unfolding faults_at part_faults
  of_special_field q e s = ap (part_faults d n p b) (view_special_field q e s)

  pub of_call : (a : Box Expr Global) (m : String Global) (es : Vec Expr Global)
      → faults_at d n p b (made.Call a m es) ≡ wrong_if (not (is_call (string_bytes m) (length es.items))) Unknown ++ faults_at d n p Other a.value
      ++ list_faults d n p (arguments_of (map view es.items))
  unfolding faults_at part_faults
  of_call a m es =
      ap (part_faults d n p b) (view_call a m es)
      ∙ ap (λ (k : ℕ). wrong_if (not (is_call (string_bytes m) k)) Unknown ++ faults_at d n p Other a.value
      ++ list_faults d n p (arguments_of (map view es.items))) (count_map es.items)

  -- a call whose parts were noted one after the other
  pub noted_call : (o x y z : Option NameFault) (e : Expr) (a : Box Expr Global) (m : String Global) (es : Vec Expr Global) → e ≡ made.Call a m es
      → x ≡ least o (wrong_if (not (is_call (string_bytes m) (length es.items))) Unknown) → y ≡ least x (faults_at d n p Other a.value)
      → z ≡ least y (list_faults d n p (arguments_of (map view es.items))) → z ≡ least o (faults_at d n p b e)
  noted_call o x y z e a m es is named object all =
      least_then o y z _ _ (least_then o x y _ _ named object) all ∙ sym (ap (λ (f : Expr). least o (faults_at d n p b f)) is ∙ ap (least o) (of_call a m es))

  pub of_index : (q r : _) (e f : Expr) → faults_at d n p b (Index' q e r f) ≡ faults_at d n p Other e ++ faults_at d n p Other f
  unfolding faults_at part_faults
  of_index q r e f = ap (part_faults d n p b) (view_index q r e f)

  pub of_cast : (q : _) (e : Expr) (t : TypeName) → faults_at d n p b (Cast' q e t) ≡ faults_at d n p Other e ++ cast_faults d n (path_of t)
  unfolding faults_at part_faults
  of_cast q e t = ap (part_faults d n p b) (view_cast q e t)
