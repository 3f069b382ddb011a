-- The names after the dots of an expression, form by form, and how they come into a table.
use Rattle.std.proofs.Common.{◌≡◌, ℕ, suc, ◌+◌, ◌<◌, ◌≤◌, List, [], ◌∷◌, ◌++◌, if◌then◌else◌, map, length, get_or, drop, refl, sym, ap, ◌∙◌, add-one, drop-cons}
use Rattle.std.proofs.Common.{string_bytes, Box, Global, String, Vec}
use Rattle.std.specs.List.{flat_map, list_any}
use Rattle.std.specs.Str.{bytes_eq}
use Rattle.std.proofs.lemmas.List.{drop_all}
use Rattle.ksv_expr_tree.specs.declared.tree.Expr.{Expr, Unary', Binary', Logical', Choice', Field', SpecialField', Index', Cast'}
use Rattle.ksv_expr_tree.specs.declared.tree.Expr.TheVariants as made
use Rattle.ksv_expr_tree.specs.declared.tree.Literal.{Literal}
use Rattle.ksv_expr_tree.specs.declared.tree.Name.{Name}
use Rattle.ksv_expr_tree.specs.declared.tree.TypeName.{TypeName}
use Rattle.ksv_expr_tree.specs.declared.tree.Member.{Member}
use Rattle.ksv_expr_tree.specs.declared.tree.SpecialName.{SpecialName}
use Rattle.ksv_expr_tree.specs.declared.tree.UnaryOperator.{UnaryOperator}
use Rattle.ksv_expr_tree.specs.declared.tree.BinaryOperator.{BinaryOperator}
use Rattle.ksv_expr_tree.specs.declared.tree.LogicalOperator.{LogicalOperator}
use Rattle.ksv_expr_tree.specs.Tree.{Tree, view, arguments_of}
use Rattle.ksv_desc.specs.Names.{distinct_behind, dotted, all_dotted}
use Rattle.ksv_desc.specs.Code.{dotted_in}
use Rattle.ksv_desc.proofs.Views.{view_literal, view_name, view_special, view_member, view_unary, view_binary, view_logical, view_choice, view_field}
use Rattle.ksv_desc.proofs.Views.{view_special_field, view_call, view_index, view_cast}

pub dotted_literal : (c : Literal) → dotted_in (made.Literal c) ≡ []
unfolding dotted_in dotted
dotted_literal c = ap dotted (view_literal c)

pub dotted_name : (w : Name) → dotted_in (made.Name w) ≡ []
unfolding dotted_in dotted
dotted_name w = ap dotted (view_name w)

pub dotted_special : (s : SpecialName) → dotted_in (made.Special s) ≡ []
unfolding dotted_in dotted
dotted_special s = ap dotted (view_special s)

pub dotted_member : (m : Member) → dotted_in (made.Member m) ≡ []
unfolding dotted_in dotted
dotted_member m = ap dotted (view_member m)

pub ruleset leaves = (dotted_literal, dotted_name, dotted_special, dotted_member)

pub dotted_unary : (op : UnaryOperator) (q : _) (e : Expr) → dotted_in (Unary' op q e) ≡ dotted_in e
unfolding dotted_in dotted
dotted_unary op q e = ap dotted (view_unary op q e)

pub dotted_binary : (op : BinaryOperator) (q r : _) (e f : Expr) → dotted_in (Binary' op q e r f) ≡ dotted_in e ++ dotted_in f
unfolding dotted_in dotted
dotted_binary op q r e f = ap dotted (view_binary op q r e f)

pub dotted_logical : (op : LogicalOperator) (q r : _) (e f : Expr) → dotted_in (Logical' op q e r f) ≡ dotted_in e ++ dotted_in f
unfolding dotted_in dotted
dotted_logical op q r e f = ap dotted (view_logical op q r e f)

pub dotted_choice : (q r s : _) (e f g : Expr) → dotted_in (Choice' q e r f s g) ≡ dotted_in e ++ dotted_in f ++ dotted_in g
unfolding dotted_in dotted
dotted_choice q r s e f g = ap dotted (view_choice q r s e f g)

pub dotted_field : (q : _) (e : Expr) (w : Name) → dotted_in (Field' q e w) ≡ dotted_in e ++ string_bytes w.text ∷ []
unfolding dotted_in dotted
dotted_field q e w = ap dotted (view_field q e w)

pub dotted_special_field : (q : _) (e : Expr) (s : SpecialName) → dotted_in (SpecialField' q e s) ≡ dotted_in e
unfolding dotted_in dotted
dotted_special_field q e s = ap dotted (view_special_field q e s)

pub dotted_index : (q r : _) (e f : Expr) → dotted_in (Index' q e r f) ≡ dotted_in e ++ dotted_in f
unfolding dotted_in dotted
dotted_index q r e f = ap dotted (view_index q r e f)

pub dotted_cast : (q : _) (e : Expr) (t : TypeName) → dotted_in (Cast' q e t) ≡ dotted_in e
unfolding dotted_in dotted
dotted_cast q e t = ap dotted (view_cast q e t)

pub dotted_call : (a : Box Expr Global) (m : String Global) (es : Vec Expr Global)
    → dotted_in (made.Call a m es) ≡ dotted_in a.value ++ all_dotted (arguments_of (map view es.items))
unfolding dotted_in dotted
dotted_call a m es = ap dotted (view_call a m es)

pub all_flat : (ts : List Tree) → all_dotted (arguments_of ts) ≡ flat_map dotted ts
unfolding dotted
all_flat [] = refl
all_flat (t ∷ ts) = ap (λ (l : List (List ℕ)). dotted t ++ l) (all_flat ts)

-- ---- names added one after the other

pub distinct_none : (o : List (List ℕ)) → distinct_behind o [] ≡ o
distinct_none o = refl

pub distinct_append : (o xs ys : List (List ℕ)) → distinct_behind o (xs ++ ys) ≡ distinct_behind (distinct_behind o xs) ys
distinct_append o [] ys = refl
distinct_append o (x ∷ xs) ys = distinct_append (if list_any (bytes_eq x) o then o else o ++ x ∷ []) xs ys

pub ruleset steps = (distinct_none, distinct_append)

module _ {X A : Type 0} (see : X → A) (f : A → List (List ℕ)) (xs : List X) where
  pub distinct_step : (i : ℕ) (x : X) (o p q : List (List ℕ)) → i < length xs → x ≡ get_or xs i x → p ≡ distinct_behind o (f (see x))
      → distinct_behind o (flat_map f (map see (drop i xs))) ≡ q → distinct_behind p (flat_map f (map see (drop (i + 1) xs))) ≡ q
  distinct_step i x o p q lt is new now =
      ap (λ (j : ℕ). distinct_behind p (flat_map f (map see (drop j xs)))) (add-one i)
      ∙ ap (λ (p : List (List ℕ)). distinct_behind p (flat_map f (map see (drop (suc i) xs)))) (new ∙ ap (λ (y : X). distinct_behind o (f (see y))) is)
      ∙ sym (distinct_append o (f (see (get_or xs i x))) (flat_map f (map see (drop (suc i) xs))))
      ∙ sym (ap (λ (ys : List X). distinct_behind o (flat_map f (map see ys))) (drop-cons xs i x lt)) ∙ now

  pub distinct_end : (i : ℕ) (o q : List (List ℕ)) → length xs ≤ i → distinct_behind o (flat_map f (map see (drop i xs))) ≡ q → o ≡ q
  distinct_end i o q le now = ap (λ (ys : List X). distinct_behind o (flat_map f (map see ys))) (sym (drop_all i xs le)) ∙ now

-- a call whose names were added one after the other
pub added_call : (o p q : List (List ℕ)) (e : Expr) (a : Box Expr Global) (m : String Global) (es : Vec Expr Global) → e ≡ made.Call a m es
    → p ≡ distinct_behind o (dotted_in a.value) → q ≡ distinct_behind p (all_dotted (arguments_of (map view es.items))) → q ≡ distinct_behind o (dotted_in e)
added_call o p q e a m es is first all =
    all ∙ ap (λ (x : List (List ℕ)). distinct_behind x (all_dotted (arguments_of (map view es.items)))) first
    ∙ sym (ap (λ (f : Expr). distinct_behind o (dotted_in f)) is ∙ ap (distinct_behind o) (dotted_call a m es)
    ∙ distinct_append o (dotted_in a.value) (all_dotted (arguments_of (map view es.items))))
