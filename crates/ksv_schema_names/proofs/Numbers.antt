-- An expression whose parts were given their numbers was given its own: what it is at each form.
use Rattle.ksv_schema_names.proofs.Common.{◌≡◌, ℕ, suc, ◌<◌, List, [], Option, ◌∷◌, map, length, get_or, refl, sym, ap, ◌∙◌, arith, Expr, view, path_of}
use Rattle.ksv_schema_names.proofs.Common.{Declared, numbered, numbered_word}
use Rattle.std.proofs.Common.{Box, Global, String, Vec}
use Rattle.std.specs.Vec.{with_items}
use Rattle.std.proofs.lemmas.List.{with_items_is}
use Rattle.ksv_expr_tree.specs.declared.tree.Expr.{Unary', Binary', Logical', Choice', Field', SpecialField', Index', Cast'}
use Rattle.ksv_expr_tree.specs.declared.tree.Expr.TheVariants as made
use Rattle.ksv_expr_tree.specs.declared.tree.Literal.{Literal}
use Rattle.ksv_expr_tree.specs.declared.tree.Name.{Name}
use Rattle.ksv_expr_tree.specs.declared.tree.TypeName.{TypeName}
use Rattle.ksv_expr_tree.specs.declared.tree.Member.{Member}
use Rattle.ksv_expr_tree.specs.declared.tree.SpecialName.{SpecialName}
use Rattle.ksv_expr_tree.specs.declared.tree.UnaryOperator.{UnaryOperator}
use Rattle.ksv_expr_tree.specs.declared.tree.BinaryOperator.{BinaryOperator}
use Rattle.ksv_expr_tree.specs.declared.tree.LogicalOperator.{LogicalOperator}
use Rattle.ksv_expr_tree.specs.declared.tree.EnumMember.{EnumMember}
use Rattle.ksv_expr_tree.specs.Tree.{MemberPath, name_of, member_of, arguments_of}
use Rattle.ksv_schema_names.specs.Numbered.{all_numbered, numbered_type, numbered_member, given_member}
use Rattle.ksv_desc.proofs.Views.{view_literal, view_name, view_special, view_member, view_unary, view_binary, view_logical, view_choice, view_field}
use Rattle.ksv_desc.proofs.Views.{view_special_field, view_call, view_index, view_cast}

-- a name, a type's name or a member that lay in the expression
pub piece : {A B : Type 0} (see : A → B) (f : B → B) (x y : A) → x ≡ y → (new : A) → see new ≡ f (see x) → see new ≡ f (see y)
piece {A = A} see f x y is new there = there ∙ ap (λ (z : A). f (see z)) is

abbrev with_given : MemberPath → Option EnumMember → MemberPath
with_given m g = record { path = m.path; name = m.name; given = g }

-- a member that was given what it stands for
pub given_is : (d : Declared) (n : ℕ) (m : MemberPath) (g : Option EnumMember) → g ≡ given_member d n m → with_given m g ≡ numbered_member d n m
given_is d n m g is = ap (with_given m) is

module _ (d : Declared) (s : List (List ℕ)) (n : ℕ) where
  -- a part that lay in a box
  pub part : (new now : Expr) (b b' : Box Expr Global) → view new ≡ numbered d s n (view now) → now ≡ b.value → b ≡ b'
      → view new ≡ numbered d s n (view b'.value)
  part new now b b' there lent is = there ∙ ap (λ (e : Expr). numbered d s n (view e)) (lent ∙ ap (λ (x : Box Expr Global). x.value) is)

  pub literal_numbered : (l : Literal) → view (made.Literal l) ≡ numbered d s n (view (made.Literal l))
  unfolding numbered
  literal_numbered l = rw (view_literal l)

  pub name_numbered : (v w : Name) → name_of w ≡ numbered_word s (name_of v) → view (made.Name w) ≡ numbered d s n (view (made.Name v))
  unfolding numbered
  name_numbered v w is = rw (view_name w, view_name v, is)

  pub special_numbered : (x : SpecialName) → view (made.Special x) ≡ numbered d s n (view (made.Special x))
  unfolding numbered
  special_numbered x = rw (view_special x)

  pub member_numbered : (v w : Member) → member_of w ≡ numbered_member d n (member_of v) → view (made.Member w) ≡ numbered d s n (view (made.Member v))
  unfolding numbered
  member_numbered v w is = rw (view_member w, view_member v, is)

  pub unary_numbered : (op : UnaryOperator) (p p' : _) (a a' : Expr) → view a' ≡ numbered d s n (view a)
      → view (Unary' op p' a') ≡ numbered d s n (view (Unary' op p a))
  unfolding numbered
  unary_numbered op p p' a a' is = rw (view_unary op p' a', view_unary op p a, is)

  pub binary_numbered : (op : BinaryOperator) (p q p' q' : _) (a b a' b' : Expr) → view a' ≡ numbered d s n (view a) → view b' ≡ numbered d s n (view b)
      → view (Binary' op p' a' q' b') ≡ numbered d s n (view (Binary' op p a q b))
  unfolding numbered
  binary_numbered op p q p' q' a b a' b' left right = rw (view_binary op p' q' a' b', view_binary op p q a b, left, right)

  pub logical_numbered : (op : LogicalOperator) (p q p' q' : _) (a b a' b' : Expr) → view a' ≡ numbered d s n (view a) → view b' ≡ numbered d s n (view b)
      → view (Logical' op p' a' q' b') ≡ numbered d s n (view (Logical' op p a q b))
  unfolding numbered
  logical_numbered op p q p' q' a b a' b' left right = rw (view_logical op p' q' a' b', view_logical op p q a b, left, right)

  pub choice_numbered : (p q r p' q' r' : _) (a b c a' b' c' : Expr) → view a' ≡ numbered d s n (view a) → view b' ≡ numbered d s n (view b)
      → view c' ≡ numbered d s n (view c) → view (Choice' p' a' q' b' r' c') ≡ numbered d s n (view (Choice' p a q b r c))
  unfolding numbered
  choice_numbered p q r p' q' r' a b c a' b' c' first second third = rw (view_choice p' q' r' a' b' c', view_choice p q r a b c, first, second, third)

  pub field_numbered : (p p' : _) (a a' : Expr) (v w : Name) → view a' ≡ numbered d s n (view a) → name_of w ≡ numbered_word s (name_of v)
      → view (Field' p' a' w) ≡ numbered d s n (view (Field' p a v))
  unfolding numbered
  field_numbered p p' a a' v w object is = rw (view_field p' a' w, view_field p a v, object, is)

  pub special_field_numbered : (p p' : _) (a a' : Expr) (x : SpecialName) → view a' ≡ numbered d s n (view a)
      → view (SpecialField' p' a' x) ≡ numbered d s n (view (SpecialField' p a x))
  unfolding numbered
  special_field_numbered p p' a a' x object = rw (view_special_field p' a' x, view_special_field p a x, object)

  pub call_numbered : (e : Expr) (a a' : Box Expr Global) (m m' : String Global) (es es' : Vec Expr Global) → e ≡ made.Call a m es → m' ≡ m
      → view a'.value ≡ numbered d s n (view a.value) → arguments_of (map view es'.items) ≡ all_numbered d s n (arguments_of (map view es.items))
      → view (made.Call a' m' es') ≡ numbered d s n (view e)
  unfolding numbered
  call_numbered e a a' m m' es es' is same object all = rw (view_call a' m' es', is, view_call a m es, same, object, all)

  pub index_numbered : (p q p' q' : _) (a b a' b' : Expr) → view a' ≡ numbered d s n (view a) → view b' ≡ numbered d s n (view b)
      → view (Index' p' a' q' b') ≡ numbered d s n (view (Index' p a q b))
  unfolding numbered
  index_numbered p q p' q' a b a' b' left right = rw (view_index p' q' a' b', view_index p q a b, left, right)

  pub cast_numbered : (p p' : _) (a a' : Expr) (t t' : TypeName) → view a' ≡ numbered d s n (view a) → path_of t' ≡ numbered_type d n (path_of t)
      → view (Cast' p' a' t') ≡ numbered d s n (view (Cast' p a t))
  unfolding numbered
  cast_numbered p p' a a' t t' object is = rw (view_cast p' a' t', view_cast p a t, object, is)

  -- arguments each of which was given its numbers
  pub each_numbered : (xs ys : List Expr) → length xs ≡ length ys
      → ((k : ℕ) (z : Expr) → k < length ys → view (get_or xs k z) ≡ numbered d s n (view (get_or ys k z)))
      → arguments_of (map view xs) ≡ all_numbered d s n (arguments_of (map view ys))
  unfolding numbered
  each_numbered [] [] same each = refl
  each_numbered (x ∷ xs) (y ∷ ys) same each =
      rw (each 0 x (omega arith), each_numbered xs ys (omega arith) (λ k z below. each (suc k) z (omega arith)))
  each_numbered _ _ same each = absurd (omega arith)

  -- the same of arguments in a vector v, which are written over
  pub refilled : (xs ws : List Expr) (v es : Vec Expr Global) → xs ≡ v.items → v ≡ es → length ws ≡ length xs
      → arguments_of (map view ws) ≡ all_numbered d s n (arguments_of (map view xs))
      → arguments_of (map view (with_items v ws).items) ≡ all_numbered d s n (arguments_of (map view es.items))
  refilled xs ws v es lent is same all =
      let long : length ws ≡ v.len = same ∙ ap length lent ∙ sym v.ok.0 in
      ap (λ (l : List Expr). arguments_of (map view l)) (with_items_is v ws long) ∙ all
      ∙ ap (λ (l : List Expr). all_numbered d s n (arguments_of (map view l))) (lent ∙ ap (λ (u : Vec Expr Global). u.items) is)
