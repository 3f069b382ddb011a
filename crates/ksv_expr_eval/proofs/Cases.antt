-- What the meaning of an expression is at each form: its definition, clause by clause, over the trees that the code holds. A
-- proof that cites these needn't unfold the definition, which is long.
use Rattle.std.proofs.Common.{◌≡◌, ℕ, ◌<◌, ◌≤◌, ◌⊎◌, inl, inr, length, get_or, arith, List, [], ◌∷◌, map, if◌then◌else◌, refl, ap, sym, ◌∙◌, string_bytes, Box}
use Rattle.std.proofs.Common.{String, Vec, Global, box_value}
use mathlib.Core.Path.{fun_ext}
use Rattle.ksv_basics.specs.Plan.{Answer, Fail, Ask, bind}
use Rattle.ksv_expr_tree.specs.Tree.{Tree, arguments_of, call, view, view_layer, literal_of, name_of}
use Rattle.ksv_expr_tree.specs.declared.tree.Expr.{Expr, Unary', Binary', Logical', Choice', Field', SpecialField', Index', Cast'}
use Rattle.ksv_expr_tree.specs.declared.tree.Expr as opened
use Rattle.ksv_expr_tree.specs.declared.tree.Expr.TheVariants as exprs
use Rattle.ksv_expr_tree.specs.declared.tree.Expr.TheFolds.{fold_out-Expr, fold-roll-Expr}
use Rattle.ksv_expr_tree.specs.declared.tree.Expr.TheOpen.{Expr-F}
use Rattle.ksv_expr_tree.specs.declared.tree.Literal.{Literal}
use Rattle.ksv_expr_tree.specs.declared.tree.Name.{Name}
use Rattle.ksv_expr_tree.specs.declared.tree.Member.{Member}
use Rattle.ksv_expr_tree.specs.declared.tree.TypeName.{TypeName}
use Rattle.ksv_expr_tree.specs.declared.tree.UnaryOperator.{UnaryOperator}
use Rattle.ksv_expr_tree.specs.declared.tree.BinaryOperator.{BinaryOperator}
use Rattle.ksv_expr_tree.specs.declared.tree.LogicalOperator.{LogicalOperator}
use Rattle.ksv_expr_tree.specs.declared.tree.SpecialName.{SpecialName}
use Rattle.ksv_expr_value.specs.declared.fault.FaultKind.TheVariants as kinds
use Rattle.ksv_expr_value.specs.declared.value.Value.{Value}
use Rattle.ksv_expr_value.specs.declared.value.Value.TheVariants as values
use Rattle.ksv_expr_value.specs.Setting.{Setting}
use Rattle.ksv_expr_meaning.specs.Asked.{Eval, given, raise}
use Rattle.ksv_expr_meaning.specs.Operators.{unary_of}
use Rattle.ksv_expr_meaning.specs.Methods.{method_named}
use Rattle.ksv_expr_meaning.specs.Meaning.{value_of, meaning, literal_value, member_value, special_value, enum_member, binary_of, in_truth_value, truth_value}
use Rattle.ksv_expr_meaning.specs.Meaning.{decides, field_of, is_own_stream, special_of, call_one, call_two, item_at, cast_to}

-- a plan after two is one after both
bind_bind : {A B C : Type 0} (p : Eval A) (f : A → Eval B) (g : B → Eval C) → bind p (λ a. bind (f a) g) ≡ bind (bind p f) g
unfolding bind
bind_bind (Answer a) f g = refl
bind_bind (Fail e) f g = refl
bind_bind (Ask q k) f g = ap (Ask q) (fun_ext (λ r. bind_bind (k r) f g))

-- a call, by the plans of its object and its arguments
unfoldable pub calls : Eval Value → List ℕ → List (Eval Value) → Eval Value
calls o m [] = raise kinds.BadType
calls o m (x ∷ []) = bind o (λ v. bind x (λ a. call_one v (method_named m) a))
calls o m (x ∷ y ∷ []) = bind o (λ v. bind x (λ a. bind y (λ b. call_two v (method_named m) a b)))
calls o m (x ∷ y ∷ z ∷ more) = raise kinds.BadType

calls_of : (s : Setting) (e : Tree) (m : List ℕ) (items : List Expr)
    → value_of s (call e m (arguments_of (map view items))) ≡ calls (value_of s e) m (map (λ a. value_of s (view a)) items)
unfolding value_of calls
calls_of s e m [] = refl
calls_of s e m (a ∷ []) = refl
calls_of s e m (a ∷ b ∷ []) = refl
calls_of s e m (a ∷ b ∷ c ∷ more) = refl

module _ (s : Setting) where
  pub of_literal : (c : Literal) → meaning s (exprs.Literal c) ≡ Answer (literal_value (literal_of c))
  unfolding meaning value_of opened.out-Expr denote.Hole.Carrier.out
  of_literal c = ap (value_of s) (fold_out-Expr Tree view_layer (exprs.Literal c))

  pub of_name : (n : Name) → meaning s (exprs.Name n) ≡ member_value s.home n.number
  unfolding meaning value_of opened.out-Expr denote.Hole.Carrier.out
  of_name n = ap (value_of s) (fold_out-Expr Tree view_layer (exprs.Name n))

  pub of_special : (n : SpecialName) → meaning s (exprs.Special n) ≡ special_value s n
  unfolding meaning value_of opened.out-Expr denote.Hole.Carrier.out
  of_special n = ap (value_of s) (fold_out-Expr Tree view_layer (exprs.Special n))

  pub of_member : (m : Member) → meaning s (exprs.Member m) ≡ enum_member m.given
  unfolding meaning value_of opened.out-Expr denote.Hole.Carrier.out
  of_member m = ap (value_of s) (fold_out-Expr Tree view_layer (exprs.Member m))

  pub of_unary : (op : UnaryOperator) (p : _) (e : Expr) → meaning s (Unary' op p e) ≡ bind (meaning s e) (λ v. given (unary_of op v))
  unfolding meaning value_of opened.out-Expr denote.Hole.Carrier.out
  of_unary op p e = ap (value_of s) (fold_out-Expr Tree view_layer (Unary' op p e))

  pub of_binary : (op : BinaryOperator) (p q : _) (l r : Expr)
      → meaning s (Binary' op p l q r) ≡ bind (meaning s l) (λ v. bind (meaning s r) (λ w. binary_of op v w))
  unfolding meaning value_of opened.out-Expr denote.Hole.Carrier.out
  of_binary op p q l r = ap (value_of s) (fold_out-Expr Tree view_layer (Binary' op p l q r))

  logical_form : (op : LogicalOperator) (p q : _) (l r : Expr)
      → meaning s (Logical' op p l q r) ≡ bind (meaning s l)
      (λ v. bind (in_truth_value v) (λ b. if decides op b then Answer (values.Bool b) else bind (meaning s r) truth_value))
  unfolding meaning value_of opened.out-Expr denote.Hole.Carrier.out
  logical_form op p q l r = ap (value_of s) (fold_out-Expr Tree view_layer (Logical' op p l q r))

  pub of_logical : (op : LogicalOperator) (p q : _) (l r : Expr)
      → meaning s (Logical' op p l q r) ≡ bind (bind (meaning s l) in_truth_value)
      (λ b. if decides op b then Answer (values.Bool b) else bind (meaning s r) truth_value)
  of_logical op p q l r = logical_form op p q l r ∙ bind_bind (meaning s l) in_truth_value
      (λ b. if decides op b then Answer (values.Bool b) else bind (meaning s r) truth_value)

  choice_form : (p q t : _) (c y n : Expr) → meaning s (Choice' p c q y t n)
      ≡ bind (meaning s c) (λ v. bind (in_truth_value v) (λ b. if b then meaning s y else meaning s n))
  unfolding meaning value_of opened.out-Expr denote.Hole.Carrier.out
  choice_form p q t c y n = ap (value_of s) (fold_out-Expr Tree view_layer (Choice' p c q y t n))

  pub of_choice : (p q t : _) (c y n : Expr) → meaning s (Choice' p c q y t n)
      ≡ bind (bind (meaning s c) in_truth_value) (λ b. if b then meaning s y else meaning s n)
  of_choice p q t c y n = choice_form p q t c y n ∙ bind_bind (meaning s c) in_truth_value (λ b. if b then meaning s y else meaning s n)

  pub of_field : (p : _) (e : Expr) (n : Name) → meaning s (Field' p e n) ≡ bind (meaning s e) (λ v. field_of s (is_own_stream (view e)) v (name_of n))
  unfolding meaning value_of opened.out-Expr denote.Hole.Carrier.out
  of_field p e n = ap (value_of s) (fold_out-Expr Tree view_layer (Field' p e n))

  pub of_special_field : (p : _) (e : Expr) (n : SpecialName) → meaning s (SpecialField' p e n) ≡ bind (meaning s e) (λ v. special_of v n)
  unfolding meaning value_of opened.out-Expr denote.Hole.Carrier.out
  of_special_field p e n = ap (value_of s) (fold_out-Expr Tree view_layer (SpecialField' p e n))

  pub of_index : (p q : _) (e i : Expr) → meaning s (Index' p e q i) ≡ bind (meaning s e) (λ v. bind (meaning s i) (λ w. item_at v w))
  unfolding meaning value_of opened.out-Expr denote.Hole.Carrier.out
  of_index p q e i = ap (value_of s) (fold_out-Expr Tree view_layer (Index' p e q i))

  pub of_cast : (p : _) (e : Expr) (t : TypeName) → meaning s (Cast' p e t) ≡ bind (meaning s e) (λ v. cast_to v t.number)
  unfolding meaning value_of opened.out-Expr denote.Hole.Carrier.out
  of_cast p e t = ap (value_of s) (fold_out-Expr Tree view_layer (Cast' p e t))

  pub of_call : (a : Box Expr Global) (m : String Global) (es : Vec Expr Global)
      → meaning s (exprs.Call a m es) ≡ calls (meaning s (box_value a)) (string_bytes m) (map (meaning s) es.items)
  unfolding meaning value_of opened.out-Expr denote.Hole.Carrier.out
  of_call a m es = ap (value_of s) (ap view (sym (exprs.rolls-Call a m es)) ∙ fold-roll-Expr Tree view_layer (Expr-F.Call a m es))
      ∙ calls_of s (view (box_value a)) (string_bytes m) es.items

  -- a call, by how many arguments it has
  pub call_of_one : (e : Expr) (a : Box Expr Global) (m : String Global) (es : Vec Expr Global) (x : Expr) → e ≡ exprs.Call a m es → es.items ≡ x ∷ []
      → meaning s e ≡ bind (meaning s (box_value a)) (λ v. bind (meaning s x) (λ w. call_one v (method_named (string_bytes m)) w))
  unfolding calls
  call_of_one e a m es x h k = ap (meaning s) h ∙ of_call a m es ∙ ap (λ l. calls (meaning s (box_value a)) (string_bytes m) (map (meaning s) l)) k

  pub call_of_two : (e : Expr) (a : Box Expr Global) (m : String Global) (es : Vec Expr Global) (x y : Expr) → e ≡ exprs.Call a m es → es.items ≡ x ∷ y ∷ []
      → meaning s e ≡ bind (meaning s (box_value a)) (λ v. bind (meaning s x) (λ w. bind (meaning s y) (λ u. call_two v (method_named (string_bytes m)) w u)))
  unfolding calls
  call_of_two e a m es x y h k = ap (meaning s) h ∙ of_call a m es ∙ ap (λ l. calls (meaning s (box_value a)) (string_bytes m) (map (meaning s) l)) k

  pub call_of_other : (e : Expr) (a : Box Expr Global) (m : String Global) (es : Vec Expr Global) → e ≡ exprs.Call a m es
      → (length es.items ≡ 0) ⊎ (3 ≤ length es.items) → meaning s e ≡ raise kinds.BadType
  unfolding calls
  call_of_other e a m es h k = ap (meaning s) h ∙ of_call a m es ∙ calls_other (meaning s (box_value a)) (string_bytes m) es.items k
    where
      calls_other : (o : Eval Value) (m : List ℕ) (items : List Expr) → (length items ≡ 0) ⊎ (3 ≤ length items)
          → calls o m (map (meaning s) items) ≡ raise kinds.BadType
      calls_other o m [] k = refl
      calls_other o m (x ∷ []) (inl k) = absurd (omega arith)
      calls_other o m (x ∷ []) (inr k) = absurd (omega arith)
      calls_other o m (x ∷ y ∷ []) (inl k) = absurd (omega arith)
      calls_other o m (x ∷ y ∷ []) (inr k) = absurd (omega arith)
      calls_other o m (x ∷ y ∷ z ∷ more) k = refl

-- lists of one item and of two
pub is_one : {A : Type 0} (xs : List A) (x : A) → 1 ≤ length xs → length xs < 2 → x ≡ get_or xs 0 x → xs ≡ x ∷ []
is_one [] x low high e = absurd (omega arith)
is_one (y ∷ []) x low high e = ap (λ z. z ∷ []) (sym e)
is_one (y ∷ z ∷ xs) x low high e = absurd (omega arith)

pub is_two : {A : Type 0} (xs : List A) (x y : A) → 2 ≤ length xs → length xs < 3 → x ≡ get_or xs 0 x → y ≡ get_or xs 1 y → xs ≡ x ∷ y ∷ []
is_two [] x y low high e f = absurd (omega arith)
is_two (a ∷ []) x y low high e f = absurd (omega arith)
is_two (a ∷ b ∷ []) x y low high e f = ap (λ z. z ∷ b ∷ []) (sym e) ∙ ap (λ z. x ∷ z ∷ []) (sym f)
is_two (a ∷ b ∷ c ∷ xs) x y low high e f = absurd (omega arith)
