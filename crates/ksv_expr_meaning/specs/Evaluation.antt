-- The value of an expression: over any map from wants to answers, and resumed from replies. The first doesn't use replies.
use Rattle.std.specs.Prelude.{◌≡◌, ℕ, ◌+◌, ◌≤◌, ◌<◌, List, ◌++◌, length, map, take, slice_get, Some, Result, Ok, Err, if◌then◌else◌}
use Rattle.ksv_basics.specs.Plan.{Ran, Need, Failed, Done, run}
use Rattle.ksv_basics.specs.Asking.{and_then, answer_of, asks_of}
use Rattle.ksv_expr_tree.specs.Tree.{Tree, Constant, Word, TypePath, MemberPath, no_arguments, argument, literal, named, special, member, unary, binary, logical, choice, field, special_field, call, index, cast}
use Rattle.ksv_expr_tree.specs.declared.tree.UnaryOperator.{UnaryOperator}
use Rattle.ksv_expr_tree.specs.declared.tree.BinaryOperator.{BinaryOperator}
use Rattle.ksv_expr_tree.specs.declared.tree.LogicalOperator.{LogicalOperator}
use Rattle.ksv_expr_tree.specs.declared.tree.SpecialName.{SpecialName}
use Rattle.ksv_expr_value.specs.declared.fault.Fault.{Fault}
use Rattle.ksv_expr_value.specs.declared.value.Value.{Value}
use Rattle.ksv_expr_value.specs.declared.value.Value.TheVariants as values
use Rattle.ksv_expr_meaning.specs.declared.want.Want.{Want}
use Rattle.ksv_expr_meaning.specs.declared.want.EvalStep.{EvalStep}
use Rattle.ksv_expr_meaning.specs.declared.want.EvalStep.TheVariants as outcomes
use Rattle.ksv_expr_meaning.specs.Methods.{method_named}
use Rattle.ksv_expr_meaning.specs.Operators.{unary_of}
use Rattle.ksv_expr_meaning.specs.Heard.{Heard}
use Rattle.ksv_expr_value.specs.Setting.{Setting}
use Rattle.ksv_expr_meaning.specs.Asked.{Eval, State, given}
use Rattle.ksv_expr_meaning.specs.Replying.{fault_at, replying}
use Rattle.ksv_expr_meaning.specs.Meaning.{value_of, literal_value, member_value, special_value, enum_member, in_truth_value, truth_value, decides, binary_of, field_of, is_own_stream, special_of, call_one, call_two, item_at, cast_to}

-- ---- over a map from wants to answers

-- what a plan of an expression answers where the map answers each want
abbrev pub answer : {A : Type 0} → (Want → Result Heard Fault) → Setting → Eval A → Result A Fault
answer met s p = answer_of (fault_at s.here) met p

-- the value of an expression
abbrev pub Ev : (Want → Result Heard Fault) → Setting → Tree → Result Value Fault
Ev met s e = answer met s (value_of s e)

-- the wants of the expression there, in order
abbrev pub wants_made : (Want → Result Heard Fault) → Setting → Tree → List Want
wants_made met s e = asks_of met (value_of s e)

-- ---- resumed from replies

-- an evaluation with these replies
abbrev pub resumed : Setting → Tree → List (Result Heard Fault) → Ran Want Fault State Value
resumed s e replies = run replying (value_of s e) (record { here = s.here; replies = replies })

-- its result
abbrev pub outcome_of : Ran Want Fault State Value → EvalStep
outcome_of (Need w s) = outcomes.Need w
outcome_of (Failed f s) = outcomes.Done (Err f)
outcome_of (Done v s) = outcomes.Done (Ok v)

-- it asks no further question
abbrev pub IsDone : EvalStep → Type 0
IsDone (outcomes.Need w) = ⊥
IsDone (outcomes.Done r) = Unit {0}

-- How many wants an expression has at most, whatever the replies are.
unfoldable pub most_wants : Tree → ℕ
most_wants (literal c) = 0
most_wants (named n) = 1
most_wants (special n) = 1
most_wants (member m) = 0
most_wants (unary op e) = most_wants e
most_wants (binary op l r) = most_wants l + (most_wants r + 2)
most_wants (logical op l r) = most_wants l + most_wants r
most_wants (choice c y n) = most_wants c + (most_wants y + most_wants n)
most_wants (field e n) = most_wants e + 2
most_wants (special_field e n) = most_wants e + 1
most_wants (call e m (argument a no_arguments)) = most_wants e + (most_wants a + 1)
most_wants (call e m (argument a (argument b no_arguments))) = most_wants e + (most_wants a + most_wants b)
most_wants (call e m _) = 0
most_wants (index e i) = most_wants e + (most_wants i + 1)
most_wants (cast e t) = most_wants e + 1

-- ---- laws

-- If the replies are the map's answers, the evaluation asks for what the expression wants, one want after the
-- other, and ends with the expression's value. Further replies change nothing.
pub record MeetsTruth (met : Want → Result Heard Fault) (s : Setting) (e : Tree) : Type 0 where
  pub ends : (more : List (Result Heard Fault)) → outcome_of (resumed s e (map met (wants_made met s e) ++ more)) ≡ outcomes.Done (Ev met s e)
  pub goes_on : (i : ℕ) → i < length (wants_made met s e) → (w : Want) × (slice_get (wants_made met s e) i ≡ Some w) × (outcome_of (resumed s e (map met (take i (wants_made met s e)))) ≡ outcomes.Need w)

abbrev pub TruthIsMet : Type 0
TruthIsMet = (met : Want → Result Heard Fault) (s : Setting) (e : Tree) → MeetsTruth met s e

-- The evaluation has an end: with as many replies as the expression can want, true or not, it asks for nothing more.
abbrev pub IsBounded : Type 0
IsBounded = (s : Setting) (e : Tree) (replies : List (Result Heard Fault)) → most_wants e ≤ length replies → IsDone (outcome_of (resumed s e replies))

-- The value of an expression by direct recursion on its form: first the values of its parts, and then the result of
-- the form.
pub record IsDirect (met : Want → Result Heard Fault) (s : Setting) : Type 0 where
  pub of_literal : (c : Constant) → Ev met s (literal c) ≡ Ok (literal_value c)
  pub of_name : (n : Word) → Ev met s (named n) ≡ answer met s (member_value s.home n.number)
  pub of_special : (n : SpecialName) → Ev met s (special n) ≡ answer met s (special_value s n)
  pub of_member : (m : MemberPath) → Ev met s (member m) ≡ answer met s (enum_member m.given)
  pub of_unary : (op : UnaryOperator) (e : Tree) → Ev met s (unary op e) ≡ and_then (Ev met s e) (λ v. answer met s (given (unary_of op v)))
  pub of_binary : (op : BinaryOperator) (l r : Tree) → Ev met s (binary op l r) ≡ and_then (Ev met s l) (λ v. and_then (Ev met s r) (λ w. answer met s (binary_of op v w)))
  pub of_logical : (op : LogicalOperator) (l r : Tree) → Ev met s (logical op l r) ≡ and_then (Ev met s l) (λ v. and_then (answer met s (in_truth_value v)) (λ b. if decides op b then Ok (values.Bool b) else and_then (Ev met s r) (λ w. answer met s (truth_value w))))
  pub of_choice : (c y n : Tree) → Ev met s (choice c y n) ≡ and_then (Ev met s c) (λ v. and_then (answer met s (in_truth_value v)) (λ b. if b then Ev met s y else Ev met s n))
  pub of_field : (e : Tree) (n : Word) → Ev met s (field e n) ≡ and_then (Ev met s e) (λ v. answer met s (field_of s (is_own_stream e) v n))
  pub of_special_field : (e : Tree) (n : SpecialName) → Ev met s (special_field e n) ≡ and_then (Ev met s e) (λ v. answer met s (special_of v n))
  pub of_call_one : (e a : Tree) (m : List ℕ) → Ev met s (call e m (argument a no_arguments)) ≡ and_then (Ev met s e) (λ v. and_then (Ev met s a) (λ x. answer met s (call_one v (method_named m) x)))
  pub of_call_two : (e a b : Tree) (m : List ℕ) → Ev met s (call e m (argument a (argument b no_arguments))) ≡ and_then (Ev met s e) (λ v. and_then (Ev met s a) (λ x. and_then (Ev met s b) (λ y. answer met s (call_two v (method_named m) x y))))
  pub of_index : (e i : Tree) → Ev met s (index e i) ≡ and_then (Ev met s e) (λ v. and_then (Ev met s i) (λ w. answer met s (item_at v w)))
  pub of_cast : (e : Tree) (t : TypePath) → Ev met s (cast e t) ≡ and_then (Ev met s e) (λ v. answer met s (cast_to v t.number))

abbrev pub MeaningIsDirect : Type 0
MeaningIsDirect = (met : Want → Result Heard Fault) (s : Setting) → IsDirect met s
