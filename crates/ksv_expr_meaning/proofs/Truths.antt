-- The laws of evaluation.
use Rattle.std.proofs.Common.{◌≡◌, ◌≤◌, List, length, map, Bool, true, false, if◌then◌else◌, Result, Ok, Err, IfOk, arith, subst, refl, sym, ap, ◌∙◌}
use Rattle.std.proofs.lemmas.List.{length-map}
use Rattle.ksv_basics.specs.Plan.{Answer, bind, Ran, Need, Failed, Done, IsEnded}
use Rattle.ksv_basics.specs.Asking.{and_then, ended}
use Rattle.ksv_basics.proofs.Truth.{answer_bind, ends, needs}
use Rattle.ksv_basics.proofs.Bounds.{enough}
use Rattle.ksv_expr_tree.specs.Tree.{Tree}
use Rattle.ksv_expr_value.specs.declared.fault.Fault.{Fault}
use Rattle.ksv_expr_value.specs.declared.value.Value.{Value}
use Rattle.ksv_expr_value.specs.declared.value.Value.TheVariants as values
use Rattle.ksv_expr_meaning.specs.declared.want.Want.{Want}
use Rattle.ksv_expr_meaning.specs.declared.want.Got.{Got}
use Rattle.ksv_expr_meaning.specs.declared.want.EvalStep.{EvalStep}
use Rattle.ksv_expr_meaning.specs.declared.want.EvalStep.TheVariants as outcomes
use Rattle.ksv_expr_meaning.specs.Methods.{method_named}
use Rattle.ksv_expr_meaning.specs.Operators.{unary_of}
use Rattle.ksv_expr_meaning.specs.Heard.{Heard, heard}
use Rattle.ksv_expr_value.specs.Setting.{Setting}
use Rattle.ksv_expr_meaning.specs.Asked.{Eval, State, given}
use Rattle.ksv_expr_meaning.specs.Replying.{fault_at}
use Rattle.ksv_expr_meaning.specs.Meaning.{value_of, in_truth_value, truth_value, decides, binary_of, field_of, is_own_stream, special_of, call_one, call_two}
use Rattle.ksv_expr_meaning.specs.Meaning.{item_at, cast_to}
use Rattle.ksv_expr_meaning.specs.Evaluation.{answer, Ev, resumed, outcome_of, IsDone, most_wants, TruthIsMet, IsBounded, IsDirect, MeaningIsDirect}
use Rattle.ksv_expr_meaning.proofs.Wants.{value_asks}

-- ---- truth

ended_outcome : (r : Result Value Fault) (s : State) → outcome_of (ended r s) ≡ outcomes.Done r
ended_outcome (Ok v) s = refl
ended_outcome (Err f) s = refl

pub truth_is_met : TruthIsMet
truth_is_met met s e = record {
  ends = λ more. ap outcome_of (ends fault_at s.here met (value_of s e) more) ∙ ended_outcome (Ev met s e) _;
  goes_on = λ i h. let n = needs fault_at s.here met (value_of s e) i h in (n.question, n.is_next, ap outcome_of n.ran);
}

-- ---- the bound

done_of : (r : Ran Want Fault State Value) → IsEnded r → IsDone (outcome_of r)
done_of (Need w s) h = h
done_of (Failed f s) h = tt
done_of (Done v s) h = tt

pub is_bounded : IsBounded
is_bounded s e replies h = done_of (resumed s e replies) (enough fault_at (most_wants e) (value_of s e) s.here replies (value_asks s e) h)

-- so an outcome ends where there are enough replies
pub bounded_outcome : {X : Type 0} (s : Setting) (e : Tree) (replies : List Got) (r : Result EvalStep X)
    → IfOk r (λ o. o ≡ outcome_of (resumed s e (map heard replies))) → IfOk r (λ o. most_wants e ≤ length replies → IsDone o)
bounded_outcome s e replies (Ok o) h = λ few. subst IsDone (sym h) (is_bounded s e (map heard replies) (omega (arith, length-map replies heard)))
bounded_outcome s e replies (Err x) h = tt

-- ---- direct recursion

same_then : {A B : Type 0} (r : Result A Fault) (f g : A → Result B Fault) → ((a : A) → f a ≡ g a) → and_then r f ≡ and_then r g
same_then (Ok a) f g same = same a
same_then (Err e) f g same = refl

module _ (met : Want → Result Heard Fault) (s : Setting) where
  bound : {A B : Type 0} (p : Eval A) (f : A → Eval B) → answer met s (bind p f) ≡ and_then (answer met s p) (λ a. answer met s (f a))
  bound p f = answer_bind fault_at s.here met p f

  bound_twice : {A B C : Type 0} (p : Eval A) (q : A → Eval B) (f : A → B → Eval C)
      → answer met s (bind p (λ a. bind (q a) (λ b. f a b))) ≡ and_then (answer met s p) (λ a. and_then (answer met s (q a)) (λ b. answer met s (f a b)))
  bound_twice p q f = bound p (λ a. bind (q a) (λ b. f a b))
      ∙ same_then (answer met s p) (λ a. answer met s (bind (q a) (λ b. f a b))) (λ a. and_then (answer met s (q a)) (λ b. answer met s (f a b)))
      (λ a. bound (q a) (λ b. f a b))

  decided : (b : Bool) (v : Value) (r : Tree) → answer met s (if b then Answer v else bind (value_of s r) truth_value)
      ≡ (if b then Ok v else and_then (Ev met s r) (λ w. answer met s (truth_value w)))
  decided true v r = refl
  decided false v r = bound (value_of s r) truth_value

  chosen : (b : Bool) (y n : Tree) → answer met s (if b then value_of s y else value_of s n) ≡ (if b then Ev met s y else Ev met s n)
  chosen true y n = refl
  chosen false y n = refl

  pub is_direct : IsDirect met s
  unfolding value_of
  is_direct = record {
    of_literal = λ c. refl;
    of_name = λ n. refl;
    of_special = λ n. refl;
    of_member = λ m. refl;
    of_unary = λ op e. bound (value_of s e) (λ v. given (unary_of op v));
    of_binary = λ op l r. bound_twice (value_of s l) (λ v. value_of s r) (λ v w. binary_of op v w);
    of_logical = λ op l r. bound_twice (value_of s l) in_truth_value (λ v b. if decides op b then Answer (values.Bool b) else bind (value_of s r) truth_value)
        ∙ same_then (Ev met s l) _ _ (λ v. same_then (answer met s (in_truth_value v)) _ _ (λ b. decided (decides op b) (values.Bool b) r));
    of_choice = λ c y n. bound_twice (value_of s c) in_truth_value (λ v b. if b then value_of s y else value_of s n)
        ∙ same_then (Ev met s c) _ _ (λ v. same_then (answer met s (in_truth_value v)) _ _ (λ b. chosen b y n));
    of_field = λ e n. bound (value_of s e) (λ v. field_of s (is_own_stream e) v n);
    of_special_field = λ e n. bound (value_of s e) (λ v. special_of v n);
    of_call_one = λ e a m. bound_twice (value_of s e) (λ v. value_of s a) (λ v x. call_one v (method_named m) x);
    of_call_two = λ e a b m. bound (value_of s e) (λ v. bind (value_of s a) (λ x. bind (value_of s b) (λ y. call_two v (method_named m) x y)))
        ∙ same_then (Ev met s e) _ _ (λ v. bound_twice (value_of s a) (λ x. value_of s b) (λ x y. call_two v (method_named m) x y));
    of_index = λ e i. bound_twice (value_of s e) (λ v. value_of s i) (λ v w. item_at v w);
    of_cast = λ e t. bound (value_of s e) (λ v. cast_to v t.number);
  }

pub meaning_is_direct : MeaningIsDirect
meaning_is_direct met s = is_direct met s
