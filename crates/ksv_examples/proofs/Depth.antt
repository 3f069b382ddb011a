-- What is computed to a depth is what evaluation from nothing answers.
use Rattle.std.proofs.Common.{◌≡◌, ℕ, zero, suc, ◌==◌, nat_eq, Bool, true, false, List, [], ◌∷◌, Option, Some, None, Result, Ok, Err, refl, ap, sym, ◌∙◌, subst}
use Rattle.std.proofs.lemmas.Bool.{eqb-true, eq-eqb}
use Rattle.std.specs.Cmp.{first_so, second_so}
use Rattle.ksv_basics.specs.Plan.{Answer, Fail, Ask}
use Rattle.ksv_desc.specs.Description.{Description}
use Rattle.ksv_expr_value.specs.Trail.{Trail, same_trail}
use Rattle.ksv_expr_value.specs.declared.step.Step.{Step}
use Rattle.ksv_expr_value.specs.declared.step.Step.TheVariants.{Index, Name}
use Rattle.ksv_memo_rules.specs.Meaning.{on}
use Rattle.ksv_memo_rules.specs.Evaluation.{is_among}
use Rattle.ksv_memo_rules.specs.Right.{AreDistinct}
use Rattle.ksv_memo_rules.proofs.Evals.{AreDistinct-cons}
use Rattle.ksv_nodes.specs.Numbers.{node_number, node_bound, node_number-one}
use Rattle.ksv_nodes.specs.Reading.{look}
use Rattle.ksv_nodes.specs.Rule.{Rule, Of, See}
use Rattle.ksv_nodes.specs.Truth.{answer_of, with_given, with_seen}
use Rattle.ksv_nodes.specs.Turning.{raised}
use Rattle.ksv_nodes.specs.declared.given.Given.{Given}
use Rattle.ksv_nodes.specs.declared.node.Node.{Node}
use Rattle.ksv_nodes.specs.declared.node_fault.NodeFault.{NodeFault}
use Rattle.ksv_nodes.specs.declared.node_fault.NodeFault.TheVariants as faults
use Rattle.ksv_nodes.specs.declared.node.NodeKind.{NodeKind}
use Rattle.ksv_nodes.specs.declared.node.NodeKind.TheVariants.{Head, Value, End, Rest}
use Rattle.ksv_rule_meaning.specs.Described.{described}
use Rattle.ksv_rule_meaning.specs.FromNothing.{circle, answer_within, from_nothing}
use Rattle.ksv_rule_meaning.specs.Meaning.{rule_of}
use Rattle.ksv_rule_meaning.proofs.Direct.{answers_follow_rules}
use Rattle.ksv_examples.specs.Depth.{same_step, same_steps, kind_digit, same_node, is_open, with_met, with_look, rule_answer, answer_at}

-- ---- the same node

step_self : (s : Step) → same_step s s ≡ true
step_self (Name n) = eq-eqb n n refl
step_self (Index i) = eq-eqb i i refl

steps_self : (p : List Step) → same_steps p p ≡ true
steps_self [] = refl
steps_self (s ∷ p) = rw (step_self s) (steps_self p)

step_exact : (s t : Step) → same_step s t ≡ true → s ≡ t
step_exact (Name m) (Name n) h = ap Name (eqb-true m n h)
step_exact (Name m) (Index j) h = absurd (cc)
step_exact (Index i) (Name n) h = absurd (cc)
step_exact (Index i) (Index j) h = ap Index (eqb-true i j h)

steps_exact : (p q : List Step) → same_steps p q ≡ true → p ≡ q
steps_exact [] [] h = refl
steps_exact [] (t ∷ q) h = absurd (cc)
steps_exact (s ∷ p) [] h = absurd (cc)
steps_exact (s ∷ p) (t ∷ q) h =
    let e = step_exact s t (first_so (same_step s t) (same_steps p q) h) in
    let es = steps_exact p q (second_so (same_step s t) (same_steps p q) h) in
    λ i. e i ∷ es i

kind_exact : (j k : NodeKind) → (kind_digit j == kind_digit k) ≡ true → j ≡ k
kind_exact Head Head h = refl
kind_exact Value Value h = refl
kind_exact End End h = refl
kind_exact Rest Rest h = refl
kind_exact Head Value h = absurd (cc)
kind_exact Head End h = absurd (cc)
kind_exact Head Rest h = absurd (cc)
kind_exact Value Head h = absurd (cc)
kind_exact Value End h = absurd (cc)
kind_exact Value Rest h = absurd (cc)
kind_exact End Head h = absurd (cc)
kind_exact End Value h = absurd (cc)
kind_exact End Rest h = absurd (cc)
kind_exact Rest Head h = absurd (cc)
kind_exact Rest Value h = absurd (cc)
kind_exact Rest End h = absurd (cc)

kind_self : (k : NodeKind) → (kind_digit k == kind_digit k) ≡ true
kind_self k = eq-eqb (kind_digit k) (kind_digit k) refl

node_self : (n : Node) → same_node n n ≡ true
node_self n = rw (kind_self n.kind) (steps_self n.path.upward)

node_exact : (a b : Node) → same_node a b ≡ true → a ≡ b
node_exact a b h =
    let kinds = kind_exact a.kind b.kind (first_so (kind_digit a.kind == kind_digit b.kind) (same_steps a.path.upward b.path.upward) h) in
    let steps = steps_exact a.path.upward b.path.upward (second_so (kind_digit a.kind == kind_digit b.kind) (same_steps a.path.upward b.path.upward) h) in
    let paths = same_trail a.path b.path steps in
    λ i. record { kind = kinds i; path = paths i }

-- two tests of one fact agree
agree : (x y : Bool) → (x ≡ true → y ≡ true) → (y ≡ true → x ≡ true) → x ≡ y
agree true y there back = sym (there refl)
agree false true there back = back refl
agree false false there back = refl

-- nodes are told apart as their numbers tell them apart
node_numbered : (a b : Node) → same_node a b ≡ nat_eq (node_number a) (node_number b)
node_numbered a b = agree (same_node a b) (nat_eq (node_number a) (node_number b))
    (λ h. eq-eqb (node_number a) (node_number b) (ap node_number (node_exact a b h)))
    (λ h. subst (λ m. same_node a m ≡ true) (node_number-one a b (eqb-true (node_number a) (node_number b) h)) (node_self a))

pub open_numbered : (opened : List Node) (n : Node) → is_open opened n ≡ is_among node_number opened n
open_numbered [] n = refl
open_numbered (m ∷ ms) n = rw (node_numbered n m, open_numbered ms n) refl

-- ---- rules

pub some_is : {A : Type 0} (a b : A) → Some a ≡ Some b → a ≡ b
some_is a b e = cc

met_is : {A : Type 0} (o : Option (Result Given NodeFault)) (a : Result Given NodeFault) (f : Given → Option (Result A NodeFault))
    (g : Given → Result A NodeFault) (r : Result A NodeFault) → ((x : Result Given NodeFault) → o ≡ Some x → a ≡ x)
    → ((x : Given) → f x ≡ Some r → g x ≡ r) → with_met o f ≡ Some r → with_given a g ≡ r
met_is None a f g r is rest e = absurd (cc)
met_is (Some (Ok x)) a f g r is rest e = rw (is (Ok x) refl) (rest x e)
met_is (Some (Err x)) a f g r is rest e = rw (is (Err x) refl) (some_is (Err x) r e)

look_is : {A B : Type 0} (here : Trail) (o : Option A) (f : A → Option (Result B NodeFault)) (g : A → Result B NodeFault) (r : Result B NodeFault)
    → ((x : A) → f x ≡ Some r → g x ≡ r) → with_look here o f ≡ Some r → with_seen here o g ≡ r
look_is here None f g r rest e = cc
look_is here (Some x) f g r rest e = rest x e

-- where nodes answer alike as far as the first go, so do rules
rule_is : (f : Node → Option (Result Given NodeFault)) (g : Node → Result Given NodeFault)
    → ((m : Node) (x : Result Given NodeFault) → f m ≡ Some x → g m ≡ x) → (here : Trail) (bytes : List ℕ) {A : Type 0} (p : Rule A) (r : Result A NodeFault)
    → rule_answer f here bytes p ≡ Some r → answer_of g here bytes p ≡ r
rule_is f g each here bytes (Answer a) r e = some_is (Ok a) r e
rule_is f g each here bytes (Fail x) r e = some_is (Err (faults.Raised (raised x here))) r e
rule_is f g each here bytes (Ask (Of n) k) r e = met_is (f n) (g n) (λ x. rule_answer f here bytes (k x)) (λ x. answer_of g here bytes (k x)) r (each n) (λ x. rule_is f g each here bytes (k x) r) e
rule_is f g each here bytes (Ask (See s) k) r e = look_is here (look s bytes).seen (λ x. rule_answer f here bytes (k x)) (λ x. answer_of g here bytes (k x)) r (λ x. rule_is f g each here bytes (k x) r) e

-- ---- nodes

-- an open node is a circle at every depth
pub opened_at : (d : Description) (bytes : List ℕ) (depth : ℕ) (opened : List Node) (n : Node) → is_among node_number opened n ≡ true → answer_within d bytes depth opened n ≡ circle n
unfolding answer_within
opened_at d bytes zero opened n h = refl
opened_at d bytes (suc depth) opened n h = rw h refl

module _ (d : Description) (bytes : List ℕ) where
  -- nodes answer so while these are open
  abbrev Answers : ℕ → List Node → Type 0
  Answers k opened = AreDistinct (on (described d) bytes) opened → (n : Node) (r : Result Given NodeFault) → answer_at d bytes k opened n ≡ Some r
      → from_nothing d bytes opened n ≡ r

  turn : (k : ℕ) (opened : List Node) (n : Node) (r : Result Given NodeFault) → AreDistinct (on (described d) bytes) opened → Answers k (n ∷ opened)
      → (b : Bool) → is_open opened n ≡ b
      → elim b as (λ _. Option (Result Given NodeFault)) [
        | true ↦ Some (circle n)
        | false ↦ rule_answer (answer_at d bytes k (n ∷ opened)) n.path bytes (rule_of d n)
      ] ≡ Some r
      → from_nothing d bytes opened n ≡ r
  unfolding from_nothing
  turn k opened n r distinct below true found e = opened_at d bytes node_bound opened n (sym (open_numbered opened n) ∙ found) ∙ some_is (circle n) r e
  turn k opened n r distinct below false found e =
      let out : is_among node_number opened n ≡ false = sym (open_numbered opened n) ∙ found in
      answers_follow_rules d bytes opened n (record { distinct = distinct; apart = out })
      ∙ rule_is (answer_at d bytes k (n ∷ opened)) (from_nothing d bytes (n ∷ opened)) (below (AreDistinct-cons (on (described d) bytes) n opened out distinct)) n.path bytes (rule_of d n) r e

  -- an answer to a depth is that of evaluation from nothing
  pub answer_is : (k : ℕ) (opened : List Node) → Answers k opened
  unfolding answer_at
  answer_is zero opened distinct n r e = absurd (cc)
  answer_is (suc k) opened distinct n r e = turn k opened n r distinct (answer_is k (n ∷ opened)) (is_open opened n) refl e
