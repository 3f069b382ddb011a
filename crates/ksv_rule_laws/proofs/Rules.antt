-- What is so of each answer of a rule, by its parts: a rule whose parts answer so answers so.
use Rattle.ksv_rule_laws.proofs.Common.{arith, ◌≡◌, Bool, true, false, if◌then◌else◌, List, Option, Some, None, Result, Ok, Err, refl, subst, ℕ, Answer, Fail}
use Rattle.ksv_rule_laws.proofs.Common.{Ask, bind, Tree, Setting, Trail, Node, NodeFault, Given, Seen, look, Rule, Of, See, ask_head, ask_rest}
use Rattle.ksv_rule_laws.proofs.Common.{head_node, end_node, rest_node, answer_of, with_given, with_seen, expression, truth_of}
use Rattle.ksv_expr_value.specs.declared.value.Value.TheVariants as values
use Rattle.ksv_nodes.specs.declared.given.Given.TheVariants as givens
use Rattle.ksv_nodes.specs.declared.given.Ended.{Ended}
use Rattle.ksv_nodes.specs.declared.given.Rested.{Rested}
use Rattle.ksv_nodes.specs.Rule.{in_path, ask_end}
use Rattle.ksv_rule_meaning.specs.Wanted.{in_truth}

pub ok_is : {A : Type 0} (x y : A) → ◌≡◌ {A = Result A NodeFault} (Ok x) (Ok y) → x ≡ y
ok_is x y h = cc

-- ---- what a rule answers

module _ (met : Node → Result Given NodeFault) (here : Trail) (bytes : List ℕ) where
  -- each answer of a rule is so, where each node that it asks answers as `met` says
  abbrev pub Answers : {A : Type 0} → (A → Type 0) → Rule A → Type 0
  Answers P (Answer a) = P a
  Answers P (Fail e) = Unit {0}
  Answers P (Ask (Of n) k) = (g : Given) → met n ≡ Ok g → Answers P (k g)
  Answers P (Ask (See r) k) = (x : Seen r) → (look r bytes).seen ≡ Some x → Answers P (k x)

  -- one rule, and then another; a test; and what follows from what is so
  pub join : {A B : Type 0} (P : A → Type 0) (S : B → Type 0) (p : Rule A) (f : A → Rule B) → Answers P p → ((a : A) → P a → Answers S (f a))
      → Answers S (bind p f)
  unfolding bind
  join P S (Answer a) f h g = g a h
  join P S (Fail e) f h g = h
  join P S (Ask (Of n) k) f h g = λ r is. join P S (k r) f (h r is) g
  join P S (Ask (See r) k) f h g = λ x is. join P S (k x) f (h x is) g

  pub either : {A : Type 0} (S : A → Type 0) (b : Bool) (p q : Rule A) → (b ≡ true → Answers S p) → (b ≡ false → Answers S q) → Answers S (if b then p else q)
  either S true p q g h = g refl
  either S false p q g h = h refl

  pub so : {A : Type 0} (P S : A → Type 0) (p : Rule A) → Answers P p → ((a : A) → P a → S a) → Answers S p
  so P S (Answer a) h f = f a h
  so P S (Fail e) h f = h
  so P S (Ask (Of n) k) h f = λ g is. so P S (k g) (h g is) f
  so P S (Ask (See r) k) h f = λ x is. so P S (k x) (h x is) f

  -- what is answered is so
  pub answered : {A : Type 0} (P : A → Type 0) (p : Rule A) (a : A) → Answers P p → answer_of met here bytes p ≡ Ok a → P a
  answered P (Answer x) a h e = subst P (ok_is x a e) h
  answered P (Fail x) a h e = cc
  answered P (Ask (Of n) k) a h e =
      (elim (met n) as (λ r. met n ≡ r → with_given r (λ g. answer_of met here bytes (k g)) ≡ Ok a → P a)
      [ Ok g ↦ λ is e'. answered P (k g) a (h g is) e' | Err f ↦ λ is e'. cc ]) refl e
  answered P (Ask (See r) k) a h e =
      (elim (look r bytes).seen as (λ o. (look r bytes).seen ≡ o → with_seen here o (λ x. answer_of met here bytes (k x)) ≡ Ok a → P a)
      [ Some x ↦ λ is e'. answered P (k x) a (h x is) e' | None ↦ λ is e'. cc ]) refl e

  -- a rule answers what it answers, also where more nodes have answers
  pub also : (met' : Node → Result Given NodeFault) → ((m : Node) (g : Given) → met m ≡ Ok g → met' m ≡ Ok g) → {A : Type 0} (p : Rule A)
      → Answers (λ a. answer_of met' here bytes p ≡ Ok a) p
  also met' same (Answer a) = refl
  also met' same (Fail e) = tt
  also met' same (Ask (Of n) k) = λ g is. so _ _ (k g) (also met' same (k g)) (λ a e. rw (same n g is) e)
  also met' same (Ask (See r) k) = λ x is. so _ _ (k x) (also met' same (k x)) (λ a e. rw is e)

  pub exact : {A : Type 0} (p : Rule A) → Answers (λ a. answer_of met here bytes p ≡ Ok a) p
  exact p = also met (λ m g is. is) p

  -- one rule, and then what follows from its answer
  pub known : {A B : Type 0} (S : B → Type 0) (p : Rule A) (f : A → Rule B) → ((a : A) → answer_of met here bytes p ≡ Ok a → Answers S (f a))
      → Answers S (bind p f)
  known S p f g = join _ S p f (exact p) g

  -- ---- what is asked

  pub asked_head : (p : Trail) → Answers (λ h. met (head_node p) ≡ Ok (givens.Head h)) (ask_head p)
  asked_head p (givens.Head h) is = is
  asked_head p _ is = tt

  pub asked_end : (p : Trail) → Answers (λ (x : Ended). met (end_node p) ≡ Ok (givens.End x.place x.last)) (ask_end p)
  asked_end p (givens.End place last) is = is
  asked_end p _ is = tt

  pub asked_rest : (p : Trail) → Answers (λ (x : Rested). met (rest_node p) ≡ Ok (givens.Rest x.count x.place)) (ask_rest p)
  asked_rest p (givens.Rest count place) is = is
  asked_rest p _ is = tt

  pub path_is : (o : Option Trail) → Answers (λ q. o ≡ Some q) (in_path o)
  path_is None = tt
  path_is (Some q) = refl

  -- ---- expressions

  pub truth_is : (s : Setting) (e : Tree) → Answers (λ b. answer_of met here bytes (expression s e) ≡ Ok (values.Bool b)) (truth_of s e)
  unfolding truth_of
  truth_is s e = known _ (expression s e) (λ v. in_truth v) (λ v is. grind arith)
