-- Chains: nodes with ranks, of which each asks, first of all, a node that is answered, or one of them of a lower rank. If each says what it is
-- to say where the lower ones answer what they are to, then all do from nothing.
use Rattle.std.proofs.Common.{cond}
use Rattle.std.specs.Prelude.{nat_eq}
use Rattle.ksv_basics.specs.Plan.{Fail}
use Rattle.ksv_memo_rules.proofs.Evals.{AreDistinct-cons, eqb_true}
use Rattle.ksv_memo_rules.proofs.Lists.{All-map}
use Rattle.ksv_memo_rules.specs.Right.{AreDistinct}
use Rattle.ksv_nodes.specs.Numbers.{node_bound, node_number-one}
use Rattle.ksv_nodes.specs.Reading.{Seen}
use Rattle.ksv_nodes.specs.Rule.{Of}
use Rattle.ksv_nodes.specs.Truth.{answer_of, with_given, with_seen}
use Rattle.ksv_rule_meaning.proofs.Direct.{answers_follow_rules}
use Rattle.ksv_rule_meaning.specs.Direct.{IsFree}
use Rattle.ksv_rule_meaning.specs.FromNothing.{circle, answer_within, from_nothing}
use Rattle.ksv_list_laws.proofs.Common.{◌≡◌, ◌∙◌, ℕ, zero, suc, ◌<◌, ◌≤◌, Bool, true, false, ◌||◌, List, [], ◌∷◌, Option, Some, None, Result, Ok, ◌⊎◌}
use Rattle.ksv_list_laws.proofs.Common.{Err, inl, inr, refl, sym, ap, subst, arith, AllByRecursion, nat_tests, Answer, Ask, Use, Trail, Description}
use Rattle.ksv_list_laws.proofs.Common.{is_among, on, AreDistinct-none, Node, Given, Fault, NodeFault, node_number, look, Rule, See, described, rule_of, Tells}
use Rattle.ksv_list_laws.proofs.Common.{evaluated}
use Rattle.ksv_list_laws.proofs.Says.{Ends}
use Rattle.ksv_list_laws.proofs.Truth.{or_true, true_or}

-- ---- lists of nodes

or_none : (b c : Bool) → (b ≡ true → ⊥) → c ≡ false → (b || c) ≡ false
or_none true c never e = absurd (never refl)
or_none false c never e = e

same_node : (m o : Node) → nat_eq (node_number m) (node_number o) ≡ true → m ≡ o
same_node m o e = node_number-one m o (eqb_true (node_number m) (node_number o) e)

pub none_among : (os : List Node) (m : Node) → AllByRecursion (λ o. m ≡ o → ⊥) os → is_among node_number os m ≡ false
none_among [] m h = refl
none_among (o ∷ os) m h = or_none (nat_eq (node_number m) (node_number o)) (is_among node_number os m) (λ e. h.0 (same_node m o e)) (none_among os m h.1)

eq_self : (n : ℕ) → nat_eq n n ≡ true
eq_self n = grind (arith, nat_tests)

-- ---- evaluation

-- an answer is the same where all answers are
same_answer : (met met' : Node → Result Given NodeFault) (here : Trail) (bytes : List ℕ) → ((m : Node) (g : Given) → met m ≡ Ok g → met' m ≡ Ok g)
    → {A : Type 0} (p : Rule A) (a : A) → answer_of met here bytes p ≡ Ok a → answer_of met' here bytes p ≡ Ok a
same_answer met met' here bytes same (Answer x) a h = h
same_answer met met' here bytes same (Fail e) a h = absurd (cc)
same_answer met met' here bytes same {A = A} (Ask (Of n) k) a h = by_given (met n) refl h (λ g. same_answer met met' here bytes same (k g) a)
  where
    by_given : (r : Result Given NodeFault) → met n ≡ r → with_given r (λ g. answer_of met here bytes (k g)) ≡ Ok a
        → ((g : Given) → answer_of met here bytes (k g) ≡ Ok a → answer_of met' here bytes (k g) ≡ Ok a)
        → with_given (met' n) (λ g. answer_of met' here bytes (k g)) ≡ Ok a
    by_given (Ok g) is e later = ap (λ r. with_given r (λ x. answer_of met' here bytes (k x))) (same n g is) ∙ later g e
    by_given (Err f) is e later = absurd (cc)
same_answer met met' here bytes same {A = A} (Ask (See r) k) a h = by_seen (look r bytes).seen h (λ x. same_answer met met' here bytes same (k x) a)
  where
    by_seen : (o : Option (Seen r)) → with_seen here o (λ x. answer_of met here bytes (k x)) ≡ Ok a
        → ((x : Seen r) → answer_of met here bytes (k x) ≡ Ok a → answer_of met' here bytes (k x) ≡ Ok a)
        → with_seen here o (λ x. answer_of met' here bytes (k x)) ≡ Ok a
    by_seen (Some x) e later = later x e
    by_seen None e later = absurd (cc)

module _ (d : Description) (bytes : List ℕ) where
  -- a node that answers isn't open, and its rule answers this
  ruled : (depth : ℕ) (opened : List Node) (n : Node) (g : Given) → answer_within d bytes (suc depth) opened n ≡ Ok g
      → (is_among node_number opened n ≡ false) × (answer_of (answer_within d bytes depth (n ∷ opened)) n.path bytes (rule_of d n) ≡ Ok g)
  unfolding answer_within
  ruled depth opened n g h = by_open (is_among node_number opened n) refl h
    where
      by_open : (b : Bool) → is_among node_number opened n ≡ b → cond b (circle n)
          (answer_of (answer_within d bytes depth (n ∷ opened)) n.path bytes (rule_of d n)) ≡ Ok g
          → (is_among node_number opened n ≡ false) × (answer_of (answer_within d bytes depth (n ∷ opened)) n.path bytes (rule_of d n) ≡ Ok g)
      by_open true e e' = absurd (cc)
      by_open false e e' = (e, e')

  no_depth : (opened : List Node) (n : Node) (g : Given) → answer_within d bytes zero opened n ≡ Ok g → ⊥
  unfolding answer_within
  no_depth opened n g h = cc

  open_is : (depth : ℕ) (opened : List Node) (n : Node) → is_among node_number opened n ≡ true → answer_within d bytes depth opened n ≡ circle n
  unfolding answer_within
  open_is zero opened n e = refl
  open_is (suc depth) opened n e = ap (λ b. cond b (circle n) (answer_of (answer_within d bytes depth (n ∷ opened)) n.path bytes (rule_of d n))) e

-- ---- chains

-- a rule that asks a node first
pub record AsksFirst (d : Description) (m n : Node) : Type 0 where
  pub rest : Given → Rule Given
  pub is : rule_of d m ≡ Ask (Of n) rest

-- names of nodes, which node each is of, what it is to answer, to ask and to use, and its rank, which the node tells, too
pub record Chain : Type 1 where
  pub Part : Type 0
  pub Is : Part → Node → Type 0
  pub answer : Part → Result Given Fault
  pub asked : Part → List Node
  pub used : Part → List Use
  pub rank : Part → ℕ
  pub node_rank : Node → ℕ

-- a node of the chain
abbrev IsPart : Chain → Node → Type 0
IsPart c m = (k : c.Part) × c.Is k m

pub record IsChain (d : Description) (bytes : List ℕ) (root : Node) (given : Given) (c : Chain) : Type 0 where
  pub ranked : (k : c.Part) (m : Node) → c.Is k m → c.node_rank m ≡ c.rank k
  pub apart : IsPart c root → ⊥
  pub first : (k : c.Part) (m : Node) → c.Is k m → AsksFirst d m root ⊎ ((j : c.Part) × (n : Node) × c.Is j n × (c.rank j < c.rank k) × AsksFirst d m n)
  pub steps : (k : c.Part) (m : Node) → c.Is k m → (met : Node → Result Given NodeFault) → met root ≡ Ok given
      → ((j : c.Part) (n : Node) → c.rank j < c.rank k → c.Is j n → met n ≡ evaluated (c.answer j))
      → Ends met m.path bytes (rule_of d m) (evaluated (c.answer k)) (c.asked k) (c.used k)

module _ (d : Description) (bytes : List ℕ) (root : Node) (given : Given) (c : Chain) (chain : IsChain d bytes root given c) where
  -- nodes of the chain from a rank on
  abbrev AreFrom : ℕ → List Node → Type 0
  AreFrom r os = AllByRecursion (λ o. (r ≤ c.node_rank o) × IsPart c o) os

  member_is : (r : ℕ) (os : List Node) (m : Node) → AreFrom r os → is_among node_number os m ≡ true → IsPart c m
  member_is r [] m all h = absurd (cc)
  member_is r (o ∷ os) m all h = elim (true_or (nat_eq (node_number m) (node_number o)) (is_among node_number os m) h) [
    | inl e ↦ subst (IsPart c) (sym (same_node m o e)) all.0.1
    | inr e ↦ member_is r os m all.1 e
  ]

  -- no others are open
  record IsClear (r : ℕ) (os : List Node) : Type 0 where
    pub distinct : AreDistinct (on (described d) bytes) os
    pub from : AreFrom r os

  clear_free : (r : ℕ) (os : List Node) (m : Node) → IsClear r os → c.node_rank m < r → is_among node_number os m ≡ false
  clear_free r os m free lt = none_among os m (All-map (λ o h e. (let same = ap c.node_rank e in let le = h.0 in omega (arith, same, le, lt))) os free.from)

  clear_more : (r : ℕ) (os : List Node) (k : c.Part) (m : Node) → IsClear r os → c.Is k m → c.rank k < r → IsClear (c.rank k) (m ∷ os)
  clear_more r os k m free a lt =
      let own = chain.ranked k m a in
      record {
        distinct = AreDistinct-cons (on (described d) bytes) m os (clear_free r os m free (omega (arith, own, lt))) free.distinct;
        from = ((omega (arith, own), (k, a)), All-map (λ o h. ((let le = h.0 in omega (arith, le, lt)), h.1)) os free.from);
      }

  -- ---- while the root is open no node of the chain answers

  no_answer : (met : Node → Result Given NodeFault) (m n : Node) (g : Given) → AsksFirst d m n → ((y : Given) → met n ≡ Ok y → ⊥)
      → answer_of met m.path bytes (rule_of d m) ≡ Ok g → ⊥
  no_answer met m n g a never h = by (met n) refl
    where
      by : (x : Result Given NodeFault) → met n ≡ x → ⊥
      by (Ok y) e = never y e
      by (Err f) e =
          let is : answer_of met m.path bytes (rule_of d m) ≡ Err f = ap (λ p. answer_of met m.path bytes p) a.is
          ∙ ap (λ r. with_given r (λ y. answer_of met m.path bytes (a.rest y))) e in
          let both = sym is ∙ h in cc

  leads : (fuel depth : ℕ) (opened : List Node) (k : c.Part) (m : Node) (g : Given) → c.rank k < fuel → c.Is k m → is_among node_number opened root ≡ true
      → answer_within d bytes depth opened m ≡ Ok g → ⊥
  leads zero depth opened k m g lt a up h = absurd (omega (arith, lt))
  leads (suc fuel) zero opened k m g lt a up h = no_depth d bytes opened m g h
  leads (suc fuel) (suc depth) opened k m g lt a up h =
      let ran = ruled d bytes depth opened m g h in
      let met = answer_within d bytes depth (m ∷ opened) in
      let above : is_among node_number (m ∷ opened) root ≡ true = or_true (nat_eq (node_number root) (node_number m)) (is_among node_number opened root)
      (inr up) in
      elim (chain.first k m a) [
        | inl x ↦ no_answer met m root g x (λ y e. (let shut = sym (open_is d bytes depth (m ∷ opened) root above) ∙ e in cc)) ran.1
        | inr x ↦ no_answer met m x.1 g x.4 (λ y e. leads fuel depth (m ∷ opened) x.0 x.1 y (let below = x.3 in omega (arith, below, lt)) x.2 above e) ran.1
      ]

  -- ---- so the root answers the same while nodes of the chain are open

  abbrev Extra : List Node → List Node → Type 0
  Extra opened others = (m : Node) → is_among node_number others m ≡ true → (is_among node_number opened m ≡ true) ⊎ IsPart c m

  extra_both : (n : Node) (opened others : List Node) → Extra opened others → Extra (n ∷ opened) (n ∷ others)
  extra_both n opened others extra m h = elim (true_or (nat_eq (node_number m) (node_number n)) (is_among node_number others m) h) [
    | inl e ↦ inl (or_true (nat_eq (node_number m) (node_number n)) (is_among node_number opened m) (inl e))
    | inr e ↦ elim (extra m e) as (λ _. (is_among node_number (n ∷ opened) m ≡ true) ⊎ IsPart c m) [
      | inl x ↦ inl (or_true (nat_eq (node_number m) (node_number n)) (is_among node_number opened m) (inr x))
      | inr x ↦ inr x
    ]
  ]

  no_part : (depth : ℕ) (opened : List Node) (n : Node) (g : Given) → is_among node_number (n ∷ opened) root ≡ true
      → answer_within d bytes depth opened n ≡ Ok g → IsPart c n → ⊥
  no_part depth opened n g held h a = elim (true_or (nat_eq (node_number root) (node_number n)) (is_among node_number opened root) held) [
    | inl e ↦ chain.apart (subst (IsPart c) (sym (same_node root n e)) a)
    | inr e ↦ leads (suc (c.rank a.0)) depth opened a.0 n g (omega arith) a.1 e h
  ]

  stays : (depth : ℕ) (opened others : List Node) (n : Node) (g : Given) → is_among node_number (n ∷ opened) root ≡ true → Extra opened others
      → answer_within d bytes depth opened n ≡ Ok g → answer_within d bytes depth others n ≡ Ok g
  unfolding answer_within
  stays zero opened others n g held extra h = absurd (no_depth d bytes opened n g h)
  stays (suc depth) opened others n g held extra h =
      let r = ruled d bytes depth opened n g h in
      let rule = answer_of (answer_within d bytes depth (n ∷ others)) n.path bytes (rule_of d n) in
      let same : rule ≡ Ok g = same_answer (answer_within d bytes depth (n ∷ opened)) (answer_within d bytes depth (n ∷ others)) n.path bytes
      (λ m g' e. stays depth (n ∷ opened) (n ∷ others) m g' (or_true (nat_eq (node_number root) (node_number m)) (is_among node_number (n ∷ opened) root)
      (inr held))
      (extra_both n opened others extra) e) (rule_of d n) g r.1 in
      ap (λ b. cond b (circle n) rule) (free r.0 (is_among node_number others n) refl) ∙ same
    where
      free : is_among node_number opened n ≡ false → (b : Bool) → is_among node_number others n ≡ b → b ≡ false
      free out true e = elim (extra n e) [
        | inl x ↦ absurd (let never : true ≡ false = sym x ∙ out in cc)
        | inr x ↦ absurd (no_part (suc depth) opened n g held h x)
      ]
      free out false e = refl

  root_stays : (r : ℕ) (os : List Node) → AreFrom r os → from_nothing d bytes [] root ≡ Ok given → from_nothing d bytes os root ≡ Ok given
  unfolding from_nothing
  root_stays r os all h = stays node_bound [] os root given (or_true (nat_eq (node_number root) (node_number root)) false (inl (eq_self (node_number root))))
      (λ m e. inr (member_is r os m all e)) h

  -- ---- what the nodes tell

  tell : (fuel : ℕ) → from_nothing d bytes [] root ≡ Ok given → (k : c.Part) (m : Node) → c.Is k m → c.rank k < fuel → (r : ℕ) (os : List Node) → c.rank k < r
      → IsClear r os → Tells d bytes os m (c.answer k) (c.asked k) (c.used k)
  tell zero root_is k m a lt r os below clear = absurd (omega (arith, lt))
  tell (suc fuel) root_is k m a lt r os below clear =
      let more = clear_more r os k m clear a below in
      let own = chain.ranked k m a in
      let free : IsFree d bytes os m = record { distinct = clear.distinct; apart = clear_free r os m clear (omega (arith, own, below)) } in
      let said = chain.steps k m a (from_nothing d bytes (m ∷ os)) (root_stays (c.rank k) (m ∷ os) more.from root_is)
      (λ j n low b. (tell fuel root_is j n b (omega (arith, low, lt)) (c.rank k) (m ∷ os) low more).answer) in
      record { answer = answers_follow_rules d bytes os m free ∙ said.answer; asked = said.asked; used = said.used }

  -- from nothing each node of a chain answers, asks and uses what it is to
  pub chain_tells : from_nothing d bytes [] root ≡ Ok given → (k : c.Part) (m : Node) → c.Is k m → Tells d bytes [] m (c.answer k) (c.asked k) (c.used k)
  chain_tells root_is k m a = tell (suc (c.rank k)) root_is k m a (omega arith) (suc (c.rank k)) [] (omega arith)
      (record { distinct = AreDistinct-none (on (described d) bytes); from = tt })
