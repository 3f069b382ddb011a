-- Answers of nodes are those of their rules. With fewer nodes open, a node answers the same.
use Rattle.ksv_rule_laws.proofs.Common.{inl, inr, ◌≡◌, ℕ, zero, suc, ◌≤◌, false, List, ◌∷◌, Result, Ok, arith}
use Rattle.ksv_rule_laws.proofs.Common.{Trail, Description, Node, NodeFault, Given, Rule}
use Rattle.ksv_rule_laws.proofs.Common.{answer_of, from_nothing, cases_Bool}
use Rattle.std.specs.Prelude.{nat_eq}
use Rattle.std.proofs.lemmas.Bool.{or_right}
use Rattle.ksv_memo_rules.specs.Evaluation.{is_among}
use Rattle.ksv_nodes.specs.Numbers.{node_number, node_bound}
use Rattle.ksv_rule_meaning.specs.Meaning.{meaning_of, rule_of}
use Rattle.ksv_rule_meaning.specs.FromNothing.{answer_within}
use Rattle.ksv_rule_laws.specs.Laws.{AreAmong, AnswersStay}
use Rattle.ksv_rule_laws.proofs.Rules.{answered, also}

-- the rule of a node is the meaning of its kind
meaning_is : (met : Node → Result Given NodeFault) (here : Trail) (bytes : List ℕ) (d : Description) (n : Node) (g : Given)
    → answer_of met here bytes (rule_of d n) ≡ Ok g → answer_of met here bytes (meaning_of d n.kind n.path) ≡ Ok g
unfolding rule_of
meaning_is met here bytes d n g h = h

-- ---- evaluation from nothing

module _ (d : Description) (bytes : List ℕ) where
  -- the answers of the nodes that a node asks, one level deeper
  abbrev below : ℕ → List Node → Node → Node → Result Given NodeFault
  below depth opened n = answer_within d bytes depth (n ∷ opened)

  -- an answer that is no fault is the rule's, and its node isn't open
  pub ruled : (depth : ℕ) (opened : List Node) (n : Node) (g : Given) → answer_within d bytes (suc depth) opened n ≡ Ok g
      → (is_among node_number opened n ≡ false) × (answer_of (below depth opened n) n.path bytes (rule_of d n) ≡ Ok g)
  unfolding answer_within
  ruled depth opened n g h = elim (cases_Bool (is_among node_number opened n)) [
    | inl e ↦ let no = rw e at h in cc
    | inr e ↦ (e, rw e at h)
  ]

  pub no_depth : (opened : List Node) (n : Node) (g : Given) → answer_within d bytes zero opened n ≡ Ok g → ⊥
  unfolding answer_within
  no_depth opened n g h = cc

-- ---- fewer open nodes

-- a rule answers the same where each node that answered still does
pub same_answer : (met met' : Node → Result Given NodeFault) (here : Trail) (bytes : List ℕ) → ((m : Node) (g : Given) → met m ≡ Ok g → met' m ≡ Ok g)
    → {A : Type 0} (p : Rule A) (a : A) → answer_of met here bytes p ≡ Ok a → answer_of met' here bytes p ≡ Ok a
same_answer met met' here bytes same p a h = answered met here bytes _ p a (also met here bytes met' same p) h

-- one node more on both sides, and one more among which others are
among_both : (n : Node) (others opened : List Node) → AreAmong others opened → AreAmong (n ∷ others) (n ∷ opened)
among_both n others opened among m h = let more = among m in grind arith

pub among_more : (n : Node) (opened : List Node) → AreAmong opened (n ∷ opened)
among_more n opened m h = or_right (nat_eq (node_number m) (node_number n)) (is_among node_number opened m) h

module _ (d : Description) (bytes : List ℕ) where
  pub stays_within : (depth depth' : ℕ) (opened others : List Node) (n : Node) (g : Given) → depth ≤ depth' → AreAmong others opened
      → answer_within d bytes depth opened n ≡ Ok g → answer_within d bytes depth' others n ≡ Ok g
  unfolding answer_within
  stays_within zero depth' opened others n g le among h = absurd (no_depth d bytes opened n g h)
  stays_within (suc depth) zero opened others n g le among h = absurd (omega arith)
  stays_within (suc depth) (suc depth') opened others n g le among h =
      let r = ruled d bytes depth opened n g h in
      let free : is_among node_number others n ≡ false = (let more = among n in grind (arith, r.0)) in
      let rule = answer_of (answer_within d bytes depth' (n ∷ others)) n.path bytes (rule_of d n) in
      let same : rule ≡ Ok g = same_answer (answer_within d bytes depth (n ∷ opened)) (answer_within d bytes depth' (n ∷ others)) n.path bytes
      (λ m g' e. stays_within depth depth' (n ∷ opened) (n ∷ others) m g' (omega arith) (among_both n others opened among) e) (rule_of d n) g r.1 in
      rw free same

pub answers_stay : AnswersStay
unfolding from_nothing
answers_stay d bytes opened others n g among h = stays_within d bytes node_bound node_bound opened others n g (omega arith) among h

-- ---- by rules

module _ (d : Description) (bytes : List ℕ) where
  ruled_again : (depth : ℕ) (opened : List Node) (n : Node) (g : Given) → answer_within d bytes depth opened n ≡ Ok g
      → answer_of (answer_within d bytes depth opened) n.path bytes (meaning_of d n.kind n.path) ≡ Ok g
  ruled_again zero opened n g h = absurd (no_depth d bytes opened n g h)
  ruled_again (suc depth) opened n g h =
      let met = answer_within d bytes depth (n ∷ opened) in
      same_answer met (answer_within d bytes (suc depth) opened) n.path bytes
      (λ m g' e. stays_within d bytes depth (suc depth) (n ∷ opened) opened m g' (omega arith) (among_more n opened) e) (meaning_of d n.kind n.path) g
      (meaning_is met n.path bytes d n g (ruled d bytes depth opened n g h).1)

  -- an answer is the rule's where each node that it asks has its own
  pub by_rule : (opened : List Node) (n : Node) (g : Given) → from_nothing d bytes opened n ≡ Ok g
      → answer_of (from_nothing d bytes opened) n.path bytes (meaning_of d n.kind n.path) ≡ Ok g
  unfolding from_nothing
  by_rule opened n g h = ruled_again node_bound opened n g h

  -- what is so of each answer of a rule, where it is so of all that the rule asks: these answers are the nodes' own
  module _ (opened : List Node) (P : Node → Given → Type 0)
      (each : (met : Node → Result Given NodeFault) → ((m : Node) (g : Given) → met m ≡ Ok g → from_nothing d bytes opened m ≡ Ok g)
      → ((m : Node) (g : Given) → met m ≡ Ok g → P m g)
      → (n : Node) (g : Given) → answer_of met n.path bytes (meaning_of d n.kind n.path) ≡ Ok g → P n g) where
    rules_within : (depth : ℕ) (others : List Node) (n : Node) (g : Given) → depth ≤ node_bound → AreAmong opened others
        → answer_within d bytes depth others n ≡ Ok g → P n g
    unfolding from_nothing
    rules_within zero others n g le among h = absurd (no_depth d bytes others n g h)
    rules_within (suc depth) others n g le among h =
        let met = answer_within d bytes depth (n ∷ others) in
        let more : AreAmong opened (n ∷ others) = λ m e. among_more n others m (among m e) in
        each met (λ m g' e. stays_within d bytes depth node_bound (n ∷ others) opened m g' (omega arith) more e)
        (λ m g' e. rules_within depth (n ∷ others) m g' (omega arith) more e) n g (meaning_is met n.path bytes d n g (ruled d bytes depth others n g h).1)

    -- so of each answer
    pub by_rules : (n : Node) (g : Given) → from_nothing d bytes opened n ≡ Ok g → P n g
    unfolding from_nothing
    by_rules n g h = rules_within node_bound opened n g (omega arith) (λ m e. e) h
