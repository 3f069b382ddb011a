-- A circle comes from nodes that ask for each other, and from no rule.
use Rattle.ksv_rule_laws.proofs.Common.{◌≡◌, ◌∙◌, ℕ, zero, suc, ◌+◌, ◌-◌, ◌<◌, ◌≤◌, true, false, List, [], ◌∷◌, length, Some, None, Result, Ok}
use Rattle.ksv_rule_laws.proofs.Common.{Err, refl, sym, ap, arith, inl, inr, Answer, Fail, Ask, Trail, Description, Node, NodeFault, Given, look, Rule}
use Rattle.ksv_rule_laws.proofs.Common.{Of, See, answer_of, with_given, with_seen, from_nothing, cases_Bool}
use Rattle.std.specs.Prelude.{Contains}
use Rattle.std.proofs.lemmas.List.Elements.{Contains-append_left, Contains-append_right, Contains-append_cases, Contains-push, Contains-push_cases}
use Rattle.ksv_expr_value.specs.declared.fault.FaultKind.TheVariants as kinds
use Rattle.ksv_expr_value.specs.declared.fault.Fault.{Fault}
use Rattle.ksv_nodes.specs.declared.node_fault.NodeFault.TheVariants as faults
use Rattle.ksv_nodes.specs.Truth.{asks_of, behind_given, behind_seen}
use Rattle.ksv_nodes.specs.Turning.{fault_at, raised}
use Rattle.ksv_nodes.specs.Numbers.{node_number, node_bound, node_number-one, node_number-below}
use Rattle.ksv_memo_rules.specs.Evaluation.{is_among}
use Rattle.ksv_memo_rules.specs.Meaning.{Standing, IsSettled, on}
use Rattle.ksv_memo_rules.specs.Right.{AreDistinct}
use Rattle.ksv_memo_rules.proofs.Evals.{few, AreDistinct-cons}
use Rattle.ksv_rule_meaning.specs.Meaning.{rule_of}
use Rattle.ksv_rule_meaning.specs.FromNothing.{circle, answer_within}
use Rattle.ksv_rule_meaning.specs.Described.{described}
use Rattle.ksv_rule_meaning.specs.Lemmas.Bounds.{settles}
use Rattle.ksv_rule_laws.specs.Laws.{NoRuleMakesCircles, LeadsBack, CirclesLeadBack}
use Rattle.ksv_rule_meaning.proofs.Direct.{answers_follow_rules}

-- ---- where a circle comes from

err_is : {A : Type 0} (e f : NodeFault) → ◌≡◌ {A = Result A NodeFault} (Err e) (Err f) → e ≡ f
err_is e f h = cc

-- what a rule raises is no circle
raised_is : {A : Type 0} (f : Fault) (q : Trail) → ◌≡◌ {A = Result A NodeFault} (Err (faults.Raised f)) (Err (faults.Circle q)) → ⊥
raised_is f q h = let same : faults.Raised f ≡ faults.Circle q = err_is _ _ h in cc

no_member : {A : Type 0} (x : A) → Contains [] x → ⊥
no_member x h = omega (arith, h.1)

first_in : {A : Type 0} (x : A) (xs : List A) → Contains (x ∷ xs) x
first_in x xs = Contains-append_left (x ∷ []) xs x (Contains-push [] x)

module _ (met : Node → Result Given NodeFault) (here : Trail) (bytes : List ℕ) where
  -- the node whose fault it is
  abbrev pub Source : {A : Type 0} → Rule A → NodeFault → Type 0
  Source p f = (m : Node) × Contains (asks_of met here bytes p) m × (met m ≡ Err f)

  -- a circle in which a rule ends is that of a node that it asks
  from_asked : {A : Type 0} (p : Rule A) (q : Trail) → answer_of met here bytes p ≡ Err (faults.Circle q) → Source p (faults.Circle q)
  from_asked (Answer a) q h = cc
  from_asked (Fail e) q h = absurd (raised_is (raised e here) q h)
  from_asked (Ask (Of n) k) q h = (elim (met n) as (λ r. met n ≡ r → with_given r (λ g. answer_of met here bytes (k g)) ≡ Err (faults.Circle q)
      → (m : Node) × Contains (n ∷ behind_given r (λ g. asks_of met here bytes (k g))) m × (met m ≡ Err (faults.Circle q))) [
        | Ok g ↦ λ e e'. let s = from_asked (k g) q e' in (s.0, Contains-append_right (n ∷ []) (asks_of met here bytes (k g)) s.0 s.1, s.2)
        | Err f ↦ λ e e'. (n, first_in n [], e ∙ ap Err (err_is f (faults.Circle q) e'))
      ]) refl h
  from_asked (Ask (See r) k) q h = (elim (look r bytes).seen as (λ o. with_seen here o (λ x. answer_of met here bytes (k x)) ≡ Err (faults.Circle q)
      → (m : Node) × Contains (behind_seen o (λ x. asks_of met here bytes (k x))) m × (met m ≡ Err (faults.Circle q)))
      [ Some x ↦ λ e. from_asked (k x) q e | None ↦ λ e. absurd (raised_is (fault_at here kinds.EndOfBytes) q e) ]) h

  -- a fault of a node that it asks is the rule's
  asked_fault : {A : Type 0} (p : Rule A) (m : Node) (f : NodeFault) → met m ≡ Err f → Contains (asks_of met here bytes p) m
      → answer_of met here bytes p ≡ Err f
  asked_fault (Answer a) m f is h = absurd (no_member m h)
  asked_fault (Fail e) m f is h = absurd (no_member m h)
  asked_fault {A = A} (Ask (Of n) k) m f is h = (elim (met n) as (λ r. met n ≡ r → Contains (n ∷ behind_given r (λ g. asks_of met here bytes (k g))) m
      → with_given r (λ g. answer_of met here bytes (k g)) ≡ Err f) [
        | Ok g ↦ λ e c. elim (Contains-append_cases (n ∷ []) (asks_of met here bytes (k g)) m c) [
          | inl front ↦ elim (Contains-push_cases [] n m front) [
            | inl none ↦ absurd (no_member m none)
            | inr same ↦ cc
          ]
          | inr back ↦ asked_fault (k g) m f is back
        ]
        | Err e' ↦ λ e c. elim (Contains-push_cases [] n m c) [
          | inl none ↦ absurd (no_member m none)
          | inr same ↦ ap Err (err_is {A = Given} e' f (sym e ∙ ap met same ∙ is))
        ]
      ]) refl h
  asked_fault (Ask (See r) k) m f is h = (elim (look r bytes).seen as (λ o. Contains (behind_seen o (λ x. asks_of met here bytes (k x))) m
      → with_seen here o (λ x. answer_of met here bytes (k x)) ≡ Err f)
      [ Some x ↦ λ c. asked_fault (k x) m f is c | None ↦ λ c. absurd (no_member m c) ]) h

pub no_rule_makes_circles : NoRuleMakesCircles
no_rule_makes_circles d bytes met n p h =
    let s = from_asked met n.path bytes (rule_of d n) p h in
    record { node = s.0; asked = s.1; answer = s.2 }

-- ---- the way of a circle

module _ (d : Description) (bytes : List ℕ) where
  abbrev rules : Standing Node (Result Given Fault)
  rules = on (described d) bytes

  settled : IsSettled rules
  settled = record { own_number = node_number-one; bounded = node_number-below; settles = settles d bytes }

  -- an open node is a circle
  open_circle : (opened : List Node) (n : Node) → is_among node_number opened n ≡ true → from_nothing d bytes opened n ≡ circle n
  unfolding from_nothing answer_within
  open_circle opened n e =
      let below : node_number n < node_bound = node_number-below n in
      let k : ℕ = node_bound - 1 in
      let deep : node_bound ≡ suc k = omega arith in
      rw deep (rw e refl)

  abbrev Back : List Node → Node → Trail → Type 0
  Back opened n p = (way : List Node) × LeadsBack d bytes opened n way p

  -- where the node is open, the way has no further node
  by_open : (opened : List Node) (n : Node) (p : Trail) → from_nothing d bytes opened n ≡ Err (faults.Circle p)
      → (is_among node_number opened n ≡ false → Back opened n p) → Back opened n p
  by_open opened n p h other = elim (cases_Bool (is_among node_number opened n)) [
    | inl e ↦ let c = open_circle opened n e in ([], (e, cc))
    | inr e ↦ other e
  ]

  leads_back : (k : ℕ) (opened : List Node) (n : Node) (p : Trail) → AreDistinct rules opened → node_bound ≤ k + length opened
      → from_nothing d bytes opened n ≡ Err (faults.Circle p) → Back opened n p
  leads_back zero opened n p distinct deep h = by_open opened n p h
      (λ e. absurd (omega (arith, few rules settled (n ∷ opened) (AreDistinct-cons rules n opened e distinct))))
  leads_back (suc k) opened n p distinct deep h = by_open opened n p h (λ e.
      let follows = answers_follow_rules d bytes opened n (record { distinct = distinct; apart = e }) in
      let s = from_asked (from_nothing d bytes (n ∷ opened)) n.path bytes (rule_of d n) p (sym follows ∙ h) in
      let way = leads_back k (n ∷ opened) s.0 p (AreDistinct-cons rules n opened e distinct) (omega arith) s.2 in
      (s.0 ∷ way.0, (e, s.1, way.1)))

  is_circle : (way : List Node) (opened : List Node) (n : Node) (p : Trail) → AreDistinct rules opened → LeadsBack d bytes opened n way p
      → from_nothing d bytes opened n ≡ Err (faults.Circle p)
  is_circle [] opened n p distinct h = open_circle opened n h.0 ∙ ap (λ q. Err (faults.Circle q)) h.1
  is_circle (m ∷ way) opened n p distinct h =
      answers_follow_rules d bytes opened n (record { distinct = distinct; apart = h.0 })
      ∙ asked_fault (from_nothing d bytes (n ∷ opened)) n.path bytes (rule_of d n) m (faults.Circle p)
      (is_circle way (n ∷ opened) m p (AreDistinct-cons rules n opened h.0 distinct) h.2) h.1

pub circles_lead_back : CirclesLeadBack
circles_lead_back d bytes opened n p distinct = (
  λ h. leads_back d bytes node_bound opened n p distinct (omega arith) h,
  λ w. is_circle d bytes w.0 opened n p distinct w.1,
)
