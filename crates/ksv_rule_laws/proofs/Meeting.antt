-- What an expression answers in a rule, where each node that it asks has an answer.
use Rattle.ksv_rule_laws.proofs.Common.{◌≡◌, ℕ, List, [], ◌∷◌, Result, Ok, Err, Some, None, refl, sym, ap, ◌∙◌, Answer, Fail, Ask, bind, Trail, Heard}
use Rattle.ksv_rule_laws.proofs.Common.{Setting, Eval, value_of, Want, look, Rule, Of, See, answer_of, with_given, with_seen, Node, NodeFault, Given}
use Rattle.ksv_rule_laws.proofs.Common.{expression}
use Rattle.std.proofs.Common.{◌++◌, flat_map, append_assoc, append-nil}
use Rattle.ksv_basics.specs.Plan.{translate}
use Rattle.ksv_basics.specs.Asking.{and_then, asks_behind}
use Rattle.ksv_basics.specs.Asking.{answer_of as plan_answer, asks_of as plan_asks}
use Rattle.ksv_bytes.specs.declared.uses.Use.{Use}
use Rattle.ksv_nodes.specs.NodeFaults.{raised_at}
use Rattle.ksv_nodes.specs.Rule.{Here}
use Rattle.ksv_nodes.specs.Truth.{asks_of, uses_of, behind_given as given_list, behind_seen as seen_list}
use Rattle.ksv_rule_meaning.specs.Wanted.{wanted}
use Rattle.ksv_rule_laws.specs.Expressions.{ExpressionsAreMet}

-- going on after an answer by two functions that agree
same_then : {A B : Type 0} (r : Result A NodeFault) (f g : A → Result B NodeFault) → ((a : A) → f a ≡ g a) → and_then r f ≡ and_then r g
same_then (Ok a) f g same = same a
same_then (Err e) f g same = refl

module _ (met : Node → Result Given NodeFault) (here : Trail) (bytes : List ℕ) where
  -- what a rule answers, asks and uses there
  abbrev Gives : {A : Type 0} → Rule A → Result A NodeFault
  Gives p = answer_of met here bytes p

  abbrev Asked : {A : Type 0} → Rule A → List Node
  Asked p = asks_of met here bytes p

  abbrev Used : {A : Type 0} → Rule A → List Use
  Used p = uses_of met here bytes p

  -- the same of one rule after another
  answer_bind : {A B : Type 0} (p : Rule A) (f : A → Rule B) → Gives (bind p f) ≡ and_then (Gives p) (λ a. Gives (f a))
  unfolding bind
  answer_bind (Answer a) f = refl
  answer_bind (Fail e) f = refl
  answer_bind (Ask (Of n) k) f = elim (met n) as (λ r. with_given r (λ g. Gives (bind (k g) f)) ≡ and_then (with_given r (λ g. Gives (k g))) (λ a. Gives (f a)))
      [ Ok g ↦ answer_bind (k g) f | Err e ↦ refl ]
  answer_bind (Ask (See r) k) f = elim (look r bytes).seen
      as (λ o. with_seen here o (λ x. Gives (bind (k x) f)) ≡ and_then (with_seen here o (λ x. Gives (k x))) (λ a. Gives (f a)))
      [ Some x ↦ answer_bind (k x) f | None ↦ refl ]

  asks_bind : {A B : Type 0} (p : Rule A) (f : A → Rule B) → Asked (bind p f) ≡ Asked p ++ asks_behind (Gives p) (λ a. Asked (f a))
  unfolding bind
  asks_bind (Answer a) f = refl
  asks_bind (Fail e) f = refl
  asks_bind (Ask (Of n) k) f = elim (met n) as (λ r. n ∷ given_list r (λ g. Asked (bind (k g) f)) ≡
      (n ∷ given_list r (λ g. Asked (k g))) ++ asks_behind (with_given r (λ g. Gives (k g))) (λ a. Asked (f a)))
      [ Ok g ↦ ap (λ ns. n ∷ ns) (asks_bind (k g) f) | Err e ↦ refl ]
  asks_bind (Ask (See r) k) f = elim (look r bytes).seen as (λ o. seen_list o (λ x. Asked (bind (k x) f)) ≡
      seen_list o (λ x. Asked (k x)) ++ asks_behind (with_seen here o (λ x. Gives (k x))) (λ a. Asked (f a)))
      [ Some x ↦ asks_bind (k x) f | None ↦ refl ]

  uses_bind : {A B : Type 0} (p : Rule A) (f : A → Rule B) → Used (bind p f) ≡ Used p ++ asks_behind (Gives p) (λ a. Used (f a))
  unfolding bind
  uses_bind (Answer a) f = refl
  uses_bind (Fail e) f = refl
  uses_bind (Ask (Of n) k) f = elim (met n) as (λ r. given_list r (λ g. Used (bind (k g) f)) ≡
      given_list r (λ g. Used (k g)) ++ asks_behind (with_given r (λ g. Gives (k g))) (λ a. Used (f a)))
      [ Ok g ↦ uses_bind (k g) f | Err e ↦ refl ]
  uses_bind (Ask (See r) k) f = let us = (look r bytes).uses in elim (look r bytes).seen as (λ o. us ++ seen_list o (λ x. Used (bind (k x) f)) ≡
      (us ++ seen_list o (λ x. Used (k x))) ++ asks_behind (with_seen here o (λ x. Gives (k x))) (λ a. Used (f a)))
      [ Some x ↦ rw append_assoc (ap (λ vs. us ++ vs) (uses_bind (k x) f)) | None ↦ sym (append-nil (us ++ [])) ]

  -- a plan over wants, translated
  met_plan : {A : Type 0} (s : Setting) (p : Eval A)
      → Gives (translate (wanted s) Here p) ≡ plan_answer (raised_at here) (λ w. Gives (wanted s w)) p
  met_plan s (Answer a) = refl
  met_plan s (Fail k) = refl
  met_plan s (Ask w k) = answer_bind (wanted s w) _ ∙ same_then (Gives (wanted s w)) _ _ (λ h. met_plan s (k h))

  -- a plan over wants, translated, asks and uses what its wants do
  module _ (s : Setting) where
    abbrev heard_of : Want → Result Heard NodeFault
    heard_of w = Gives (wanted s w)

    -- what some rules ask or use, one for each want
    rest_same : {X : Type 0} (each : Want → List X) (w : Want) (behind : Heard → List X) (wants : Heard → List Want)
        → ((h : Heard) → behind h ≡ flat_map each (wants h)) → (r : Result Heard NodeFault)
        → each w ++ asks_behind r behind ≡ each w ++ flat_map each (asks_behind r wants)
    rest_same each w behind wants same (Ok h) = ap (λ xs. each w ++ xs) (same h)
    rest_same each w behind wants same (Err e) = refl

    asks_plan : {A : Type 0} (p : Eval A) → Asked (translate (wanted s) Here p) ≡ flat_map (λ w. Asked (wanted s w)) (plan_asks heard_of p)
    asks_plan (Answer a) = refl
    asks_plan (Fail k) = refl
    asks_plan (Ask w k) = asks_bind (wanted s w) _ ∙ rest_same (λ v. Asked (wanted s v)) w _ _ (λ h. asks_plan (k h)) (heard_of w)

    uses_plan : {A : Type 0} (p : Eval A) → Used (translate (wanted s) Here p) ≡ flat_map (λ w. Used (wanted s w)) (plan_asks heard_of p)
    uses_plan (Answer a) = refl
    uses_plan (Fail k) = refl
    uses_plan (Ask w k) = uses_bind (wanted s w) _ ∙ rest_same (λ v. Used (wanted s v)) w _ _ (λ h. uses_plan (k h)) (heard_of w)

pub expressions_are_met : ExpressionsAreMet
unfolding expression
expressions_are_met met bytes s e = record {
  answer = met_plan met s.here bytes s (value_of s e);
  asks = asks_plan met s.here bytes s (value_of s e);
  uses = uses_plan met s.here bytes s (value_of s e);
}
