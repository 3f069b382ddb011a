-- What rules say where the nodes that they ask have known answers.
use Rattle.std.proofs.Common.{append-nil}
use Rattle.ksv_bytes.specs.declared.uses.Use.TheVariants as uses_are
use Rattle.ksv_expr_value.specs.Places.{byte_in}
use Rattle.ksv_expr_value.specs.declared.fault.FaultKind.{FaultKind}
use Rattle.ksv_nodes.specs.Reading.{Reading, Reach, Seen, Look, gives, ends_before, reach_file, reach_within, done_at}
use Rattle.ksv_nodes.specs.Rule.{Of, raise}
use Rattle.ksv_nodes.specs.Truth.{answer_of, asks_of, uses_of, with_given, with_seen, behind_given, behind_seen}
use Rattle.ksv_nodes.specs.Turning.{fault_at}
use Rattle.ksv_nodes.specs.declared.given.Given.TheVariants as givens
use Rattle.ksv_nodes.specs.declared.node_fault.NodeFault.TheVariants as faults
use Rattle.ksv_list_laws.proofs.Common.{bind, Head, ◌≡◌, ◌∙◌, ℕ, ◌+◌, ◌≤◌, nat_lt, nat_le, Bool, true, false, if◌then◌else◌, List, [], ◌∷◌, ◌++◌, length}
use Rattle.ksv_list_laws.proofs.Common.{Option, Some, None, Result, Ok, Err, refl, sym, ap, subst, arith, nat_tests, Answer, Ask, Use, at_byte, Trail, Stream}
use Rattle.ksv_list_laws.proofs.Common.{Node, Given, NodeFault, Done, look, end_in, Rule, See}
use Rattle.ksv_list_laws.specs.Nodes.{stream_uses}

-- the rule of a node's head
abbrev pub as_head : Rule Head → Rule Given
as_head r = bind r (λ h. Answer (givens.Head h))

module _ (met : Node → Result Given NodeFault) (here : Trail) (bytes : List ℕ) where
  -- a rule ends in this answer or fault, and asks and uses this
  pub record Ends {A : Type 0} (p : Rule A) (r : Result A NodeFault) (ns : List Node) (us : List Use) : Type 0 where
    pub answer : answer_of met here bytes p ≡ r
    pub asked : asks_of met here bytes p ≡ ns
    pub used : uses_of met here bytes p ≡ us

  -- a rule answers, asks and uses this
  abbrev pub Says : {A : Type 0} → Rule A → A → List Node → List Use → Type 0
  Says p a ns us = Ends p (Ok a) ns us

  -- a rule that says no more
  pub says_answer : {A : Type 0} (a : A) → Says (Answer a) a [] []
  says_answer a = record { answer = refl; asked = refl; used = refl }

  -- or raises a fault at its own path
  pub ends_raised : {A : Type 0} (k : FaultKind) → Ends {A = A} (raise k) (Err (faults.Raised (fault_at here k))) [] []
  ends_raised k = record { answer = refl; asked = refl; used = refl }

  -- a node answered
  pub ends_given : {A : Type 0} (n : Node) (k : Given → Rule A) (g : Given) (r : Result A NodeFault) (ns : List Node) (us : List Use) → met n ≡ Ok g
      → Ends (k g) r ns us
      → Ends (Ask (Of n) k) r (n ∷ ns) us
  ends_given n k g r ns us e s = record {
    answer = ap (λ x. with_given x (λ y. answer_of met here bytes (k y))) e ∙ s.answer;
    asked = ap (λ x. n ∷ behind_given x (λ y. asks_of met here bytes (k y))) e ∙ ap (λ ms. n ∷ ms) s.asked;
    used = ap (λ x. behind_given x (λ y. uses_of met here bytes (k y))) e ∙ s.used;
  }

  pub says_given : {A : Type 0} (n : Node) (k : Given → Rule A) (g : Given) (a : A) (ns : List Node) (us : List Use) → met n ≡ Ok g → Says (k g) a ns us
      → Says (Ask (Of n) k) a (n ∷ ns) us
  says_given n k g a ns us e s = ends_given n k g (Ok a) ns us e s

  -- a node's fault is that of the rule that asks it
  pub ends_fault : {A : Type 0} (n : Node) (k : Given → Rule A) (f : NodeFault) → met n ≡ Err f → Ends (Ask (Of n) k) (Err f) (n ∷ []) []
  ends_fault n k f e = record {
    answer = ap (λ x. with_given x (λ y. answer_of met here bytes (k y))) e;
    asked = ap (λ x. n ∷ behind_given x (λ y. asks_of met here bytes (k y))) e;
    used = ap (λ x. behind_given x (λ y. uses_of met here bytes (k y))) e;
  }

  -- something was seen
  pub says_seen : {A : Type 0} (r : Reading) (k : Seen r → Rule A) (x : Seen r) (vs : List Use) (a : A) → look r bytes ≡ gives x vs → k x ≡ Answer a
      → Says (Ask (See r) k) a [] vs
  says_seen r k x vs a e s = record {
    answer = ap (λ (y : Look (Seen r)). with_seen here y.seen (λ z. answer_of met here bytes (k z))) e ∙ ap (λ p. answer_of met here bytes p) s;
    asked = ap (λ (y : Look (Seen r)). behind_seen y.seen (λ z. asks_of met here bytes (k z))) e ∙ ap (λ p. asks_of met here bytes p) s;
    used = ap (λ (y : Look (Seen r)). y.uses ++ behind_seen y.seen (λ z. uses_of met here bytes (k z))) e
        ∙ ap (λ p. vs ++ uses_of met here bytes p) s ∙ append-nil vs;
  }

  -- by an equal rule
  pub ends_by : {A : Type 0} (p q : Rule A) (r : Result A NodeFault) (ns : List Node) (us : List Use) → p ≡ q → Ends q r ns us → Ends p r ns us
  ends_by p q r ns us e s = subst (λ x. Ends x r ns us) (sym e) s

  pub says_by : {A : Type 0} (p q : Rule A) (a : A) (ns : List Node) (us : List Use) → p ≡ q → Says q a ns us → Says p a ns us
  says_by p q a ns us e s = ends_by p q (Ok a) ns us e s

  -- what it asks, said otherwise
  pub ends_asking : {A : Type 0} (p : Rule A) (r : Result A NodeFault) (ms ns : List Node) (us : List Use) → ms ≡ ns → Ends p r ns us → Ends p r ms us
  ends_asking p r ms ns us e s = record { answer = s.answer; asked = s.asked ∙ sym e; used = s.used }

  pub says_asking : {A : Type 0} (p : Rule A) (a : A) (ms ns : List Node) (us : List Use) → ms ≡ ns → Says p a ns us → Says p a ms us
  says_asking p a ms ns us e s = ends_asking p (Ok a) ms ns us e s

-- ---- readings

pub reaches : (bytes : List ℕ) (w : Stream) (t : ℕ) → end_in bytes w.to ≤ length bytes → t ≤ end_in bytes w.to
    → look (Reach w t) bytes ≡ gives tt (uses_are.Reach t ∷ [])
unfolding reach_within reach_file
reaches bytes w t within le = by w.to within le
  where
    by : (o : Option ℕ) → end_in bytes o ≤ length bytes → t ≤ end_in bytes o → reach_within bytes o t ≡ gives tt (uses_are.Reach t ∷ [])
    by None within' le' =
        let is : nat_le t (length bytes) ≡ true = grind (arith, nat_tests) in
        ap (λ b. if b then gives tt (uses_are.Reach t ∷ []) else ends_before (uses_are.Size ∷ [])) is
    by (Some e) within' le' =
        let is : nat_le t (length bytes) ≡ true = grind (arith, nat_tests) in
        let no : nat_lt e t ≡ false = grind (arith, nat_tests) in
        ap (λ b. if b then ends_before [] else reach_file bytes t) no ∙ ap
        (λ b. if b then gives tt (uses_are.Reach t ∷ []) else ends_before (uses_are.Size ∷ [])) is

byte_in_byte : (t : ℕ) → byte_in (at_byte t) ≡ t
unfolding byte_in at_byte
byte_in_byte t = omega arith

pub ends_there : (bytes : List ℕ) (w : Stream) (t : ℕ) → look (Done w (at_byte t)) bytes ≡ gives (nat_le (end_in bytes w.to) t) (stream_uses bytes w.to t)
unfolding done_at
ends_there bytes w t = ap (λ n. done_at bytes w.to n) (byte_in_byte t) ∙ by w.to
  where
    turned : (b c : Bool) → (b ≡ true → c ≡ false) → (b ≡ false → c ≡ true)
        → (if b then gives false (uses_are.Reach (t + 1) ∷ []) else gives true (uses_are.Size ∷ [])) ≡ gives c
        ((if b then uses_are.Reach (t + 1) else uses_are.Size) ∷ [])
    turned true c f g = ap (λ x. gives x (uses_are.Reach (t + 1) ∷ [])) (sym (f refl))
    turned false c f g = ap (λ x. gives x (uses_are.Size ∷ [])) (sym (g refl))

    by : (o : Option ℕ) → done_at bytes o t ≡ gives (nat_le (end_in bytes o) t) (stream_uses bytes o t)
    by None = turned (nat_lt t (length bytes)) (nat_le (length bytes) t) (λ e. grind (arith, nat_tests)) (λ e. grind (arith, nat_tests))
    by (Some e) = refl
