-- With true replies a rule asks what it asks where each node has its answer, uses what it uses there, and answers what it
-- answers there.
use Rattle.ksv_nodes.proofs.Common.{◌≡◌, ℕ, zero, suc, ◌<◌, List, [], ◌∷◌, ◌++◌, length, take, Result, Ok, Err, Option, Some, None, refl, sym, ap, ◌∙◌, arith}
use Rattle.ksv_nodes.proofs.Common.{Answer, Fail, Ask, Need, next, run, Use, Trail, Fault, Given, Node, Reading, look, Rule, Of, See, State, replied, seen_in}
use Rattle.ksv_nodes.proofs.Common.{turns}
use Rattle.std.proofs.Common.{map, slice_get, append_assoc, append-nil}
use Rattle.ksv_basics.specs.Asking.{ended}
use Rattle.ksv_expr_value.specs.declared.fault.FaultKind.TheVariants as kinds
use Rattle.ksv_nodes.specs.Reading.{Seen}
use Rattle.ksv_nodes.specs.Turning.{fault_at, raised}
use Rattle.ksv_nodes.specs.Truth.{plain_answer, asks_of, uses_of, with_given, plain_seen, behind_given, behind_seen}

-- at a path, on these bytes, where each asked node has the answer that `met` gives
module _ (met : Node → Result Given Fault) (here : Trail) (bytes : List ℕ) where
  -- a state of these replies and uses
  abbrev pub at : List (Result Given Fault) → List Use → State
  at replies us = record { here = here; bytes = bytes; replies = replies; uses = us }

  -- With all the replies it ends with the answer, and has used just its uses. The replies after them are left.
  abbrev pub Ends : {A : Type 0} → Rule A → Type 0
  Ends p = (more : List (Result Given Fault)) (us : List Use)
      → run turns p (at (map met (asks_of met here bytes p) ++ more) us) ≡ ended (plain_answer met here bytes p) (at more (us ++ uses_of met here bytes p))

  ended_same : {A : Type 0} (a : Result A Fault) (more : List (Result Given Fault)) (us : List Use)
      → ended {N = Node} a (at more us) ≡ ended a (at more (us ++ []))
  ended_same a more us = ap (λ vs. ended {N = Node} a (at more vs)) (sym (append-nil us))

  given_ends : {A : Type 0} (n : Node) (k : Given → Rule A) → ((g : Given) → Ends (k g))
      → (more : List (Result Given Fault)) (us : List Use) (x : Result Given Fault)
      → next (replied n (x ∷ (map met (behind_given x (λ g. asks_of met here bytes (k g))) ++ more))
      (at (x ∷ (map met (behind_given x (λ g. asks_of met here bytes (k g))) ++ more)) us)) (λ g s. run turns (k g) s)
      ≡ ended (with_given x (λ g. plain_answer met here bytes (k g))) (at more (us ++ behind_given x (λ g. uses_of met here bytes (k g))))
  given_ends n k rest more us (Ok g) = rest g more us
  given_ends n k rest more us (Err f) = ended_same (Err f) more us

  seen_ends : {A X : Type 0} (k : X → Rule A) → ((x : X) → Ends (k x)) → (more : List (Result Given Fault)) (us vs : List Use) (o : Option X)
      → next (seen_in o (at (map met (behind_seen o (λ x. asks_of met here bytes (k x))) ++ more) (us ++ vs))) (λ x s. run turns (k x) s)
      ≡ ended (plain_seen here o (λ x. plain_answer met here bytes (k x))) (at more (us ++ (vs ++ behind_seen o (λ x. uses_of met here bytes (k x)))))
  seen_ends k rest more us vs (Some x) = rest x more (us ++ vs)
      ∙ ap (λ ws. ended {N = Node} (plain_answer met here bytes (k x)) (at more ws)) (append_assoc us vs (uses_of met here bytes (k x)))
  seen_ends {A = A} k rest more us vs None = ap (λ ws. ended {N = Node} {A = A} (Err (fault_at here kinds.EndOfBytes)) (at more (us ++ ws)))
      (sym (append-nil vs))

  pub ends : {A : Type 0} (p : Rule A) → Ends p
  ends (Answer a) more us = ended_same (Ok a) more us
  ends (Fail e) more us = ended_same (Err (raised e here)) more us
  ends (Ask (Of n) k) more us = given_ends n k (λ g. ends (k g)) more us (met n)
  ends (Ask (See r) k) more us = seen_ends k (λ x. ends (k x)) more us (look r bytes).uses (look r bytes).seen

  -- with the first of them alone it needs the next, and has used a beginning of its uses
  pub record NeedsNext {A : Type 0} (p : Rule A) (i : ℕ) (us : List Use) : Type 0 where
    pub node : Node
    pub is_next : slice_get (asks_of met here bytes p) i ≡ Some node
    pub used : List Use
    pub more : List Use
    pub ran : run turns p (at (map met (take i (asks_of met here bytes p))) us) ≡ Need node (at [] (us ++ used))
    pub begins : uses_of met here bytes p ≡ used ++ more

  -- after a reply
  module _ {A : Type 0} (n : Node) (k : Given → Rule A) (g : Given) (e : met n ≡ Ok g) where
    given_asks : asks_of met here bytes (Ask (Of n) k) ≡ n ∷ asks_of met here bytes (k g)
    given_asks = ap (λ x. n ∷ behind_given x (λ g'. asks_of met here bytes (k g'))) e

    given_uses : uses_of met here bytes (Ask (Of n) k) ≡ uses_of met here bytes (k g)
    given_uses = ap (λ x. behind_given x (λ g'. uses_of met here bytes (k g'))) e

    given_run : (nodes : List Node) (us : List Use) → run turns (Ask (Of n) k) (at (map met (n ∷ nodes)) us) ≡ run turns (k g) (at (map met nodes) us)
    given_run nodes us = ap (λ x. next (replied n (x ∷ map met nodes) (at (x ∷ map met nodes) us)) (λ g' s. run turns (k g') s)) e

    given_needs : (i : ℕ) (us : List Use) → NeedsNext (k g) i us → NeedsNext (Ask (Of n) k) (suc i) us
    given_needs i us r = record {
      node = r.node;
      is_next = ap (λ l. slice_get l (suc i)) given_asks ∙ r.is_next;
      used = r.used;
      more = r.more;
      ran = ap (λ l. run turns (Ask (Of n) k) (at (map met (take (suc i) l)) us)) given_asks ∙ given_run (take i (asks_of met here bytes (k g))) us ∙ r.ran;
      begins = given_uses ∙ r.begins;
    }

  -- after a reading
  module _ {A : Type 0} (r : Reading) (k : Seen r → Rule A) (x : Seen r) (e : (look r bytes).seen ≡ Some x) where
    seen_asks : asks_of met here bytes (Ask (See r) k) ≡ asks_of met here bytes (k x)
    seen_asks = ap (λ o. behind_seen o (λ y. asks_of met here bytes (k y))) e

    seen_uses : uses_of met here bytes (Ask (See r) k) ≡ (look r bytes).uses ++ uses_of met here bytes (k x)
    seen_uses = ap (λ o. (look r bytes).uses ++ behind_seen o (λ y. uses_of met here bytes (k y))) e

    seen_run : (replies : List (Result Given Fault)) (us : List Use)
        → run turns (Ask (See r) k) (at replies us) ≡ run turns (k x) (at replies (us ++ (look r bytes).uses))
    seen_run replies us = ap (λ o. next (seen_in o (at replies (us ++ (look r bytes).uses))) (λ y s. run turns (k y) s)) e

    seen_needs : (i : ℕ) (us : List Use) → NeedsNext (k x) i (us ++ (look r bytes).uses) → NeedsNext (Ask (See r) k) i us
    seen_needs i us q = record {
      node = q.node;
      is_next = ap (λ l. slice_get l i) seen_asks ∙ q.is_next;
      used = (look r bytes).uses ++ q.used;
      more = q.more;
      ran = ap (λ l. run turns (Ask (See r) k) (at (map met (take i l)) us)) seen_asks ∙ seen_run (map met (take i (asks_of met here bytes (k x)))) us ∙ q.ran
          ∙ ap (λ vs. Need q.node (at [] vs)) (append_assoc us (look r bytes).uses q.used);
      begins = seen_uses ∙ ap (λ vs. (look r bytes).uses ++ vs) q.begins ∙ sym (append_assoc (look r bytes).uses q.used q.more);
    }

  needs_given : {A : Type 0} (n : Node) (k : Given → Rule A) (i : ℕ) (us : List Use)
      → ((g : Given) (j : ℕ) (vs : List Use) → j < length (asks_of met here bytes (k g)) → NeedsNext (k g) j vs)
      → (x : Result Given Fault) → met n ≡ x → suc i < length (asks_of met here bytes (Ask (Of n) k)) → NeedsNext (Ask (Of n) k) (suc i) us
  needs_given n k i us rest (Ok g) e h = given_needs n k g e i us (rest g i us (omega (arith, ap length (given_asks n k g e))))
  needs_given n k i us rest (Err f) e h =
      let alone : asks_of met here bytes (Ask (Of n) k) ≡ n ∷ [] = ap (λ x. n ∷ behind_given x (λ g. asks_of met here bytes (k g))) e in
      absurd (omega (arith, ap length alone))

  needs_seen : {A : Type 0} (r : Reading) (k : Seen r → Rule A) (i : ℕ) (us : List Use)
      → ((x : Seen r) (j : ℕ) (vs : List Use) → j < length (asks_of met here bytes (k x)) → NeedsNext (k x) j vs)
      → (o : Option (Seen r)) → (look r bytes).seen ≡ o → i < length (asks_of met here bytes (Ask (See r) k)) → NeedsNext (Ask (See r) k) i us
  needs_seen r k i us rest (Some x) e h = seen_needs r k x e i us (rest x i (us ++ (look r bytes).uses) (omega (arith, ap length (seen_asks r k x e))))
  needs_seen r k i us rest None e h =
      let none : asks_of met here bytes (Ask (See r) k) ≡ [] = ap (λ o. behind_seen o (λ x. asks_of met here bytes (k x))) e in
      absurd (omega (arith, ap length none))

  pub needs : {A : Type 0} (p : Rule A) (i : ℕ) (us : List Use) → i < length (asks_of met here bytes p) → NeedsNext p i us
  needs (Answer a) i us h = absurd (omega arith)
  needs (Fail e) i us h = absurd (omega arith)
  needs (Ask (Of n) k) zero us h =
      record {
        node = n;
        is_next = refl;
        used = [];
        more = uses_of met here bytes (Ask (Of n) k);
        ran = ap (λ vs. Need n (at [] vs)) (sym (append-nil us));
        begins = refl;
      }
  needs (Ask (Of n) k) (suc i) us h = needs_given n k i us (λ g. needs (k g)) (met n) refl h
  needs (Ask (See r) k) i us h = needs_seen r k i us (λ x. needs (k x)) (look r bytes).seen refl h
