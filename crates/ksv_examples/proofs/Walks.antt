-- What evaluating a node yields, to a depth, is what the definitions say of it.
use Rattle.std.proofs.Common.{◌≡◌, ℕ, zero, suc, ◌+◌, ◌≤◌, Bool, true, false, List, [], ◌∷◌, ◌++◌, length, if◌then◌else◌, Option, Some, None}
use Rattle.std.proofs.Common.{option_map, Result, Ok, Err, refl, ap, sym, ◌∙◌, subst, arith}
use Rattle.std.specs.List.{flat_map}
use Rattle.ksv_basics.specs.Plan.{Answer, Fail, Ask}
use Rattle.ksv_desc.specs.Description.{Description}
use Rattle.ksv_expr_value.specs.Trail.{Trail}
use Rattle.ksv_expr_value.specs.declared.fault.Fault.{Fault}
use Rattle.ksv_expr_value.specs.declared.fault.FaultKind.TheVariants as kinds
use Rattle.ksv_rule_meaning.specs.Completed.{completed, completed_within, is_circle, meets_circle}
use Rattle.ksv_memo_rules.specs.Meaning.{Standing, on}
use Rattle.ksv_memo_rules.specs.Evaluation.{is_among}
use Rattle.ksv_memo_rules.specs.Right.{AreDistinct}
use Rattle.ksv_memo_rules.proofs.Evals.{AreDistinct-cons, few}
use Rattle.ksv_memo_rules.proofs.Keeping.{AreDistinct-none}
use Rattle.ksv_memo_rules.proofs.Standing.{law_on}
use Rattle.ksv_nodes.specs.Numbers.{node_number, node_bound}
use Rattle.ksv_nodes.specs.Reading.{Reading, Seen, look}
use Rattle.ksv_nodes.specs.Rule.{Rule, Of, See}
use Rattle.ksv_nodes.specs.Truth.{answer_of, asks_of, uses_of}
use Rattle.ksv_nodes.specs.Turning.{fault_at, raised}
use Rattle.ksv_nodes.specs.declared.given.Given.{Given}
use Rattle.ksv_nodes.specs.declared.node.Node.{Node}
use Rattle.ksv_nodes.specs.declared.node_fault.NodeFault.{NodeFault}
use Rattle.ksv_nodes.specs.declared.node_fault.NodeFault.TheVariants as faults
use Rattle.ksv_rule_meaning.specs.Described.{described}
use Rattle.ksv_rule_meaning.specs.FromNothing.{asks, from_nothing, uses}
use Rattle.ksv_rule_meaning.specs.Lemmas.Lawful.{described_lawful}
use Rattle.ksv_rule_meaning.specs.Meaning.{rule_of}
use Rattle.ksv_rule_meaning.proofs.Direct.{answers_follow_rules}
use Rattle.ksv_examples.specs.Depth.{is_open}
use Rattle.ksv_examples.specs.Walks.{Walk, behind_look, behind_node, closed, ended, open_walk, rule_walk, walk_at, with_answer, with_sight, with_walk}
use Rattle.ksv_examples.proofs.Depth.{open_numbered, opened_at, some_is}
use Rattle.ksv_examples.proofs.Sessions.{mapped}

-- ---- rules

-- what a node yields, where these functions say what nodes answer, and what they complete
record Meets (g : Node → Result Given NodeFault) (l : Node → List Node) (n : Node) (w : Walk Given NodeFault) : Type 0 where
  answer : g n ≡ w.answer
  completed : l n ≡ w.completed

module _ (g : Node → Result Given NodeFault) (l : Node → List Node) (here : Trail) (bytes : List ℕ) where
  -- what a rule yields
  record Comes {A : Type 0} (p : Rule A) (w : Walk A NodeFault) : Type 0 where
    answer : answer_of g here bytes p ≡ w.answer
    asks : asks_of g here bytes p ≡ w.asks
    uses : uses_of g here bytes p ≡ w.uses
    completed : flat_map l (asks_of g here bytes p) ≡ w.completed

  behind_ok : {A : Type 0} (n : Node) (k : Given → Rule A) (x : Walk Given NodeFault) (v : Given) (r : Walk A NodeFault) → Meets g l n x → g n ≡ Ok v
      → Comes (k v) r → Comes (Ask (Of n) k) (behind_node n x r)
  behind_ok n k x v r met is rest = record {
    answer = rw is rest.answer;
    asks = rw is (ap (λ ms. n ∷ ms) rest.asks);
    uses = rw is rest.uses;
    completed = rw (is, met.completed) (ap (λ ms. x.completed ++ ms) rest.completed);
  }

  behind_err : {A : Type 0} (n : Node) (k : Given → Rule A) (x : Walk Given NodeFault) (e : NodeFault) → Meets g l n x → g n ≡ Err e
      → Comes (Ask (Of n) k) (behind_node n x (ended (Err e)))
  behind_err n k x e met is = record {
    answer = rw is refl;
    asks = rw is refl;
    uses = rw is refl;
    completed = rw (is, met.completed) refl;
  }

  behind_some : {A : Type 0} (s : Reading) (k : Seen s → Rule A) (x : Seen s) (r : Walk A NodeFault) → (look s bytes).seen ≡ Some x → Comes (k x) r
      → Comes (Ask (See s) k) (behind_look (look s bytes).uses r)
  behind_some s k x r is rest = record {
    answer = rw is rest.answer;
    asks = rw is rest.asks;
    uses = rw is (ap (λ us. (look s bytes).uses ++ us) rest.uses);
    completed = rw is rest.completed;
  }

  behind_none : {A : Type 0} (s : Reading) (k : Seen s → Rule A) → (look s bytes).seen ≡ None
      → Comes (Ask (See s) k) (behind_look (look s bytes).uses (ended (Err (faults.Raised (fault_at here kinds.EndOfBytes)))))
  behind_none s k is = record {
    answer = rw is refl;
    asks = rw is refl;
    uses = rw is refl;
    completed = rw is refl;
  }

module _ (f : Node → Option (Walk Given NodeFault)) (g : Node → Result Given NodeFault) (l : Node → List Node)
    (each : (m : Node) (x : Walk Given NodeFault) → f m ≡ Some x → Meets g l m x) (here : Trail) (bytes : List ℕ) where
  abbrev Coming : {A : Type 0} → Rule A → Walk A NodeFault → Type 0
  Coming p w = Comes g l here bytes p w

  answered : {A : Type 0} (n : Node) (k : Given → Rule A) (x : Walk Given NodeFault) → Meets g l n x
      → ((v : Given) (r : Walk A NodeFault) → rule_walk f here bytes (k v) ≡ Some r → Coming (k v) r)
      → (a : Result Given NodeFault) → x.answer ≡ a → (w : Walk A NodeFault) → with_answer n x a (λ v. rule_walk f here bytes (k v)) ≡ Some w
      → Coming (Ask (Of n) k) w
  answered n k x met rest (Ok v) is w e =
      let b = mapped (behind_node n x) (rule_walk f here bytes (k v)) w e in
      subst (Comes g l here bytes (Ask (Of n) k)) b.2 (behind_ok g l here bytes n k x v b.0 met (met.answer ∙ is) (rest v b.0 b.1))
  answered n k x met rest (Err err) is w e =
      subst (Comes g l here bytes (Ask (Of n) k)) (some_is (behind_node n x (ended (Err err))) w e) (behind_err g l here bytes n k x err met (met.answer ∙ is))

  asked : {A : Type 0} (n : Node) (k : Given → Rule A) → ((v : Given) (r : Walk A NodeFault) → rule_walk f here bytes (k v) ≡ Some r → Coming (k v) r)
      → (o : Option (Walk Given NodeFault)) → f n ≡ o → (w : Walk A NodeFault) → with_walk n o (λ v. rule_walk f here bytes (k v)) ≡ Some w
      → Coming (Ask (Of n) k) w
  asked n k rest None is w e = absurd (cc)
  asked n k rest (Some x) is w e = answered n k x (each n x is) rest x.answer refl w e

  seen : {A : Type 0} (s : Reading) (k : Seen s → Rule A) → ((x : Seen s) (r : Walk A NodeFault) → rule_walk f here bytes (k x) ≡ Some r → Coming (k x) r)
      → (o : Option (Seen s)) → (look s bytes).seen ≡ o → (w : Walk A NodeFault)
      → with_sight here (look s bytes).uses o (λ x. rule_walk f here bytes (k x)) ≡ Some w → Coming (Ask (See s) k) w
  seen s k rest None is w e =
      subst (Comes g l here bytes (Ask (See s) k))
      (some_is (behind_look (look s bytes).uses (ended (Err (faults.Raised (fault_at here kinds.EndOfBytes))))) w e) (behind_none g l here bytes s k is)
  seen s k rest (Some x) is w e =
      let b = mapped (behind_look (look s bytes).uses) (rule_walk f here bytes (k x)) w e in
      subst (Comes g l here bytes (Ask (See s) k)) b.2 (behind_some g l here bytes s k x b.0 is (rest x b.0 b.1))

  rule_comes : {A : Type 0} (p : Rule A) (w : Walk A NodeFault) → rule_walk f here bytes p ≡ Some w → Coming p w
  rule_comes (Answer a) w e =
      subst (Comes g l here bytes (Answer a)) (some_is (ended (Ok a)) w e) (record { answer = refl; asks = refl; uses = refl; completed = refl })
  rule_comes (Fail x) w e =
      subst (Comes g l here bytes (Fail x)) (some_is (ended (Err (faults.Raised (raised x here)))) w e)
      (record { answer = refl; asks = refl; uses = refl; completed = refl })
  rule_comes (Ask (Of n) k) w e = asked n k (λ v r. rule_comes (k v) r) (f n) refl w e
  rule_comes (Ask (See s) k) w e = seen s k (λ x r. rule_comes (k x) r) (look s bytes).seen refl w e

-- ---- nodes

module _ (d : Description) (bytes : List ℕ) where
  abbrev w : Standing Node (Result Given Fault)
  w = on (described d) bytes

  -- what a node yields while these are open, by definitions that go so much deeper
  pub record Goes (depth : ℕ) (opened : List Node) (n : Node) (x : Walk Given NodeFault) : Type 0 where
    pub answer : from_nothing d bytes opened n ≡ x.answer
    pub circle : meets_circle d bytes opened n ≡ x.circle
    pub completed : completed_within d bytes depth opened n ≡ x.completed

  -- and if it isn't open, what it asks and reads
  pub record Does (opened : List Node) (n : Node) (x : Walk Given NodeFault) : Type 0 where
    pub asks : asks d bytes opened n ≡ x.asks
    pub uses : uses d bytes opened n ≡ x.uses

  -- where the depth suffices
  abbrev pub AllGo : ℕ → List Node → Type 0
  AllGo k opened = AreDistinct w opened → (n : Node) (x : Walk Given NodeFault) → walk_at d bytes k opened n ≡ Some x → (depth : ℕ)
      → node_bound ≤ depth + length opened → Goes depth opened n x

  -- a node that isn't open, and what its rule yields
  module _ (k : ℕ) (opened : List Node) (n : Node) (distinct : AreDistinct w opened) (out : is_among node_number opened n ≡ false)
      (below : AllGo k (n ∷ opened)) (v : Walk Given NodeFault) (e : rule_walk (walk_at d bytes k (n ∷ opened)) n.path bytes (rule_of d n) ≡ Some v) where
    further : AreDistinct w (n ∷ opened)
    further = AreDistinct-cons w n opened out distinct

    -- some node isn't open
    some_left : node_bound ≤ length opened → ⊥
    some_left deep = let more : length (n ∷ opened) ≤ node_bound = few w (law_on (described d) (described_lawful d) bytes) (n ∷ opened) further in omega arith

    -- what its rule yields, by definitions that go so much deeper for what it asks
    coming : (depth : ℕ) → node_bound ≤ suc depth + length opened
        → Comes (from_nothing d bytes (n ∷ opened)) (completed_within d bytes depth (n ∷ opened)) n.path bytes (rule_of d n) v
    coming depth deep =
        let answers : Node → Result Given NodeFault = from_nothing d bytes (n ∷ opened) in
        let completes : Node → List Node = completed_within d bytes depth (n ∷ opened) in
        let each : (m : Node) (x : Walk Given NodeFault) → walk_at d bytes k (n ∷ opened) m ≡ Some x → Meets answers completes m x
        = λ m x h. let goes : Goes depth (n ∷ opened) m x = below further m x h depth (omega arith) in (record { answer = goes.answer; completed = goes.completed }) in
        rule_comes (walk_at d bytes k (n ∷ opened)) answers completes each n.path bytes (rule_of d n) v e

    answer_is : from_nothing d bytes opened n ≡ v.answer
    answer_is = answers_follow_rules d bytes opened n (record { distinct = distinct; apart = out }) ∙ (coming node_bound (omega arith)).answer

    circle_is : meets_circle d bytes opened n ≡ is_circle v.answer
    unfolding meets_circle
    circle_is = ap is_circle answer_is

    completed_is : (depth : ℕ) → node_bound ≤ depth + length opened → completed_within d bytes depth opened n ≡ (closed n v).completed
    unfolding completed_within
    completed_is zero deep = absurd (some_left (omega arith))
    completed_is (suc depth) deep = rw (out, circle_is) (ap (λ ms. ms ++ (if is_circle v.answer then [] else n ∷ [])) (coming depth deep).completed)

    goes : (depth : ℕ) → node_bound ≤ depth + length opened → Goes depth opened n (closed n v)
    goes depth deep = record { answer = answer_is; circle = circle_is; completed = completed_is depth deep }

    does : Does opened n (closed n v)
    does = record { asks = (coming node_bound (omega arith)).asks; uses = (coming node_bound (omega arith)).uses }

  -- an open node
  open_goes : (opened : List Node) (n : Node) → is_among node_number opened n ≡ true → (depth : ℕ) → Goes depth opened n (open_walk n)
  unfolding from_nothing completed_within meets_circle
  open_goes opened n among zero = record {
    answer = opened_at d bytes node_bound opened n among;
    circle = ap is_circle (opened_at d bytes node_bound opened n among);
    completed = refl;
  }
  open_goes opened n among (suc depth) = record {
    answer = opened_at d bytes node_bound opened n among;
    circle = ap is_circle (opened_at d bytes node_bound opened n among);
    completed = rw among refl;
  }

  level : (k : ℕ) (opened : List Node) (n : Node) (x : Walk Given NodeFault) → AreDistinct w opened → AllGo k (n ∷ opened) → (depth : ℕ)
      → node_bound ≤ depth + length opened → (b : Bool) → is_open opened n ≡ b
      → elim b as (λ _. Option (Walk Given NodeFault)) [
        | true ↦ Some (open_walk n)
        | false ↦ option_map (closed n) (rule_walk (walk_at d bytes k (n ∷ opened)) n.path bytes (rule_of d n))
      ] ≡ Some x
      → Goes depth opened n x
  level k opened n x distinct below depth deep true found e = subst (Goes depth opened n) (some_is (open_walk n) x e) (open_goes opened n (sym (open_numbered opened n) ∙ found) depth)
  level k opened n x distinct below depth deep false found e =
      let b = mapped (closed n) (rule_walk (walk_at d bytes k (n ∷ opened)) n.path bytes (rule_of d n)) x e in
      subst (Goes depth opened n) b.2 (goes k opened n distinct (sym (open_numbered opened n) ∙ found) below b.0 b.1 depth deep)

  -- what a node yields, to a depth
  pub all_go : (k : ℕ) (opened : List Node) → AllGo k opened
  unfolding walk_at
  all_go zero opened distinct n x e depth deep = absurd (cc)
  all_go (suc k) opened distinct n x e depth deep = level k opened n x distinct (all_go k (n ∷ opened)) depth deep (is_open opened n) refl e

  -- the same where no node is open
  pub record Alone (n : Node) (x : Walk Given NodeFault) : Type 0 where
    pub answer : from_nothing d bytes [] n ≡ x.answer
    pub circle : meets_circle d bytes [] n ≡ x.circle
    pub completed : completed d bytes [] n ≡ x.completed
    pub asks : asks d bytes [] n ≡ x.asks
    pub uses : uses d bytes [] n ≡ x.uses

  pub alone : (k : ℕ) (n : Node) (x : Walk Given NodeFault) → walk_at d bytes k [] n ≡ Some x → Alone n x
  unfolding walk_at meets_circle completed
  alone zero n x e = absurd (cc)
  alone (suc k) n x e =
      let b = mapped (closed n) (rule_walk (walk_at d bytes k (n ∷ [])) n.path bytes (rule_of d n)) x e in
      let went : Goes node_bound [] n x = all_go (suc k) [] (AreDistinct-none w) n x e node_bound (omega arith) in
      let done : Does [] n x = subst (Does [] n) b.2 (does k [] n (AreDistinct-none w) refl (all_go k (n ∷ [])) b.0 b.1) in
      record { answer = went.answer; circle = went.circle; completed = went.completed; asks = done.asks; uses = done.uses }
