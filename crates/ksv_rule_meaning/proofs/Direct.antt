-- Evaluation by replies, as every engine has it, is the direct one.
use Rattle.std.proofs.Common.{◌≡◌, inl, inr, ℕ, zero, suc, ◌+◌, ◌≤◌, ◌<◌, Bool, true, false, cond, List, [], ◌∷◌, ◌++◌, length, map, Option, Some, None, Result}
use Rattle.std.proofs.Common.{Ok, Err, refl, sym, ap, ◌∙◌, arith, append_assoc, append-nil, length-append}
use mathlib.Core.Path.{fun_ext}
use Rattle.std.proofs.lemmas.List.Elements.{Contains-append_left, Contains-append_right, Contains-append_cases}
use Rattle.ksv_basics.specs.Plan.{Answer, Fail, Ask, Ran, run, behind}
use Rattle.ksv_basics.specs.Asking.{ended}
use Rattle.ksv_bytes.specs.declared.uses.Use.{Use}
use Rattle.ksv_expr_value.specs.declared.fault.Fault.{Fault}
use Rattle.ksv_expr_value.specs.declared.fault.FaultKind.TheVariants as kinds
use Rattle.ksv_desc.specs.Description.{Description}
use Rattle.ksv_memo_rules.specs.declared.rules.Next.TheVariants as steps
use Rattle.ksv_memo_rules.specs.declared.rules.Outcome.{Outcome}
use Rattle.ksv_memo_rules.specs.declared.rules.Outcome.TheVariants.{Answered, Circle}
use Rattle.ksv_memo_rules.specs.Meaning.{Standing, IsSettled, on}
use Rattle.ksv_memo_rules.specs.Evaluation.{is_among, Told, only_circle, after, with_reply, with_step, told, eval, tells, answering}
use Rattle.ksv_memo_rules.proofs.Evals.{tells-free}
use Rattle.ksv_nodes.specs.declared.node.Node.{Node}
use Rattle.ksv_nodes.specs.declared.given.Given.{Given}
use Rattle.ksv_nodes.specs.declared.node_fault.NodeFault.{NodeFault}
use Rattle.ksv_nodes.specs.Numbers.{node_number, node_bound, node_number-one, node_number-below}
use Rattle.ksv_nodes.specs.Reading.{Reading, Seen, look}
use Rattle.ksv_nodes.specs.Rule.{Rule, Of, See, There}
use Rattle.ksv_nodes.specs.Turning.{State, fault_at, raised, turns}
use Rattle.ksv_nodes.specs.Truth.{answer_of, plain_answer, asks_of, uses_of}
use Rattle.ksv_nodes.proofs.Truth.{ends, needs}
use Rattle.ksv_rule_meaning.specs.Meaning.{rule_of}
use Rattle.ksv_rule_meaning.specs.FromNothing.{circle, answer_within, from_nothing}
use Rattle.ksv_rule_meaning.specs.Described.{most_asks, resumed, step_of, described}
use Rattle.ksv_rule_meaning.specs.Lemmas.Bounds.{settles}
use Rattle.ksv_rule_meaning.specs.Direct.{flattened, AreSameUses, IsFree, IsDirect, AnswersAreDirect, AsksAreDirect, AnswersFollowRules, NeedsNext, MeetsTruth}
use Rattle.ksv_rule_meaning.specs.Direct.{NextMeetsTruth}

-- ---- the same uses

same_uses : (us vs : List Use) → us ≡ vs → AreSameUses us vs
same_uses us vs e = λ u. (λ h. rw (← e) h, λ h. rw e h)

-- a beginning comes again
same_again : (us ws vs : List Use) → AreSameUses ws (us ++ vs) → AreSameUses (us ++ ws) (us ++ vs)
same_again us ws vs same = λ u. (
  λ h. elim (Contains-append_cases us ws u h) [ inl front ↦ Contains-append_left us vs u front | inr back ↦ (same u).0 back ],
  λ h. Contains-append_right us ws u ((same u).1 h),
)

-- ---- what a rule tells, where it has gone on to what is left of it

-- a node of a description on some bytes, each node that it asks having this outcome
module _ (d : Description) (bytes : List ℕ) (n : Node) (ask : Node → Outcome Node (Result Given Fault)) where
  abbrev w : Standing Node (Result Given Fault)
  w = on (described d) bytes

  abbrev met : Node → Result Given NodeFault
  met m = flattened (ask m)

  abbrev at : List (Result Given Fault) → List Use → State
  at replies us = record { here = n.path; bytes = bytes; replies = replies; uses = us }

  -- what is told is what is left of the rule, after uses
  pub record Meets (t : Told Node (Result Given Fault)) (us : List Use) (p : Rule Given) : Type 0 where
    pub outcome : flattened t.outcome ≡ answer_of met n.path bytes p
    pub asked : t.asked ≡ asks_of met n.path bytes p
    pub uses : AreSameUses t.uses (us ++ uses_of met n.path bytes p)

  -- after these replies the rule goes on as p
  abbrev pub GoesOn : List (Result Given Fault) → List Use → Rule Given → Type 0
  GoesOn replies us p = (more : List (Result Given Fault)) → run turns (rule_of d n) (at (replies ++ more) []) ≡ run turns p (at more us)

  -- what is told from some replies on, by what the rule yields with them
  abbrev step_told : ℕ → List (Result Given Fault) → Ran Node Fault State Given → Told Node (Result Given Fault)
  step_told j replies ran = with_step ask (behind ran).uses (λ a. told w ask n j (replies ++ a ∷ [])) (step_of ran)

  told_at : (j : ℕ) (replies : List (Result Given Fault)) (us : List Use) (p : Rule Given) → GoesOn replies us p
      → told w ask n (suc j) replies ≡ step_told j replies (run turns p (at [] us))
  unfolding told
  told_at j replies us p goes = ap (step_told j replies) (rw append-nil at (goes []))

  follow_at : (replies : List (Result Given Fault)) (us : List Use) (p : Rule Given) → GoesOn replies us p
      → w.follow n replies ≡ step_of (run turns p (at [] us))
  follow_at replies us p goes = ap step_of (rw append-nil at (goes []))

  moved : (t u : Told Node (Result Given Fault)) (us : List Use) (p : Rule Given) → t ≡ u → Meets u us p → Meets t us p
  moved t u us p e h = rw e h

  -- the rule is done
  ended_meets : (a : Result Given Fault) (us vs : List Use) (p : Rule Given) → flattened (Answered a) ≡ answer_of met n.path bytes p
      → [] ≡ asks_of met n.path bytes p → us ≡ vs ++ uses_of met n.path bytes p → Meets (record { outcome = Answered a; asked = []; uses = us }) vs p
  ended_meets a us vs p answer asks uses = record { outcome = answer; asked = asks; uses = same_uses us (vs ++ uses_of met n.path bytes p) uses }

  -- a fault of a node that it asks is its own
  fault_told : (j : ℕ) (replies : List (Result Given Fault)) (us : List Use) (m : Node) (k : Given → Rule Given) (f : Fault) → GoesOn replies us (Ask (Of m) k)
      → told w ask n (suc j) (replies ++ Err f ∷ []) ≡ record { outcome = Answered (Err f); asked = []; uses = us }
  unfolding with_step
  fault_told j replies us m k f goes = told_at j (replies ++ Err f ∷ []) us (Fail (There f.kind f.path))
      (λ more. rw (append_assoc replies (Err f ∷ []) more) (goes (Err f ∷ more)))

  -- after a reply
  reply_meets : (j : ℕ) (replies : List (Result Given Fault)) (us : List Use) (m : Node) (k : Given → Rule Given) → most_asks d ≤ suc j + length replies
      → GoesOn replies us (Ask (Of m) k)
      → ((g : Given) (i : ℕ) (rs : List (Result Given Fault)) → most_asks d ≤ i + length rs → GoesOn rs us (k g) → Meets (told w ask n (suc i) rs) us (k g))
      → (o : Outcome Node (Result Given Fault)) → ask m ≡ o
      → Meets (after (m ∷ []) us (with_reply (λ a. told w ask n (suc j) (replies ++ a ∷ [])) o)) us (Ask (Of m) k)
  unfolding with_reply
  reply_meets j replies us m k few goes rest (Answered (Ok g)) e =
      let below = rest g j (replies ++ Ok g ∷ []) (omega (arith, length-append replies (Ok g ∷ [])))
      (λ more. rw (append_assoc replies (Ok g ∷ []) more) (goes (Ok g ∷ more))) in
      record {
        outcome = rw e below.outcome;
        asked = rw e (ap (λ ns. m ∷ ns) below.asked);
        uses = rw e (same_again us _ (uses_of met n.path bytes (k g)) below.uses);
      }
  reply_meets j replies us m k few goes rest (Answered (Err f)) e =
      let is = fault_told j replies us m k f goes in
      record {
        outcome = rw (e, is) refl;
        asked = rw (e, is) refl;
        uses = rw e (same_again us _ [] (same_uses _ _ (ap (λ (t : Told Node (Result Given Fault)). t.uses) is ∙ sym (append-nil us))));
      }
  reply_meets j replies us m k few goes rest (Circle c) e =
      record { outcome = rw e refl; asked = rw e refl; uses = rw e (same_uses (us ++ []) (us ++ []) refl) }

  -- after a reading
  module _ (r : Reading) (k : Seen r → Rule Given) where
    seen_meets : (j : ℕ) (replies : List (Result Given Fault)) (us : List Use) → GoesOn replies us (Ask (See r) k)
        → ((x : Seen r) → GoesOn replies (us ++ (look r bytes).uses) (k x) → Meets (told w ask n (suc j) replies) (us ++ (look r bytes).uses) (k x))
        → (o : Option (Seen r)) → (look r bytes).seen ≡ o → Meets (told w ask n (suc j) replies) us (Ask (See r) k)
    unfolding with_step
    seen_meets j replies us goes rest (Some x) e =
        let below = rest x (λ more. goes more ∙ rw e refl) in
        record {
          outcome = rw e below.outcome;
          asked = rw e below.asked;
          uses = rw (e, ← append_assoc us (look r bytes).uses (uses_of met n.path bytes (k x))) below.uses;
        }
    seen_meets j replies us goes rest None e =
        let told_is : told w ask n (suc j) replies
        ≡ record { outcome = Answered (Err (fault_at n.path kinds.EndOfBytes)); asked = []; uses = us ++ (look r bytes).uses } =
        told_at j replies us (Ask (See r) k) goes ∙ rw e refl in
        moved _ _ us (Ask (See r) k) told_is (ended_meets (Err (fault_at n.path kinds.EndOfBytes)) (us ++ (look r bytes).uses) us (Ask (See r) k)
        (rw e refl) (rw e refl) (rw (e, append-nil) refl))

  pub meets : (p : Rule Given) (j : ℕ) (replies : List (Result Given Fault)) (us : List Use) → most_asks d ≤ j + length replies → GoesOn replies us p
      → Meets (told w ask n (suc j) replies) us p
  unfolding with_step
  meets (Answer a) j replies us few goes = moved _ (record { outcome = Answered (Ok a); asked = []; uses = us }) us (Answer a)
      (told_at j replies us (Answer a) goes) (ended_meets (Ok a) us us (Answer a) refl refl (sym (append-nil us)))
  meets (Fail e) j replies us few goes = moved _ (record { outcome = Answered (Err (raised e n.path)); asked = []; uses = us }) us (Fail e)
      (told_at j replies us (Fail e) goes) (ended_meets (Err (raised e n.path)) us us (Fail e) refl refl (sym (append-nil us)))
  meets (Ask (Of m) k) zero replies us few goes = absurd (rw (follow_at replies us (Ask (Of m) k) goes) at (settles d bytes n replies (omega arith)))
  meets (Ask (Of m) k) (suc j) replies us few goes =
      moved _ (after (m ∷ []) us (with_reply (λ a. told w ask n (suc j) (replies ++ a ∷ [])) (ask m))) us (Ask (Of m) k)
      (told_at (suc j) replies us (Ask (Of m) k) goes) (reply_meets j replies us m k few goes (λ g i rs. meets (k g) i rs us) (ask m) refl)
  meets (Ask (See r) k) j replies us few goes = seen_meets r k j replies us goes (λ x. meets (k x) j replies (us ++ (look r bytes).uses) few)
      (look r bytes).seen refl

  -- from no replies on
  pub meets_rule : Meets (told w ask n (suc w.replies) []) [] (rule_of d n)
  meets_rule = meets (rule_of d n) (most_asks d) [] [] (omega arith) (λ more. refl)

-- ---- the answers of evaluation

module _ (d : Description) (bytes : List ℕ) where
  abbrev rules : Standing Node (Result Given Fault)
  rules = on (described d) bytes

  level_direct : (b : Bool) (n : Node) (ask : Node → Outcome Node (Result Given Fault)) (met' : Node → Result Given NodeFault)
      → ((m : Node) → flattened (ask m) ≡ met' m)
      → flattened (cond b (only_circle n) (told rules ask n (suc rules.replies) [])).outcome ≡ cond b (circle n) (answer_of met' n.path bytes (rule_of d n))
  level_direct true n ask met' same = refl
  level_direct false n ask met' same = (meets_rule d bytes n ask).outcome ∙ ap (λ f. answer_of f n.path bytes (rule_of d n)) (fun_ext same)

  -- to whatever depth
  eval_direct : (depth : ℕ) (opened : List Node) (n : Node) → flattened (eval rules depth opened n).outcome ≡ answer_within d bytes depth opened n
  unfolding eval answer_within
  eval_direct zero opened n = refl
  eval_direct (suc depth) opened n = level_direct (is_among node_number opened n) n (λ m. (eval rules depth (n ∷ opened) m).outcome)
      (answer_within d bytes depth (n ∷ opened)) (eval_direct depth (n ∷ opened))

  answer_direct : (opened : List Node) (n : Node) → flattened (tells rules opened n).outcome ≡ from_nothing d bytes opened n
  unfolding from_nothing
  answer_direct opened n = eval_direct node_bound opened n

  settled : IsSettled rules
  settled = record { own_number = node_number-one; bounded = node_number-below; settles = settles d bytes }

  -- what a node that isn't open tells
  module _ (opened : List Node) (n : Node) (free : IsFree d bytes opened n) where
    abbrev asked_then : Node → Outcome Node (Result Given Fault)
    asked_then = answering rules (n ∷ opened)

    told_is : tells rules opened n ≡ told rules asked_then n (suc rules.replies) []
    told_is = tells-free rules settled opened n free.distinct free.apart

    met_is : (λ m. flattened (asked_then m)) ≡ from_nothing d bytes (n ∷ opened)
    met_is = fun_ext (answer_direct (n ∷ opened))

    free_direct : IsDirect d bytes opened n
    free_direct =
        let told_so = meets_rule d bytes n asked_then in
        record {
          asked = rw (told_is, ← met_is) told_so.asked;
          uses = rw (told_is, ← met_is) told_so.uses;
        }

    free_follows : from_nothing d bytes opened n ≡ answer_of (from_nothing d bytes (n ∷ opened)) n.path bytes (rule_of d n)
    free_follows =
        sym (answer_direct opened n) ∙ rw (told_is, ← met_is) (meets_rule d bytes n asked_then).outcome

pub answers_are_direct : AnswersAreDirect
answers_are_direct d bytes opened n = answer_direct d bytes opened n

pub asks_are_direct : AsksAreDirect
asks_are_direct d bytes opened n free = free_direct d bytes opened n free

pub answers_follow_rules : AnswersFollowRules
answers_follow_rules d bytes opened n free = free_follows d bytes opened n free

-- ---- the next step of a node

ended_step : (a : Result Given Fault) (s : State) → step_of (ended {N = Node} a s) ≡ steps.Done a
ended_step a s = grind arith

ended_uses : (a : Result Given Fault) (s : State) → (behind (ended {N = Node} a s)).uses ≡ s.uses
ended_uses a s = grind arith

module _ (d : Description) (bytes : List ℕ) (met : Node → Result Given Fault) (n : Node) where
  abbrev all_asked : List Node
  all_asked = asks_of met n.path bytes (rule_of d n)

  abbrev last_state : State
  last_state = record { here = n.path; bytes = bytes; replies = []; uses = uses_of met n.path bytes (rule_of d n) }

  ends_so : resumed d bytes n (map met all_asked) ≡ ended (plain_answer met n.path bytes (rule_of d n)) last_state
  ends_so = ap (resumed d bytes n) (sym (append-nil (map met all_asked))) ∙ ends met n.path bytes (rule_of d n) [] []

  needs_so : (i : ℕ) → i < length all_asked → NeedsNext d bytes met n i
  needs_so i h =
      let next = needs met n.path bytes (rule_of d n) i [] h in
      record {
        node = next.node;
        is_next = next.is_next;
        step = ap step_of next.ran;
        uses =
            (next.more, next.begins ∙ ap (λ (r : Ran Node Fault State Given). (behind r).uses ++ next.more) (sym next.ran));
      }

  pub truth_met : MeetsTruth d bytes met n
  truth_met = record {
    step = ap step_of ends_so ∙ ended_step (plain_answer met n.path bytes (rule_of d n)) last_state;
    uses = ap (λ (r : Ran Node Fault State Given). (behind r).uses) ends_so ∙ ended_uses (plain_answer met n.path bytes (rule_of d n)) last_state;
    goes_on = needs_so;
  }

pub next_meets_truth : NextMeetsTruth
next_meets_truth d bytes met n = truth_met d bytes met n
