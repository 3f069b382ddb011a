-- An engine answers what evaluation from nothing gives.
use Rattle.ksv_questions.proofs.Common.{arith, ◌≡◌, ◌∙◌, ◌++◌, ℕ, false, ◌||◌, List, [], ◌∷◌, Option, None, Result, Ok, Err, ap, refl, sym, if◌then◌else◌}
use Rattle.ksv_questions.proofs.Common.{append-nil, Description, Memo, IsRight, costs, counted, fresh, Node, answered, bind, Asking, Heard, Runs}
use Rattle.ksv_questions.proofs.Common.{HasAsked, Ruled, world, Untold}
use Rattle.ksv_expr_value.specs.declared.fault.Fault.{Fault}
use Rattle.ksv_memo.specs.Answers.{answer_of, turns_after}
use Rattle.ksv_memo_rules.specs.Evaluation.{done, tells}
use Rattle.ksv_memo_rules.specs.Meaning.{on}
use Rattle.ksv_memo_rules.specs.Right.{AreExactly, nodes_of}
use Rattle.ksv_memo.specs.declared.engine.Answer.{Answer}
use Rattle.ksv_memo_rules.specs.declared.rules.Outcome.{Outcome}
use Rattle.ksv_nodes.specs.Numbers.{node_number}
use Rattle.ksv_nodes.specs.declared.given.Given.{Given}
use Rattle.ksv_rule_meaning.specs.Described.{described}
use Rattle.ksv_rule_meaning.specs.Direct.{flattened}
use Rattle.ksv_rule_meaning.proofs.Direct.{answers_are_direct}
use Rattle.ksv_questions.specs.Asking.{ask, hear, passed}
use Rattle.ksv_questions.specs.Code.{Hears, IsHeard, Settles, SettlesHeard, plain_answer}
use Rattle.ksv_questions.specs.Engines.{is_circle, meets_circle, turns_with}
use Rattle.ksv_questions.specs.declared.asking.Untold.TheVariants as untolds
use Rattle.ksv_questions.proofs.Steps.{runs_ended, runs_failed}

plain : (outcome : Outcome Node Ruled) → plain_answer (answer_of outcome) ≡ flattened outcome
plain outcome = grind arith

pub asked_is : (d : Description) (bytes : List ℕ) (n : Node) (answer : Answer Node Given Fault)
    → answer ≡ answer_of (tells (on (described d) bytes) [] n).outcome
    → plain_answer answer ≡ answered d bytes n
asked_is d bytes n answer is = ap plain_answer is ∙ plain (tells (on (described d) bytes) [] n).outcome ∙ answers_are_direct d bytes [] n

counted_by : (E : Type 0) (o : Outcome Node Ruled) (calls : ℕ) (turns : Option ℕ)
    → turns_after {E = E} calls turns (Ok (answer_of o)) ≡ (if is_circle o || false then None else counted calls turns)
counted_by E o calls turns = grind arith

-- one node was asked
module _ (d : Description) (b : List ℕ) (n : Node) where
  all_done : done (world d b) [] n ++ [] ≡ done (world d b) [] n
  all_done = append-nil (done (world d b) [] n)

  pub heard_one : (E : Type 0) (old new : Memo Node Ruled) (answer : Answer Node Given Fault) → answer ≡ answer_of (tells (on (described d) b) [] n).outcome
      → IsRight (world d b) new.kept
      → AreExactly (world d b) (nodes_of new.kept) (nodes_of old.kept ++ done (world d b) [] n)
      → new.turns ≡ turns_after {E = E} (costs (world d b) (fresh node_number (nodes_of old.kept) (done (world d b) [] n))) old.turns (Ok answer)
      → HasAsked (world d b) (n ∷ []) old new
  unfolding turns_with meets_circle
  heard_one E old new answer is right kept turns = record {
    right = right;
    kept = record { once = kept.once; same = λ x. rw all_done (kept.same x) };
    turns =
        turns ∙ rw (is, all_done) (counted_by E (tells (world d b) [] n).outcome
        (costs (world d b) (fresh node_number (nodes_of old.kept) (done (world d b) [] n))) old.turns);
  }

module _ (d : Description) (b : List ℕ) where
  -- what was returned for an engine's answer
  pub hears : (n : Node) (old new : Memo Node Ruled) (h : Heard) (r : Result Given Untold) → h ≡ answered d b n → IsHeard h r
      → HasAsked (world d b) (n ∷ []) old new → Hears d b n old new r
  hears n old new h (Err (untolds.Refused r)) same is asked = absurd is
  hears n old new h (Err untolds.NoMemory) same is asked = absurd is
  hears n old new h r same is asked = (sym same ∙ is, asked)

  -- a node was heard, and what comes after asks nothing
  pub heard_settled : {X A : Type 0} (n : Node) (q : Heard → Asking A) (view : X → A) (old new : Memo Node Ruled)
      (a : Result Given Untold) (r : Result X Untold)
      → Hears d b n old new a → SettlesHeard q view a r → Runs d b (bind (hear n) q) view old new r
  heard_settled n q view old new (Ok g) r h is = runs_ended d b (hear n) q (λ m. m) view old new (Ok g) r (ap Ok h.0, h.1) is
  heard_settled n q view old new (Err (untolds.Fault f)) r h is = runs_ended d b (hear n) q (λ m. m) view old new (Err f) r (ap Ok h.0, h.1) is
  heard_settled n q view old new (Err (untolds.Refused refusal)) r h is = absurd h
  heard_settled n q view old new (Err untolds.NoMemory) r h is =
      rw is (runs_failed d b (hear n) q (λ (m : Heard). m) view old new untolds.NoMemory h)

  -- what was heard is no fault, and is passed on
  hears_runs : (n : Node) (old new : Memo Node Ruled) (r : Result Given Untold) → Hears d b n old new r → Runs d b (ask n) (λ g. g) old new r
  hears_runs n old new (Ok g) h = heard_settled n passed (λ g. g) old new (Ok g) (Ok g) h refl
  hears_runs n old new (Err (untolds.Fault f)) h = heard_settled n passed (λ g. g) old new (Err (untolds.Fault f)) (Err (untolds.Fault f)) h refl
  hears_runs n old new (Err (untolds.Refused refusal)) h = absurd h
  hears_runs n old new (Err untolds.NoMemory) h = heard_settled n passed (λ g. g) old new (Err untolds.NoMemory) (Err untolds.NoMemory) h refl

  -- a node was asked, and what comes after its answer asks nothing
  pub asked_ended : {Y B : Type 0} (n : Node) (f : Given → Asking B) (view : Y → B) (old new : Memo Node Ruled) (g : Given) (r : Result Y Untold)
      → Hears d b n old new (Ok g) → Settles (f g) view r → Runs d b (bind (ask n) f) view old new r
  asked_ended n f view old new g r h is = runs_ended d b (ask n) f (λ m. m) view old new g r (hears_runs n old new (Ok g) h) is

  -- or it had none
  pub asked_failed : {Y B : Type 0} (n : Node) (f : Given → Asking B) (view : Y → B) (old new : Memo Node Ruled) (e : Untold) → Hears d b n old new (Err e)
      → Runs d b (bind (ask n) f) view old new (Err e)
  asked_failed n f view old new e h = runs_failed d b (ask n) f (λ (m : Given). m) view old new e (hears_runs n old new (Err e) h)
