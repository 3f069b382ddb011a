-- What running one question after another yields.
use Rattle.ksv_questions.proofs.Common.{◌≡◌, ℕ, List, [], ◌++◌, Result, Ok, Err, append_assoc, refl, sym, ◌∙◌, ap, append-nil, Fail, bind, Description}
use Rattle.ksv_questions.proofs.Common.{Memo, IsRight, Node, answered, Asking, Runs, HasAsked, Ruled, world, Untold}
use Rattle.ksv_basics.specs.Asking.{asks_behind}
use Rattle.ksv_nodes.specs.declared.node_fault.NodeFault.{NodeFault}
use Rattle.ksv_questions.specs.Answers.{asks, outcome}
use Rattle.ksv_questions.specs.Asking.{Failure, Faulty}
use Rattle.ksv_questions.specs.Code.{IsFault, Settles}
use Rattle.ksv_questions.specs.Engines.{HasAskedSome}
use Rattle.ksv_questions.specs.declared.asking.Untold.TheVariants as untolds
use Rattle.ksv_questions.proofs.Asked.{asked_none, asked_then, some_before, some_none, some_of, some_then}
use Rattle.ksv_questions.proofs.Bound.{asks_bind, bind_fails, result_bind}

module _ (d : Description) (b : List ℕ) where
  -- the asks of two questions one after the other, where the first has an answer
  asks_on : {A B : Type 0} (p : Asking A) (f : A → Asking B) (a : A) → outcome d b p ≡ Ok a → asks d b p ++ asks d b (f a) ≡ asks d b (bind p f)
  asks_on p f a is = sym (asks_bind (answered d b) p f ∙ rw is refl)

  -- and where it fails
  asks_failed : {A B : Type 0} (p : Asking A) (f : A → Asking B) (e : Failure) → outcome d b p ≡ Err e → asks d b p ≡ asks d b (bind p f)
  asks_failed p f e is = sym (asks_bind (answered d b) p f ∙ rw is (append-nil (asks d b p)))

  outcome_on : {A B : Type 0} (p : Asking A) (f : A → Asking B) (a : A) (r : Result B Failure) → outcome d b p ≡ Ok a → outcome d b (f a) ≡ r
      → outcome d b (bind p f) ≡ r
  outcome_on p f a r is e = result_bind (answered d b) p f ∙ rw is e

  outcome_failed : {A B : Type 0} (p : Asking A) (f : A → Asking B) (e : Failure) → outcome d b p ≡ Err e → outcome d b (bind p f) ≡ Err e
  outcome_failed p f e is = result_bind (answered d b) p f ∙ rw is refl

  -- the first question had an answer, and the second was run with it
  asked_both : {A B : Type 0} (p : Asking A) (f : A → Asking B) (old mid new : Memo Node Ruled) (a : A) (r : Result B Failure)
      → (outcome d b p ≡ Ok a) × HasAsked (world d b) (asks d b p) old mid → (outcome d b (f a) ≡ r) × HasAsked (world d b) (asks d b (f a)) mid new
      → (outcome d b (bind p f) ≡ r) × HasAsked (world d b) (asks d b (bind p f)) old new
  asked_both p f old mid new a r h k = (
    outcome_on p f a r h.0 k.0,
    rw (asks_on p f a h.0) at (asked_then (world d b) old mid new (asks d b p) (asks d b (f a)) h.1 k.1),
  )

  pub runs_on : {X Y A B : Type 0} (p : Asking A) (f : A → Asking B) (view : X → A) (then : Y → B) (old mid new : Memo Node Ruled) (x : X) (r : Result Y Untold)
      → Runs d b p view old mid (Ok x) → Runs d b (f (view x)) then mid new r → Runs d b (bind p f) then old new r
  runs_on p f view then old mid new x (Err untolds.NoMemory) h k =
      rw (asks_on p f (view x) h.0) at (some_then (world d b) old mid new (asks d b p) (asks d b (f (view x))) h.1 k)
  runs_on p f view then old mid new x r h k = asked_both p f old mid new (view x) _ h k

  -- the first had none
  pub runs_failed : {X Y A B : Type 0} (p : Asking A) (f : A → Asking B) (view : X → A) (then : Y → B) (old new : Memo Node Ruled) (e : Untold)
      → Runs d b p view old new (Err e) → Runs d b (bind p f) then old new (Err e)
  runs_failed p f view then old new untolds.NoMemory h = rw (asks_bind (answered d b) p f)
      (some_before (world d b) old new (asks d b p) (asks_behind (outcome d b p) (λ a. asks d b (f a))) h)
  runs_failed p f view then old new e h = (outcome_failed p f _ h.0, rw (asks_failed p f _ h.0) at h.1)

  -- a question that asks nothing
  pub runs_settled : {X A : Type 0} (q : Asking A) (view : X → A) (old : Memo Node Ruled) (r : Result X Untold) → IsRight (world d b) old.kept
      → Settles q view r → Runs d b q view old old r
  runs_settled q view old (Err untolds.NoMemory) right is = some_none (world d b) old (asks d b q) right
  runs_settled q view old r right is = (rw is refl, rw is (asked_none (world d b) old right))

  -- a fault
  pub settled_fault : {X A : Type 0} (f : NodeFault) (view : X → A) (e : Untold) → IsFault f e → Settles {X = X} {A = A} (Fail (Faulty f)) view (Err e)
  settled_fault f view untolds.NoMemory is = tt
  settled_fault f view (untolds.Fault e) is = ap (λ x. Fail (Faulty x)) (sym is)
  settled_fault f view (untolds.Refused r) is = absurd is

  -- after one that asks nothing and fails
  pub settled_failed : {X Y A B : Type 0} (p : Asking A) (f : A → Asking B) (view : X → A) (then : Y → B) (e : Untold) → Settles p view (Err e)
      → Settles (bind p f) then (Err e)
  settled_failed p f view then untolds.NoMemory is = tt
  settled_failed p f view then e is = bind_fails p f _ is

  -- the same after another
  pub runs_ended : {X Y A B : Type 0} (p : Asking A) (f : A → Asking B) (view : X → A) (then : Y → B) (old mid : Memo Node Ruled) (x : X) (r : Result Y Untold)
      → Runs d b p view old mid (Ok x) → Settles (f (view x)) then r → Runs d b (bind p f) then old mid r
  runs_ended p f view then old mid x r h is = runs_on p f view then old mid mid x r h (runs_settled (f (view x)) then mid r h.1.right is)

  -- a question that asks nothing, and then one that was run with its answer
  pub runs_first : {X Y A B : Type 0} (p : Asking A) (f : A → Asking B) (view : X → A) (then : Y → B) (old new : Memo Node Ruled) (x : X) (r : Result Y Untold)
      → IsRight (world d b) old.kept → Settles p view (Ok x) → Runs d b (f (view x)) then old new r → Runs d b (bind p f) then old new r
  runs_first p f view then old new x r right is k = runs_on p f view then old old new x r (runs_settled p view old (Ok x) right is) k

  -- ---- loops: what is left of a question after some of it was asked
  pub record Pending {A : Type 0} (whole : Asking A) (old : Memo Node Ruled) (rest : Asking A) (now : Memo Node Ruled) : Type 0 where
    pub ends : outcome d b whole ≡ outcome d b rest
    pub before : List Node
    pub order : asks d b whole ≡ before ++ asks d b rest
    pub went : HasAsked (world d b) before old now

  pub pending_start : {A : Type 0} (q : Asking A) (old : Memo Node Ruled) → IsRight (world d b) old.kept → Pending q old q old
  pending_start q old right = record { ends = refl; before = []; order = refl; went = asked_none (world d b) old right }

  pub pending_on : {X A B : Type 0} (whole : Asking B) (p : Asking A) (f : A → Asking B) (view : X → A) (old mid new : Memo Node Ruled) (x : X)
      → Pending whole old (bind p f) mid → Runs d b p view mid new (Ok x) → Pending whole old (f (view x)) new
  pending_on whole p f view old mid new x h k = record {
    ends = h.ends ∙ outcome_on p f (view x) (outcome d b (f (view x))) k.0 refl;
    before = h.before ++ asks d b p;
    order = h.order ∙ ap (λ ns. h.before ++ ns) (sym (asks_on p f (view x) k.0)) ∙ sym (append_assoc h.before (asks d b p) (asks d b (f (view x))));
    went = asked_then (world d b) old mid new h.before (asks d b p) h.went k.1;
  }

  -- the rest was run
  pub pending_run : {Y B : Type 0} (whole rest : Asking B) (then : Y → B) (old mid new : Memo Node Ruled) (r : Result Y Untold)
      → Pending whole old rest mid → Runs d b rest then mid new r → Runs d b whole then old new r
  pending_run whole rest then old mid new (Err untolds.NoMemory) h k =
      rw h.order (some_then (world d b) old mid new h.before (asks d b rest) h.went k)
  pending_run whole rest then old mid new r h k =
      (h.ends ∙ k.0, rw h.order (asked_then (world d b) old mid new h.before (asks d b rest) h.went k.1))

  -- memory was refused before the rest asked anything
  pub pending_short : {B : Type 0} (whole rest : Asking B) (old mid : Memo Node Ruled) → Pending whole old rest mid
      → HasAskedSome (world d b) (asks d b whole) old mid
  pending_short whole rest old mid h =
      rw h.order (some_before (world d b) old mid h.before (asks d b rest) (some_of (world d b) old mid h.before h.went))
