-- What is asked of a part of what is at a path.
use Rattle.ksv_nodes.proofs.Common.{◌≡◌, true, false, Some, None, Result, Ok, Err, Option, refl, ap, ◌∙◌, Fail, Ask, Done, Need, next, run, Trail, Fault, Given}
use Rattle.ksv_nodes.proofs.Common.{Node, Of, part, Rule, State, come, turns}
use Rattle.std.proofs.Common.{is_some}
use Rattle.ksv_basics.specs.Plan.{Ran, Failed, ◌>>=◌}
use Rattle.ksv_basics.proofs.Running.{run_bind}
use Rattle.ksv_expr_value.specs.Trail.{child}
use Rattle.ksv_expr_value.specs.declared.step.Step.{Step}
use Rattle.ksv_expr_value.specs.declared.fault.FaultKind.{FaultKind}
use Rattle.ksv_expr_value.specs.declared.fault.FaultKind.TheVariants as kinds
use Rattle.ksv_nodes.specs.declared.node.NodeKind.{NodeKind}
use Rattle.ksv_nodes.specs.Rule.{There, in_path, raise}
use Rattle.ksv_nodes.specs.Turning.{ask, fault_at, Runs}
use Rattle.ksv_nodes.specs.declared.turn.Halt.{Halt}
use Rattle.ksv_nodes.specs.declared.turn.Halt.TheVariants as halts

-- the answer of a node, in any form
done_next : {A : Type 0} (o : Ran Node Fault State Given) (f : Given → State → Ran Node Fault State A) → next o f ≡ next (next o (λ g r. Done g r)) f
done_next (Need n s) f = refl
done_next (Failed e s) f = refl
done_next (Done g s) f = refl

-- a result that runs one rule runs another that yields the same
runs_same : {A X : Type 0} (rule other : Rule A) (view : X → A) (old begun new : State) → run turns other begun ≡ run turns rule old → (r : Result X Halt)
    → Runs rule view old new r → Runs other view begun new r
runs_same rule other view old begun new same (Ok x) h = same ∙ h
runs_same rule other view old begun new same (Err halts.Memory) h = tt
runs_same rule other view old begun new same (Err (halts.Need n)) h = same ∙ h
runs_same rule other view old begun new same (Err (halts.Fault f)) h = same ∙ h

-- a fault has no answer, whatever the rule would answer and however the code holds it
pub raised_as : {A X : Type 0} (k : FaultKind) (view : X → A) (s : State) (r : Result X Halt) → Runs (raise {A = X} k) (λ x. x) s s r
    → Runs (raise {A = A} k) view s s r
raised_as k view s (Ok x) h = absurd (cc)
raised_as k view s (Err halts.Memory) h = tt
raised_as k view s (Err (halts.Need n)) h = absurd (cc)
raised_as k view s (Err (halts.Fault f)) h = let same : fault_at s.here k ≡ f = cc in ap (λ e. Failed e s) same

-- something of this kind is asked, whose answer is wanted in this form
module _ {A : Type 0} (k : NodeKind) (form : Given → Rule A) where
  abbrev node : Trail → Node
  node p = record { kind = k; path = p }

  abbrev asks : Trail → Rule A
  asks p = Ask (Of (node p)) form

  abbrev of_part : Trail → Step → Rule A
  of_part t s = part t s >>= asks

  abbrev formed : Result Given Fault → Rule A
  formed (Ok g) = form g
  formed (Err f) = Fail (There f.kind f.path)

  -- where the part's path doesn't fit, that is a fault
  missing_part : (t : Trail) (s : Step) (state : State) → is_some (child t s) ≡ false
      → run turns (of_part t s) state ≡ run turns (raise {A = A} kinds.PathTooLong) state
  missing_part t s state none = run_bind turns (part t s) asks state ∙ by_path (child t s) none
    where
      by_path : (o : Option Trail) → is_some o ≡ false → next (run turns (in_path o) state) (λ p r. run turns (asks p) r)
          ≡ run turns (raise {A = A} kinds.PathTooLong) state
      by_path None e = refl
      by_path (Some p) e = absurd (cc)

  asked : (n : Node) (state : State) → next (turns.reply (Of n) state) (λ g r. run turns (form g) r)
      ≡ next (run turns (ask n) state) (λ g r. run turns (form g) r)
  asked n state = done_next (turns.reply (Of n) state) (λ g r. run turns (form g) r)

  by_reply : (new : State) (r : Result Given Fault) → next (come r new) (λ g q. run turns (form g) q) ≡ run turns (formed r) new
  by_reply new (Ok g) = refl
  by_reply new (Err f) = refl

  -- it is the next reply, to whatever node that is
  replied_part : (t : Trail) (s : Step) (old new : State) (reply : Result Given Fault) → is_some (child t s) ≡ true
      → ((n : Node) → run turns (ask n) old ≡ come reply new) → run turns (of_part t s) old ≡ run turns (formed reply) new
  replied_part t s old new reply some replies = run_bind turns (part t s) asks old ∙ by_path (child t s) some
    where
      by_path : (o : Option Trail) → is_some o ≡ true → next (run turns (in_path o) old) (λ p r. run turns (asks p) r) ≡ run turns (formed reply) new
      by_path None e = absurd (cc)
      by_path (Some p) e = asked (node p) old ∙ ap (λ o. next o (λ g r. run turns (form g) r)) (replies (node p)) ∙ by_reply new reply

  -- where no reply is left, it is needed
  pub needed_part : (t : Trail) (s : Step) (old new : State) (p : Trail) → run turns (part t s) new ≡ Done p new
      → ((n : Node) → run turns (ask n) old ≡ Need n new) → run turns (of_part t s) old ≡ Need (node p) new
  needed_part t s old new p is_part none = run_bind turns (part t s) asks old ∙ by_path (child t s) is_part
    where
      by_path : (o : Option Trail) → run turns (in_path o) new ≡ Done p new → next (run turns (in_path o) old) (λ q r. run turns (asks q) r) ≡ Need (node p) new
      by_path None e = absurd (cc)
      by_path (Some q) e =
          let same : q ≡ p = cc in
          asked (node q) old ∙ ap (λ o. next o (λ g r. run turns (form g) r)) (none (node q)) ∙ ap (λ x. Need (node x) new) same

  pub runs_missing : {X : Type 0} (t : Trail) (s : Step) (view : X → A) (state : State) → is_some (child t s) ≡ false → (r : Result X Halt)
      → Runs (raise kinds.PathTooLong) view state state r → Runs (of_part t s) view state state r
  runs_missing t s view state none r h = runs_same (raise kinds.PathTooLong) (of_part t s) view state state state (missing_part t s state none) r h

  pub runs_replied : {X : Type 0} (t : Trail) (s : Step) (view : X → A) (old new : State) (reply : Result Given Fault) → is_some (child t s) ≡ true
      → ((n : Node) → run turns (ask n) old ≡ come reply new) → (r : Result X Halt) → Runs (formed reply) view new new r → Runs (of_part t s) view old new r
  runs_replied t s view old new reply some replies r h =
      runs_same (formed reply) (of_part t s) view new old new (replied_part t s old new reply some replies) r h
