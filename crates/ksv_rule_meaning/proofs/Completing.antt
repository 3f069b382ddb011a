-- What an engine completes, touches and counts is what the direct definitions say.
use Rattle.std.proofs.Common.{◌≡◌, ◌↔◌, ℕ, zero, suc, ◌+◌, ◌≤◌, Bool, true, false, List, [], ◌∷◌, ◌++◌, length, Result, if◌then◌else◌}
use Rattle.std.proofs.Common.{refl, sym, ap, ◌∙◌, arith, inl, inr}
use Rattle.std.specs.Prelude.{Contains}
use Rattle.std.specs.List.{flat_map, list_any}
use Rattle.std.proofs.lemmas.List.Folds.{Any-from_list_any, list_any-from_Any}
use mathlib.Core.Path.{fun_ext}
use Rattle.ksv_bytes.specs.declared.uses.Change.{Change}
use Rattle.ksv_bytes.specs.Uses.{is_use_touched}
use Rattle.ksv_desc.specs.Description.{Description}
use Rattle.ksv_expr_value.specs.declared.fault.Fault.{Fault}
use Rattle.ksv_memo_rules.specs.declared.rules.Outcome.{Outcome}
use Rattle.ksv_memo_rules.specs.Evaluation.{IsAnswered, done, if_answered, is_among, tells}
use Rattle.ksv_memo_rules.specs.Meaning.{IsSettled, Standing, on}
use Rattle.ksv_memo_rules.specs.Right.{AreDistinct}
use Rattle.ksv_memo_rules.specs.Touched as engines
use Rattle.std.proofs.lemmas.Bool.{cases_Bool, false_from_ne_true, true_from_ne_false}
use Rattle.ksv_memo_rules.proofs.Evals.{AreDistinct-cons, completed-open, done-free, few}
use Rattle.ksv_memo_rules.proofs.Keeping.{AreDistinct-none}
use Rattle.ksv_memo_rules.proofs.Standing.{law_on}
use Rattle.ksv_nodes.specs.declared.given.Given.{Given}
use Rattle.ksv_nodes.specs.declared.node.Node.{Node}
use Rattle.ksv_nodes.specs.Numbers.{node_number, node_bound}
use Rattle.ksv_rule_meaning.specs.Described.{described}
use Rattle.ksv_rule_meaning.specs.Direct.{IsDirect, flattened}
use Rattle.ksv_rule_meaning.specs.FromNothing.{asks, uses}
use Rattle.ksv_rule_meaning.specs.Lemmas.Lawful.{described_lawful}
use Rattle.ksv_rule_meaning.proofs.Direct.{answers_are_direct, asks_are_direct}
use Rattle.ksv_rule_meaning.specs.Completed.{completed, completed_within, is_circle, meets_circle}
use Rattle.ksv_rule_meaning.specs.Kept.{is_hit, is_touched}
use Rattle.ksv_rule_meaning.specs.Laws.{CompletionIsDirect, CostIsDirect, TouchIsDirect}

-- ---- tests of lists

-- lists of the same members pass a test alike
any_same_members : {X : Type 0} (p : X → Bool) (xs ys : List X) → ((x : X) → Contains xs x ↔ Contains ys x) → list_any p xs ≡ list_any p ys
any_same_members {X} p xs ys same = elim (cases_Bool (list_any p xs)) [
  | inl e ↦ e ∙ sym (passes xs ys (λ x. (same x).0) e)
  | inr e ↦ e ∙ sym (false_from_ne_true _ (λ f. let other = passes ys xs (λ x. (same x).1) f in cc))
]
  where
    passes : (us vs : List X) → ((x : X) → Contains us x → Contains vs x) → list_any p us ≡ true → list_any p vs ≡ true
    passes us vs each e =
        let found = Any-from_list_any p us e in
        let there = each found.1 (found.0, found.2, found.3) in
        list_any-from_Any p vs (there.0, found.1, there.1, there.2, found.4)

-- the node itself is completed, unless a circle was met
own_is : {A : Type 0} (n : Node) (o : Outcome Node A) (c : Bool) → (IsAnswered o ↔ (c ≡ false)) → if_answered n o ≡ (if c then [] else n ∷ [])
own_is n o c h = grind arith

module _ (d : Description) (bytes : List ℕ) where
  abbrev w : Standing Node (Result Given Fault)
  w = on (described d) bytes

  settled : IsSettled w
  settled = law_on (described d) (described_lawful d) bytes

  -- ---- open nodes

  -- where as many nodes are open as there are, each is
  all_open : (opened : List Node) (n : Node) → AreDistinct w opened → node_bound ≤ length opened → is_among node_number opened n ≡ true
  all_open opened n distinct deep = true_from_ne_false _
      (λ e. omega (arith, few w settled (n ∷ opened) (AreDistinct-cons w n opened e distinct)))

  -- ---- a node that isn't open

  module _ (opened : List Node) (n : Node) (distinct : AreDistinct w opened) (free : is_among node_number opened n ≡ false) where
    same_asked : (tells w opened n).asked ≡ asks d bytes opened n
    same_asked = (asks_are_direct d bytes opened n (record { distinct = distinct; apart = free })).asked

  -- ---- circles

  -- an outcome is an answer just where it is no circle
  circle_is : (o : Outcome Node (Result Given Fault)) → IsAnswered o ↔ (is_circle (flattened o) ≡ false)
  circle_is o = (λ h. grind arith, λ h. grind arith)

  pub answered_direct : (opened : List Node) (n : Node) → IsAnswered (tells w opened n).outcome ↔ (meets_circle d bytes opened n ≡ false)
  unfolding meets_circle
  answered_direct opened n = rw (answers_are_direct d bytes opened n) at (circle_is (tells w opened n).outcome)

  -- ---- completed nodes

  done_level : (k : ℕ) (opened : List Node) (n : Node) → AreDistinct w opened
      → (is_among node_number opened n ≡ false → (m : Node) → done w (n ∷ opened) m ≡ completed_within d bytes k (n ∷ opened) m)
      → (b : Bool) → is_among node_number opened n ≡ b
      → done w opened n ≡ (if b then [] else flat_map (completed_within d bytes k (n ∷ opened)) (asks d bytes opened n)
      ++ (if meets_circle d bytes opened n then [] else n ∷ []))
  done_level k opened n distinct each true e = completed-open w w.nodes opened n e
  done_level k opened n distinct each false e =
      done-free w settled opened n distinct e
      ∙ rw (same_asked opened n distinct e, fun_ext (each e), own_is n (tells w opened n).outcome (meets_circle d bytes opened n) (answered_direct opened n))
      refl

  done_within : (k : ℕ) (opened : List Node) (n : Node) → AreDistinct w opened → node_bound ≤ k + length opened
      → done w opened n ≡ completed_within d bytes k opened n
  unfolding completed_within
  done_within zero opened n distinct deep = completed-open w w.nodes opened n (all_open opened n distinct (omega arith))
  done_within (suc k) opened n distinct deep =
      done_level k opened n distinct (λ e m. done_within k (n ∷ opened) m (AreDistinct-cons w n opened e distinct) (omega arith))
      (is_among node_number opened n) refl

  pub done_direct : (opened : List Node) (n : Node) → AreDistinct w opened → done w opened n ≡ completed d bytes opened n
  unfolding completed
  done_direct opened n distinct = done_within node_bound opened n distinct (omega arith)

  -- ---- nodes of which nothing is open

  alone : (n : Node) → IsDirect d bytes [] n
  alone n = asks_are_direct d bytes [] n (record { distinct = AreDistinct-none w; apart = refl })

  hit_direct : (change : Change) (n : Node) → engines.is_hit w change n ≡ is_hit d bytes change n
  hit_direct change n = any_same_members (is_use_touched change) (tells w [] n).uses (uses d bytes [] n) (alone n).uses

  pub touch_direct : (change : Change) (n : Node) → engines.is_touched w change n ≡ is_touched d bytes change n
  unfolding is_touched
  touch_direct change n =
      ap (list_any (engines.is_hit w change)) (done_direct [] n (AreDistinct-none w))
      ∙ ap (λ p. list_any p (completed d bytes [] n)) (fun_ext (hit_direct change))

pub completion_is_direct : CompletionIsDirect
completion_is_direct d bytes opened n distinct = record { answered = answered_direct d bytes opened n; completed = done_direct d bytes opened n distinct }

pub touch_is_direct : TouchIsDirect
touch_is_direct d bytes change n = touch_direct d bytes change n

pub cost_is_direct : CostIsDirect
cost_is_direct d bytes n = ap (λ ms. length ms + 1) (alone d bytes n).asked
