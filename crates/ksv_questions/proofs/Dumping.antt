-- The steps of a dump.
use Rattle.ksv_questions.proofs.Common.{◌≡◌, ℕ, zero, suc, ◌+◌, ◌-◌, ◌<◌, ◌≤◌, List, [], ◌∷◌, ◌++◌, map, Option, Result, Ok, Err, refl, sym, ◌∙◌}
use Rattle.ksv_questions.proofs.Common.{ap, subst, arith, Data, put, view, Answer, bind, Description, Trail, child, Index, Value, Memo, IsRight, Node, Asking}
use Rattle.ksv_questions.proofs.Common.{Runs, dumped, found_of, Part, begun_part, elements_part, members_part, part, unasked, value_part, written, Ruled, world}
use Rattle.ksv_questions.proofs.Common.{Untold}
use Rattle.serde_json.specs.Data.{Members, array, object}
use Rattle.serde_json.specs.View.{items_of}
use Rattle.serde_json.specs.declared.value.Value.{Value as Json}
use Rattle.ksv_desc.specs.Description.{name}
use Rattle.ksv_expr_value.specs.declared.step.Step.TheVariants.{Name}
use Rattle.ksv_expr_value.specs.declared.value.Value.TheVariants as values
use Rattle.ksv_texts.specs.Parts.{plain_part}
use Rattle.ksv_questions.specs.Dumps.{Found, inner, or_written}
use Rattle.ksv_questions.specs.declared.dump.Dumped.{Dumped}
use Rattle.ksv_questions.proofs.Steps.{Pending, pending_on, pending_run, pending_start, runs_ended, runs_failed, runs_on, runs_settled}

module _ (d : Description) (b : List ℕ) where
  -- what was found is gone into
  pub found_inside : {X : Type 0} (p : Asking (Found X)) (inside : X → Asking Part) (left : ℕ) (old mid new : Memo Node Ruled)
      (found : Result X Json) (x : X) (r : Result Dumped Untold)
      → Runs d b p (λ f. found_of f) old mid (Ok found) → found ≡ Ok x → Runs d b (inside x) dumped mid new r
      → Runs d b (bind p (λ f. or_written inside left f)) dumped old new r
  found_inside p inside left old mid new found x r h is k =
      runs_on d b p (λ f. or_written inside left f) (λ f. found_of f) dumped old mid new (Ok x) r
      (rw is at h) k

  -- or its place is taken
  pub found_written : {X : Type 0} (p : Asking (Found X)) (inside : X → Asking Part) (left : ℕ) (old mid : Memo Node Ruled)
      (found : Result X Json) (json : Json) (x : Dumped)
      → Runs d b p (λ f. found_of f) old mid (Ok found) → found ≡ Err json → dumped x ≡ record { json = view json; left = left }
      → Runs d b (bind p (λ f. or_written inside left f)) dumped old mid (Ok x)
  found_written p inside left old mid found json x h is same =
      runs_ended d b p (λ f. or_written inside left f) (λ f. found_of f) dumped old mid (Err json) (Ok x)
      (rw is at h) (ap Answer (sym same))

  -- ---- levels

  pub is_deeper : (n : ℕ) → (n ≡ 0 → ⊥) → n ≡ suc (n - 1)
  is_deeper zero h = absurd (h refl)
  is_deeper (suc n) h = omega arith

  pub at_bottom : (left : ℕ) (p : Trail) → part d b 0 left p ≡ unasked d p left
  unfolding part
  at_bottom left p = refl

  pub at_level : (n left : ℕ) (p : Trail) → n ≡ suc (n - 1) → part d b n left p ≡ begun_part d b (part d b (n - 1)) left p
  unfolding part
  at_level n left p is = ap (λ k. part d b k left p) is

  -- ---- loops

  pub elements_step : (each : ℕ → Trail → Asking Part) (q : Trail) (left i count : ℕ) (ds : List Data) → i < count
      → elements_part d each q left i (count - i) ds ≡ bind (inner d each q left (child q (Index i)))
      (λ x. elements_part d each q x.left (i + 1) (count - (i + 1)) (ds ++ x.json ∷ []))
  unfolding elements_part
  elements_step each q left i count ds h = let more : count - i ≡ suc (count - (i + 1)) = omega arith in rw more refl

  pub elements_begin : (each : ℕ → Trail → Asking Part) (q : Trail) (left count : ℕ) (vs : List Json) → vs ≡ []
      → elements_part d each q left 0 count [] ≡ elements_part d each q left 0 (count - 0) (map view vs)
  elements_begin each q left count vs is =
      let all : count ≡ count - 0 = omega arith in
      ap (λ n. elements_part d each q left 0 n []) all ∙ ap (λ ws. elements_part d each q left 0 (count - 0) (map view ws)) (sym is)

  pub members_step : (each : ℕ → Trail → Asking Part) (q : Trail) (left x : ℕ) (names rest : List ℕ) (ms : Members) → names ≡ x ∷ rest
      → members_part d each q left names ms ≡ bind (inner d each q left (child q (Name x))) (λ y. members_part d each q y.left rest (put (name d x) y.json ms))
  unfolding members_part
  members_step each q left x names rest ms is = rw is refl

  pub pending_same : (whole rest : Asking Part) (old : Memo Node Ruled) → whole ≡ rest → IsRight (world d b) old.kept → Pending d b whole old rest old
  pending_same whole rest old same right = rw (← same) (pending_start d b whole old right)

  pub pending_as : (whole rest next : Asking Part) (old now : Memo Node Ruled) → rest ≡ next → Pending d b whole old rest now → Pending d b whole old next now
  pending_as whole rest next old now same h = rw same at h

  pub elements_end : (each : ℕ → Trail → Asking Part) (q : Trail) (left i count : ℕ) (ds : List Data) → count ≤ i
      → elements_part d each q left i (count - i) ds ≡ written (array (items_of ds)) left
  unfolding elements_part
  elements_end each q left i count ds h = let none : count - i ≡ 0 = omega arith in rw none refl

  pub members_end : (each : ℕ → Trail → Asking Part) (q : Trail) (left : ℕ) (names : List ℕ) (ms : Members) → names ≡ []
      → members_part d each q left names ms ≡ written (object ms) left
  unfolding members_part
  members_end each q left names ms is = rw is refl

  -- a loop's next part was written
  pub loop_on : (whole rest p : Asking Part) (f : Part → Asking Part) (old mid new : Memo Node Ruled) (x : Dumped)
      → rest ≡ bind p f → Pending d b whole old rest mid → Runs d b p dumped mid new (Ok x) → Pending d b whole old (f (dumped x)) new
  loop_on whole rest p f old mid new x same h k = pending_on d b whole p f dumped old mid new x (pending_as whole rest (bind p f) old mid same h) k

  -- or it failed
  pub loop_failed : (whole rest p : Asking Part) (f : Part → Asking Part) (old mid new : Memo Node Ruled) (e : Untold)
      → rest ≡ bind p f → Pending d b whole old rest mid → Runs d b p dumped mid new (Err e) → Runs d b whole dumped old new (Err e)
  loop_failed whole rest p f old mid new e same h k =
      pending_run d b whole (bind p f) dumped old mid new (Err e) (pending_as whole rest (bind p f) old mid same h)
      (runs_failed d b p f dumped dumped mid new e k)

  -- nothing is left
  pub loop_done : (whole rest : Asking Part) (old mid : Memo Node Ruled) (x : Dumped) → rest ≡ Answer (dumped x) → Pending d b whole old rest mid
      → Runs d b whole dumped old mid (Ok x)
  loop_done whole rest old mid x same h = pending_run d b whole rest dumped old mid mid (Ok x) h (runs_settled d b rest dumped mid (Ok x) h.went.right same)

  module _ (each : ℕ → Trail → Asking Part) (q : Trail) (whole : Asking Part) (old mid new : Memo Node Ruled) where
    pub elements_on : (left i count : ℕ) (vs : List Json) (path : Option Trail) (x : Dumped) → i < count → path ≡ child q (Index i)
        → Pending d b whole old (elements_part d each q left i (count - i) (map view vs)) mid → Runs d b (inner d each q left path) dumped mid new (Ok x)
        → Pending d b whole old (elements_part d each q x.left (i + 1) (count - (i + 1)) (map view vs ++ view x.json ∷ [])) new
    elements_on left i count vs path x more is h k =
        loop_on whole _ _ _ old mid new x (elements_step each q left i count (map view vs) more) h (rw is at k)

    pub elements_failed : (left i count : ℕ) (vs : List Json) (path : Option Trail) (e : Untold) → i < count → path ≡ child q (Index i)
        → Pending d b whole old (elements_part d each q left i (count - i) (map view vs)) mid → Runs d b (inner d each q left path) dumped mid new (Err e)
        → Runs d b whole dumped old new (Err e)
    elements_failed left i count vs path e more is h k =
        loop_failed whole _ _ _ old mid new e (elements_step each q left i count (map view vs) more) h
        (subst (λ o. Runs d b (inner d each q left o) dumped mid new (Err e)) is k)

    pub members_on : (left x : ℕ) (names rest : List ℕ) (ms : Members) (path : Option Trail) (y : Dumped) → names ≡ x ∷ rest → path ≡ child q (Name x)
        → Pending d b whole old (members_part d each q left names ms) mid → Runs d b (inner d each q left path) dumped mid new (Ok y)
        → Pending d b whole old (members_part d each q y.left rest (put (name d x) (view y.json) ms)) new
    members_on left x names rest ms path y more is h k =
        loop_on whole _ _ _ old mid new y (members_step each q left x names rest ms more) h (rw is at k)

    pub members_failed : (left x : ℕ) (names rest : List ℕ) (ms : Members) (path : Option Trail) (e : Untold) → names ≡ x ∷ rest → path ≡ child q (Name x)
        → Pending d b whole old (members_part d each q left names ms) mid → Runs d b (inner d each q left path) dumped mid new (Err e)
        → Runs d b whole dumped old new (Err e)
    members_failed left x names rest ms path e more is h k =
        loop_failed whole _ _ _ old mid new e (members_step each q left x names rest ms more) h
        (subst (λ o. Runs d b (inner d each q left o) dumped mid new (Err e)) is k)

  pub plain_is : (each : ℕ → Trail → Asking Part) (p : Trail) (left : ℕ) (v : Value) → ((q : Trail) → v ≡ values.Object q → ⊥)
      → ((q : Trail) → v ≡ values.List q → ⊥) → value_part d b each p left v ≡ written (plain_part d b p v) left
  unfolding value_part
  plain_is each p left (values.Object q) h k = absurd (h q refl)
  plain_is each p left (values.List q) h k = absurd (k q refl)
  plain_is each p left v h k = refl
