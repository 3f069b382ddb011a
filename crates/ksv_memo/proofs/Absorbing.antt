-- The next node after those that are kept by numbers alone is kept so too, as it gets its answer.
use Rattle.ksv_memo.proofs.Common.{◌≡◌, ℕ, suc, ◌+◌, ◌<◌, ◌≤◌, nat_lt, nat_eq, arith, Bool, true, false, List, [], ◌∷◌, ◌++◌, Result, refl, sym, ◌∙◌}
use Rattle.ksv_memo.proofs.Common.{ap, subst, inl, inr, append-nil, map, AllByRecursion, All-map, IsEquivalence, IsDistinct-head, Decides-ltb, Entry, Open}
use Rattle.ksv_memo.proofs.Common.{IsStack, Closes, MayKeep, OnOk, nodes, Done, nodes_in, IsRight, Answered, Outcome, tells, eq-eqb, Option, Some, None}
use Rattle.std.specs.Prelude.{max, min, ◌≢◌}
use Rattle.std.proofs.Common.{true≢false, Ok, Err, OnErr}
use Rattle.std.specs.List.{flat_map}
use Rattle.std.proofs.lemmas.Bool.{or_left, or_right}
use Rattle.ksv_memo.proofs.Common.{IsSettled, Standing, is_among, is_among-append}
use Rattle.std.proofs.lemmas.Result.{on_err_weaker, on_ok_weaker}
use Rattle.ksv_memo_rules.specs.Folds.{AreTold, Fold, IsFold, first_of}
use Rattle.ksv_memo_rules.specs.Evaluation.{IsAnswered, completed}
use Rattle.ksv_memo_rules.specs.Touched.{tree}
use Rattle.ksv_memo_rules.proofs.Keeping.{kept-tree}
use Rattle.ksv_memo_rules.proofs.Standins.{answered-by}
use Rattle.ksv_memo.specs.declared.lendings.Lending.{Lending}
use Rattle.ksv_memo.specs.declared.folded.Run.{Run}
use Rattle.ksv_memo.specs.Nodes.{Nodes, Tabled, IsHeard, IsPut, MayLose, MayPut, is_there}
use Rattle.ksv_memo.specs.Running.{ClosesRight, HasReached, MayKeepRight}
use Rattle.ksv_memo.specs.Folding.{ClosesAs, IsFolding, IsLastAt, IsLastFree, IsLastOut, IsNext, IsNoneBelow, IsRun, IsTold, LosesFirst, NextOf}
use Rattle.ksv_memo.specs.Folding.{SameRun, entry_as, lending, lent_as, viewed, with_folded}
use Rattle.ksv_memo.proofs.Beside.{own, seen_lent}
use Rattle.ksv_memo.proofs.Founding.{ended-tells}
use Rattle.ksv_memo.proofs.Growing.{grown-right}
use Rattle.ksv_memo.proofs.Growth.{after_one, first-told, grown-to, root-told, run-at}
use Rattle.ksv_memo.proofs.Leasts.{below_own, lower}
use Rattle.ksv_memo.proofs.Lending.{apart-heard, as-told, lent-on, reopened, same-run}
use Rattle.ksv_memo.proofs.Runs.{close-any, nearer, otherwise}
use Rattle.ksv_memo.proofs.Taking.{Asking, closes-right, may-right}

-- ---- which nodes a node is none of
module _ {N A : Type 0} (f : Fold N A) where
  -- a node that is none of the first ones, and not the next one
  pub none-next : (k : ℕ) (n m : N) → IsNoneBelow f k n → (f.entry k).node ≡ m → (n ≡ m → ⊥) → IsNoneBelow f (suc k) n
  none-next k n m none named other j lt at = by (nat_lt j k) refl
    where
      by : (b : Bool) → nat_lt j k ≡ b → ⊥
      by true e = none j ((Decides-ltb j k).0 e) at
      by false e =
          let no : (j < k) → ⊥ = λ h. true≢false (sym ((Decides-ltb j k).1 h) ∙ e) in
          let same : j ≡ k = omega arith in
          other (sym at ∙ ap (λ i. (f.entry i).node) same ∙ named)

  -- none of either's first ones
  pub none-both : (a b : ℕ) (n : N) → IsNoneBelow f a n → IsNoneBelow f b n → IsNoneBelow f (max a b) n
  none-both a b n first second j lt at = by (nat_lt j a) refl
    where
      by : (c : Bool) → nat_lt j a ≡ c → ⊥
      by true e = first j ((Decides-ltb j a).0 e) at
      by false e = let no : (j < a) → ⊥ = λ h. true≢false (sym ((Decides-ltb j a).1 h) ∙ e) in second j (omega arith) at

  all-both : (a b : ℕ) (st : List (Open N A)) → AllByRecursion (λ o. IsNoneBelow f a o.node) st → AllByRecursion (λ o. IsNoneBelow f b o.node) st
      → AllByRecursion (λ o. IsNoneBelow f (max a b) o.node) st
  all-both a b [] h k = tt
  all-both a b (o ∷ st) h k = (none-both a b o.node h.0 k.0, all-both a b st h.1 k.1)

  all-next : (k : ℕ) (m : N) (st : List (Open N A)) → (f.entry k).node ≡ m → AllByRecursion (λ o. IsNoneBelow f k o.node) st
      → AllByRecursion (λ o. o.node ≡ m → ⊥) st → AllByRecursion (λ o. IsNoneBelow f (suc k) o.node) st
  all-next k m [] named h other = tt
  all-next k m (o ∷ st) named h other = (none-next k o.node m h.0 named other.0, all-next k m st named h.1 other.1)

-- ---- a run
module _ {N V F : Type 0} (eq : N → N → Bool) (laws : IsEquivalence eq) (exact : (a b : N) → eq a b ≡ true → a ≡ b) (f : Fold N (Result V F))
    (kept wild far : ℕ) (lent : List (Lending N)) (es all : List (Entry N (Result V F))) (o : Open N (Result V F)) (st : List (Open N (Result V F)))
    (h : IsRun eq f kept wild far lent es (o ∷ st)) (j : ℕ) (a : Result V F) (next : NextOf f kept far j a o st) (put : IsPut (entry_as f j a o) es all) where
  -- what is put is what the sequence says
  put-told : IsPut (lent_as f kept) es all
  put-told = subst (λ e. IsPut e es all) (as-told eq laws exact f kept wild far lent j a o next.node next.answer ∙ ap (lent_as f) next.is) put

  -- the run before it, once the node isn't open any more
  before : IsRun eq f kept (suc kept) far lent es []
  before = let lt = next.before in otherwise eq laws exact f kept wild (suc kept) far lent es (o ∷ st) [] h (omega arith) (omega arith) tt

  -- and after it
  pub absorbed : (now : List (Open N (Result V F))) (count other : ℕ) → count ≡ j + 1 → count ≤ other → other ≤ far
      → AllByRecursion (λ w. IsNoneBelow f other w.node) now → IsRun eq f count other far (lent ++ lending f j ∷ []) all now
  absorbed now count other one order reach apart =
      let is : suc kept ≡ count = let same = next.is in omega arith in
      let same : kept ≡ j = sym next.is in
      let lt = next.before in
      let grown : IsRun eq f (suc kept) (suc kept) far lent es [] =
      run-at eq laws exact f kept (suc kept) far lent es [] before (suc kept) (omega arith) (omega arith) in
      let run : IsRun eq f (suc kept) (suc kept) far (lent ++ lending f kept ∷ []) all [] =
      lent-on eq laws exact f (suc kept) (suc kept) far lent kept (record { kept = es; opened = [] }) grown (omega arith) all put-told [] tt in
      let then : IsRun eq f (suc kept) other far (lent ++ lending f kept ∷ []) all now =
      otherwise eq laws exact f (suc kept) (suc kept) other far (lent ++ lending f kept ∷ []) all [] now run (omega arith) reach apart in
      subst (λ i. IsRun eq f count other far (lent ++ lending f i ∷ []) all now) same
      (subst (λ c. IsRun eq f c other far (lent ++ lending f kept ∷ []) all now) is then)

  -- it is seen kept as the last
  pub absorbed-seen : (count : ℕ) → count ≡ j + 1 → IsPut (f.entry j) (with_folded eq (first_of f kept) es) (with_folded eq (first_of f count) all)
  absorbed-seen count one =
      let is : suc kept ≡ count = let same = next.is in omega arith in
      let seen : with_folded eq (first_of f (suc kept)) all ≡ with_folded eq (first_of f kept) es ++ f.entry kept ∷ [] =
      seen_lent eq laws exact f (suc kept) (lent_as f kept) es all (own eq laws exact f (suc kept) kept (omega arith)) put-told
      ∙ after_one eq laws exact f kept (suc kept) far lent es [] before (omega arith) in
      record {
        front = with_folded eq (first_of f kept) es;
        back = [];
        was = sym (append-nil (with_folded eq (first_of f kept) es));
        now = ap (λ c. with_folded eq (first_of f c) all) (sym is) ∙ seen ∙ ap (λ i. with_folded eq (first_of f kept) es ++ f.entry i ∷ []) (sym next.is);
      }

  -- the open nodes that are left are none of those below a number below which none is, or of it
  pub absorbed-apart : (least count other : ℕ) (now : List (Open N (Result V F))) → count ≡ j + 1 → other ≡ max least count
      → AllByRecursion (λ w. IsNoneBelow f least w.node) now
      → ((P : N → Type 0) → AllByRecursion (λ w. P w.node) st → AllByRecursion (λ w. P w.node) now) → AllByRecursion (λ w. IsNoneBelow f other w.node) now
  absorbed-apart least count other now one is below rest =
      let same = next.is in
      let order = h.order in
      let more : suc kept ≡ count = omega arith in
      let named : (f.entry kept).node ≡ o.node = ap (λ i. (f.entry i).node) (sym same) ∙ next.node in
      let free : AllByRecursion (λ w. IsNoneBelow f kept w.node) st = All-map (λ w b. lower f wild kept w.node order b) st h.apart.1 in
      let beyond : AllByRecursion (λ w. IsNoneBelow f (suc kept) w.node) now =
      rest (IsNoneBelow f (suc kept)) (all-next f kept o.node st named free next.apart) in
      subst (λ k. AllByRecursion (λ w. IsNoneBelow f k w.node) now) (sym is)
      (all-both f least count now below (subst (λ k. AllByRecursion (λ w. IsNoneBelow f k w.node) now) more beyond))

-- ---- whether the last open node is the next one
module _ {N A : Type 0} (q : Asking N A) (f : Fold N A) (kept wild far : ℕ) (lent : List (Lending N)) (es : List (Entry N A))
    (o : Open N A) (st : List (Open N A))
    (h : IsRun q.eq f kept wild far lent es (o ∷ st)) (a : A) (stack : IsStack q.world (with_folded q.eq (first_of f kept) es) o.node st) where
  same-answer : (b c : A) → (x y : Outcome N A) → x ≡ Answered b → y ≡ Answered c → x ≡ y → b ≡ c
  same-answer b c x y first second same = cc

  -- no other open node is it
  others : AllByRecursion (λ w. w.node ≡ o.node → ⊥) st
  others = by st (IsDistinct-head nat_eq (q.world.number o.node) (map q.world.number (nodes_in st)) stack.distinct)
    where
      by : (ws : List (Open N A)) → AllByRecursion (λ y. nat_eq (q.world.number o.node) y ≡ false) (map q.world.number (nodes_in ws))
          → AllByRecursion (λ w. w.node ≡ o.node → ⊥) ws
      by [] d = tt
      by (w ∷ ws) d = (
        (λ same. true≢false (sym (eq-eqb (q.world.number o.node) (q.world.number w.node) (ap q.world.number (sym same))) ∙ d.0)),
        by ws d.1,
      )

  pub is-next : (j count : ℕ) → j ≡ kept → wild ≢ far → IsFold q.world f count → j < count → (f.entry j).node ≡ o.node
      → (tells q.world [] o.node).outcome ≡ Answered a → NextOf f kept far j a o st
  is-next j count is short fold lt named told = record {
    is = is;
    before = (let order = h.order in let reach = h.reach in omega arith);
    node = named;
    answer = same-answer (f.entry j).answer a _ _ (fold.stands j lt).outcome told (ap (λ n. (tells q.world [] n).outcome) named);
    apart = others;
  }

-- evaluation of an answered node completes it
tree-own : {N A : Type 0} (w : Standing N A) → IsSettled w → (n : N) → IsAnswered (tells w [] n).outcome → is_among w.number (tree w n) n ≡ true
tree-own w law n answered =
    let before = flat_map (completed w w.nodes []) (tells w [] n).asked in
    ap (λ ns. is_among w.number ns n) (kept-tree w law n answered) ∙ is_among-append w.number before (n ∷ []) n
    ∙ or_right (is_among w.number before n) (is_among w.number (n ∷ []) n) (or_left (nat_eq (w.number n) (w.number n)) false (eq-eqb _ _ refl))

-- with the next one, what is seen is right
pub next-right : {N A : Type 0} (q : Asking N A) (f : Fold N A) (kept wild far : ℕ) (lent : List (Lending N)) (es : List (Entry N A)) (st : List (Open N A))
    → IsRun q.eq f kept wild far lent es st → (j count : ℕ) → j ≡ kept → wild ≢ far → IsFold q.world f count → j < count
    → IsRight q.world (with_folded q.eq (first_of f kept) es) → IsRight q.world (with_folded q.eq (first_of f kept) es ++ f.entry j ∷ [])
next-right q f kept wild far lent es st h j count is short fold lt right =
    let order = h.order in
    let reach = h.reach in
    let one : IsRun q.eq f kept (suc kept) far lent es [] =
    otherwise q.eq q.laws q.exact f kept wild (suc kept) far lent es st [] h (omega arith) (omega arith) tt in
    let own : (i : ℕ) → kept ≤ i → i < suc kept → is_among q.world.number (tree q.world (f.entry kept).node) (f.entry i).node ≡ true =
    λ i low high. (let same : i ≡ kept = omega arith in
    subst (λ n. is_among q.world.number (tree q.world (f.entry kept).node) n ≡ true) (ap (λ x. (f.entry x).node) (sym same))
    (tree-own q.world q.law (f.entry kept).node (answered-by q.world _ (f.entry kept) (fold.stands kept (omega arith))))) in
    let grown = grown-to q f kept (suc kept) far lent es [] one (f.entry kept).node kept count (suc kept) refl fold (omega arith) (omega arith) (omega arith)
    own (omega arith) right in
    let all : IsRight q.world (with_folded q.eq (first_of f (suc kept)) es) = grown-right q.world q.law _ _ _ _ _ grown right in
    subst (λ i. IsRight q.world (with_folded q.eq (first_of f kept) es ++ f.entry i ∷ [])) (sym is)
    (subst (IsRight q.world) (after_one q.eq q.laws q.exact f kept (suc kept) far lent es [] one (omega arith)) all)

-- ---- over a table
module _ {N V F S : Type 0} (eq : N → N → Bool) (laws : IsEquivalence eq) (exact : (a b : N) → eq a b ≡ true → a ≡ b) (fold : S → Fold N (Result V F))
    (run : Run N S) (place : ℕ) (a : Result V F) (old new : Nodes N (Result V F)) (h : IsFolding eq fold (Some run) old) where
  -- what is known of the next one
  next-there : (st : List (Open N (Result V F))) → IsNext fold run place a st → is_there st ≡ true
  next-there [] next = absurd next
  next-there (o ∷ st) next = refl

  next-before : (st : List (Open N (Result V F))) → IsNext fold run place a st → place < run.far
  next-before [] next = absurd next
  next-before (o ∷ st) next = let same = next.is in let lt = next.before in omega arith

  module _ (next : IsNext fold run place a old.opened) where
    pub there : is_there old.opened ≡ true
    there = next-there old.opened next

    pub before-far : place < run.far
    before-far = next-before old.opened next

    pub in-size : place < (fold run.nodes).size
    in-size = let lt = before-far in let size = h.in_size in omega arith

    -- it isn't kept
    pub loses-run : (last : Run N S) → SameRun run last run.lent.items → LosesFirst old new → IsFolding eq fold (Some last) new
        × (with_folded eq (first_of (fold last.nodes) last.kept) new.kept ≡ with_folded eq (first_of (fold run.nodes) run.kept) old.kept)
    loses-run last same lost =
        let apart : AllByRecursion (λ w. IsNoneBelow (fold run.nodes) run.wild w.node) new.opened =
        (subst (AllByRecursion (λ w. IsNoneBelow (fold run.nodes) run.wild w.node)) lost.was h.apart).1 in (
          same-run eq fold run last run.lent.items new.kept new.opened same
              (reopened eq laws exact (fold run.nodes) run.kept run.wild run.far run.lent.items run.lent.items old new h lost.kept apart),
          (λ i. with_folded eq (first_of (fold (same.nodes i)) (same.kept i)) new.kept) ∙ ap (with_folded eq (first_of (fold run.nodes) run.kept)) lost.kept,
        )

    -- it is kept, and the one below has its answer, or not
    pub absorbs : (last : Run N S) (least : ℕ) (is_heard : Bool) → last.nodes ≡ run.nodes → last.kept ≡ place + 1 → last.wild ≡ max least last.kept
        → last.far ≡ run.far → last.lent.items ≡ run.lent.items ++ lending (fold run.nodes) place ∷ [] → least ≤ run.far
        → AllByRecursion (λ w. IsNoneBelow (fold run.nodes) least w.node) new.opened → ClosesAs (fold run.nodes) place a is_heard old.opened old new
        → IsFolding eq fold (Some last) new
        × IsPut ((fold run.nodes).entry place) (with_folded eq (first_of (fold run.nodes) run.kept) old.kept)
        (with_folded eq (first_of (fold last.nodes) last.kept) new.kept)
    absorbs last least is_heard nodes_is kept_is wild_is far_is lent_is most below closes = by old.opened refl next is_heard closes
      where
        f : Fold N (Result V F)
        f = fold run.nodes

        all : (o : Open N (Result V F)) (st : List (Open N (Result V F))) → old.opened ≡ o ∷ st → NextOf f run.kept run.far place a o st
            → IsPut (entry_as f place a o) old.kept new.kept
            → ((P : N → Type 0) → AllByRecursion (λ w. P w.node) st → AllByRecursion (λ w. P w.node) new.opened)
            → IsFolding eq fold (Some last) new
            × IsPut (f.entry place) (with_folded eq (first_of f run.kept) old.kept) (with_folded eq (first_of (fold last.nodes) last.kept) new.kept)
        all o st is one put rest =
            let run_is : IsRun eq f run.kept run.wild run.far run.lent.items old.kept (o ∷ st) =
            subst (IsRun eq f run.kept run.wild run.far run.lent.items old.kept) is h in
            let apart = absorbed-apart eq laws exact f run.kept run.wild run.far run.lent.items old.kept new.kept o st run_is place a one put
            least last.kept last.wild new.opened kept_is wild_is below rest in
            let lt = before-far in
            let seen = absorbed-seen eq laws exact f run.kept run.wild run.far run.lent.items old.kept new.kept o st run_is place a one put
            last.kept kept_is in
            let then = absorbed eq laws exact f run.kept run.wild run.far run.lent.items old.kept new.kept o st run_is place a one put
            new.opened last.kept last.wild kept_is (omega arith) (omega arith) apart in (
              rw nodes_is (rw far_is (rw lent_is then)),
              subst (λ ns. IsPut (f.entry place) (with_folded eq (first_of f run.kept) old.kept) (with_folded eq (first_of (fold ns) last.kept) new.kept))
                  (sym nodes_is) seen,
            )

        by : (st : List (Open N (Result V F))) → old.opened ≡ st → IsNext fold run place a st → (b : Bool) → ClosesAs f place a b st old new
            → IsFolding eq fold (Some last) new
            × IsPut (f.entry place) (with_folded eq (first_of f run.kept) old.kept) (with_folded eq (first_of (fold last.nodes) last.kept) new.kept)
        by [] is one b c = absurd one
        by (o ∷ st) is one true c = all o st is one c.0 (λ P is_all. subst (AllByRecursion (λ w. P w.node)) (sym c.1) (apart-heard P o.node a st is_all))
        by (o ∷ st) is one false c = all o st is one c.0 (λ P is_all. subst (AllByRecursion (λ w. P w.node)) (sym c.1) is_all)

-- the answer of its number is what it has
pub next-answer : {N A S : Type 0} (fold : S → Fold N A) (run : Run N S) (place : ℕ) (a : A) (st : List (Open N A)) → IsNext fold run place a st
    → ((fold run.nodes).entry place).answer ≡ a
next-answer fold run place a [] next = absurd next
next-answer fold run place a (o ∷ st) next = next.answer

-- ---- with the answer that the last open node has
module _ {N A S : Type 0} (q : Asking N A) (fold : S → Fold N A) (run : Run N S) (old : Nodes N A) (h : IsFolding q.eq fold (Some run) old) (a : A)
    (reached : HasReached q.world (with_folded q.eq (first_of (fold run.nodes) run.kept) old.kept) old.opened (Done a)) where
  abbrev f : Fold N A
  f = fold run.nodes

  abbrev view : List (Entry N A)
  view = with_folded q.eq (first_of f run.kept) old.kept

  reached-there : (st : List (Open N A)) → HasReached q.world view st (Done a) → is_there st ≡ true
  reached-there [] r = absurd r
  reached-there (o ∷ st) r = refl

  pub is-there : is_there old.opened ≡ true
  is-there = reached-there old.opened reached

  reached-right : (st : List (Open N A)) → HasReached q.world view st (Done a) → IsRight q.world view
  reached-right [] r = absurd r
  reached-right (o ∷ st) r = r.0.right

  pub right-seen : IsRight q.world view
  right-seen = reached-right old.opened reached

  -- what is told of how many nodes there can be is so
  pub told-now : IsTold q.world q.eq old.kept f.root
  told-now = root-told q f run.kept run.wild run.far run.lent.items old.kept old.opened h right-seen

  pub first-now : AreTold q.world f run.kept
  first-now = first-told q f run.kept run.wild run.far run.lent.items old.kept old.opened h right-seen

  -- no node is open that is one of the first
  pub free-all : run.wild ≡ run.far → IsLastFree fold run old.opened
  free-all same = by old.opened h.apart
    where
      by : (st : List (Open N A)) → AllByRecursion (λ w. IsNoneBelow f run.wild w.node) st → IsLastFree fold run st
      by [] all = tt
      by (o ∷ st) all = subst (λ k. IsNoneBelow f k o.node) same all.0

  -- the last open node is none of them
  pub free-out : IsLastOut f old.opened → IsLastFree fold run old.opened
  free-out out = by old.opened out
    where
      by : (st : List (Open N A)) → IsLastOut f st → IsLastFree fold run st
      by [] none = tt
      by (o ∷ st) none = let size = h.in_size in lower f f.size run.far o.node (omega arith) none

  -- it is one, and more may have slots
  module _ (place : ℕ) (at : IsLastAt f place old.opened) where
    at-wild : (st : List (Open N A)) → IsLastAt f place st → AllByRecursion (λ w. IsNoneBelow f run.wild w.node) st → run.wild ≤ place
    at-wild [] none all = absurd none
    at-wild (o ∷ st) is all = let no : (place < run.wild) → ⊥ = λ lt. all.0 place lt is.1 in omega arith

    pub far-run : (less : ℕ) → less ≡ min run.far place → IsRun q.eq f run.kept run.wild less run.lent.items old.kept old.opened
    far-run less is =
        let reach = h.reach in
        let from = at-wild old.opened at h.apart in
        nearer q.eq q.laws q.exact f run.kept run.wild run.far less run.lent.items old.kept old.opened h (omega arith) (omega arith)

    pub far-free : (last : Run N S) → last.nodes ≡ run.nodes → last.far ≡ min run.far place → IsLastFree fold last old.opened
    far-free last same is = by old.opened at
      where
        by : (st : List (Open N A)) → IsLastAt f place st → IsLastFree fold last st
        by [] none = tt
        by (o ∷ st) one = rw same (below_own f h.laid last.far place o.node (omega arith) one.0 one.1)

    -- or it is the next one
    pub next-is : (count : ℕ) → place ≡ run.kept → run.wild ≢ run.far → IsFold q.world f count → place < count → IsNext fold run place a old.opened
    next-is count is short folds lt = by old.opened h reached at
      where
        by : (st : List (Open N A)) → IsRun q.eq f run.kept run.wild run.far run.lent.items old.kept st → HasReached q.world view st (Done a)
            → IsLastAt f place st → IsNext fold run place a st
        by [] run_is r one = absurd one
        by (o ∷ st) run_is r one = is-next q f run.kept run.wild run.far run.lent.items old.kept o st run_is a r.0 place count is short folds lt one.1
            (ended-tells q.world q.law view o st a r.0 r.1)

    pub right-next : (count : ℕ) → place ≡ run.kept → run.wild ≢ run.far → IsFold q.world f count → place < count
        → IsRight q.world (view ++ f.entry place ∷ [])
    right-next count is short folds lt =
        next-right q f run.kept run.wild run.far run.lent.items old.kept old.opened h place count is short folds lt right-seen

-- ---- the table after it
module _ {N A S : Type 0} (q : Asking N A) (fold : S → Fold N A) (was run : Run N S) (old mid : Tabled N A)
    (seen : viewed q.eq fold (Some run) old ≡ viewed q.eq fold (Some was) old) (same : nodes mid ≡ nodes old) (a : A)
    (reached : HasReached q.world (viewed q.eq fold (Some was) old).kept old.opened (Done a)) where
  view-mid : nodes (viewed q.eq fold (Some run) mid) ≡ nodes (viewed q.eq fold (Some was) old)
  view-mid = (λ i. record { kept = with_folded q.eq (first_of (fold run.nodes) run.kept) (same i).kept; opened = (same i).opened }) ∙ ap nodes seen

  opened-mid : mid.opened ≡ old.opened
  opened-mid = ap (λ (t : Nodes N A). t.opened) same

  kept-mid : (viewed q.eq fold (Some run) mid).kept ≡ (viewed q.eq fold (Some was) old).kept
  kept-mid = ap (λ (t : Nodes N A). t.kept) view-mid

  -- the last open node is kept as any other
  pub closes-beside : {E : Type 0} (new : Tabled N A) → IsFolding q.eq fold (Some run) (nodes mid) → IsLastFree fold run old.opened → (r : Result (Unit {0}) E)
      → OnOk r (Closes a mid.opened (nodes mid) (nodes new)) → OnErr r (MayKeep a mid.opened mid.kept new.kept) → OnErr r (MayLose mid.opened new.opened)
      → IsFolding q.eq fold (Some run) (nodes new)
      × OnOk r (ClosesRight q.world a old.opened (nodes (viewed q.eq fold (Some was) old)) (nodes (viewed q.eq fold (Some run) new)))
      × OnErr r (MayKeepRight q.world a old.opened (viewed q.eq fold (Some was) old).kept (viewed q.eq fold (Some run) new).kept)
  closes-beside new h free r ok may lost =
      let c = close-any q.eq q.laws q.exact fold run a mid new h (subst (IsLastFree fold run) (sym opened-mid) free) r ok may lost in
      let view = viewed q.eq fold (Some was) old in
      let now = viewed q.eq fold (Some run) new in (
        c.0,
        on_ok_weaker r (λ closes. closes-right q view.kept old.opened a (nodes now) reached
            (subst (λ st. Closes a st (nodes view) (nodes now)) opened-mid (subst (λ t. Closes a mid.opened t (nodes now)) view-mid closes))) c.1,
        on_err_weaker r (λ may_be. may-right q view.kept old.opened a now.kept reached
            (subst (λ st. MayKeep a st view.kept now.kept) opened-mid (subst (λ es. MayKeep a mid.opened es now.kept) kept-mid may_be))) c.2,
      )

  -- or as the next one, with the answer of its number
  pub next-mid : (place : ℕ) → IsNext fold run place a old.opened → IsNext fold run place ((fold run.nodes).entry place).answer mid.opened
  next-mid place next = subst (IsNext fold run place ((fold run.nodes).entry place).answer) (sym opened-mid)
      (subst (λ b. IsNext fold run place b old.opened) (sym (next-answer fold run place a old.opened next)) next)

  module _ (place : ℕ) (next : IsNext fold run place a old.opened)
      (right : IsRight q.world ((viewed q.eq fold (Some was) old).kept ++ (fold run.nodes).entry place ∷ [])) (last : Run N S) (new : Tabled N A) where
    abbrev whole : Tabled N A
    whole = viewed q.eq fold (Some was) old

    abbrev now : Tabled N A
    now = viewed q.eq fold (Some last) new

    abbrev e : Entry N A
    e = (fold run.nodes).entry place

    heard-next : (st : List (Open N A)) → IsNext fold run place a st → IsPut e whole.kept now.kept → IsHeard a st new.opened
        → ClosesRight q.world a st (record { kept = whole.kept; opened = st }) (nodes now)
    heard-next [] one put heard = one
    heard-next (o ∷ st) one put heard = (record { entry = e; node = one.node; answer = one.answer; put = put; right = right }, heard)

    may-next : (st : List (Open N A)) → IsNext fold run place a st → MayPut e whole.kept now.kept → MayKeepRight q.world a st whole.kept now.kept
    may-next [] one put = one
    may-next (o ∷ st) one (inl unchanged) = inl unchanged
    may-next (o ∷ st) one (inr put) = inr (record { entry = e; node = one.node; answer = one.answer; put = put; right = right })

    both : {E : Type 0} (r : Result (Unit {0}) E) → OnOk r (IsPut e whole.kept now.kept) → OnOk r (IsHeard a old.opened new.opened)
        → OnOk r (ClosesRight q.world a old.opened (nodes whole) (nodes now))
    both (Ok u) put heard = heard-next old.opened next put heard
    both (Err refused) put heard = tt

    pub nexts-beside : {E : Type 0} (r : Result (Unit {0}) E) → OnOk r (IsPut e (viewed q.eq fold (Some run) mid).kept now.kept)
        → OnOk r (IsHeard e.answer mid.opened new.opened) → OnErr r (MayPut e (viewed q.eq fold (Some run) mid).kept now.kept)
        → OnOk r (ClosesRight q.world a old.opened (nodes whole) (nodes now)) × OnErr r (MayKeepRight q.world a old.opened whole.kept now.kept)
    nexts-beside r put heard may = (
      both r (subst (λ es. OnOk r (IsPut e es now.kept)) kept-mid put)
          (subst (λ b. OnOk r (IsHeard b old.opened new.opened)) (next-answer fold run place a old.opened next)
          (subst (λ st. OnOk r (IsHeard e.answer st new.opened)) opened-mid heard)),
      on_err_weaker r (may-next old.opened next) (subst (λ es. OnErr r (MayPut e es now.kept)) kept-mid may),
    )

-- ---- a table without a run, before one may begin
module _ {N A S : Type 0} (q : Asking N A) (fold : S → Fold N A) (was run : Option (Run N S)) (none : was ≡ None) (a : A) (old new now : Tabled N A)
    (view : viewed q.eq fold was old ≡ now) (reached : HasReached q.world now.kept now.opened (Done a)) where
  plain : old ≡ now
  plain = ap (λ r. viewed q.eq fold r old) (sym none) ∙ view

  pub reached-plain : HasReached q.world old.kept old.opened (Done a)
  reached-plain = subst (λ t. HasReached q.world t.kept t.opened (Done a)) (sym plain) reached

  pub plain-right : Closes a old.opened (nodes old) (nodes (viewed q.eq fold run new))
      → ClosesRight q.world a now.opened (nodes now) (nodes (viewed q.eq fold run new))
  plain-right c = closes-right q now.kept now.opened a (nodes (viewed q.eq fold run new)) reached
      (subst (λ t. Closes a t.opened (nodes t) (nodes (viewed q.eq fold run new))) plain c)

  pub plain-may : MayKeep a old.opened old.kept (viewed q.eq fold run new).kept → MayKeepRight q.world a now.opened now.kept (viewed q.eq fold run new).kept
  plain-may may = may-right q now.kept now.opened a (viewed q.eq fold run new).kept reached
      (subst (λ t. MayKeep a t.opened t.kept (viewed q.eq fold run new).kept) plain may)

-- and none begins
pub closes-plain : {N A S : Type 0} (eq : N → N → Bool) (fold : S → Fold N A) (run : Option (Run N S)) (a : A) (old new : Tabled N A) → run ≡ None
    → Closes a old.opened (nodes old) (nodes new) → Closes a old.opened (nodes old) (nodes (viewed eq fold run new))
closes-plain eq fold run a old new none c = subst (λ r. Closes a old.opened (nodes old) (nodes (viewed eq fold r new))) (sym none) c

pub may-plain : {N A S : Type 0} (eq : N → N → Bool) (fold : S → Fold N A) (run : Option (Run N S)) (a : A) (old new : Tabled N A) → run ≡ None
    → MayKeep a old.opened old.kept new.kept → MayKeep a old.opened old.kept (viewed eq fold run new).kept
may-plain eq fold run a old new none may = subst (λ r. MayKeep a old.opened old.kept (viewed eq fold r new).kept) (sym none) may
