-- A run, or none, through the table's moves.
use Rattle.ksv_memo.proofs.Common.{◌≡◌, ℕ, ◌+◌, ◌<◌, ◌≤◌, arith, nat_lt, cond, Bool, true, false, List, [], ◌∷◌, ◌++◌, filter, count_by}
use Rattle.ksv_memo.proofs.Common.{Option, Some, None, Result, refl, sym, ◌∙◌, ap, subst, inl, inr, AllByRecursion, IsEquivalence, Entry, Open, Closes, MayKeep}
use Rattle.ksv_memo.proofs.Common.{append-nil, Outcome, Answered, IsOneOf, nodes_in, All-map, sum_by-cons, IfOk, OnOk, nodes}
use Rattle.std.proofs.Common.{Ok, Err, OnErr}
use Rattle.ksv_memo_rules.specs.Folds.{Fold, first_of}
use Rattle.ksv_memo.specs.declared.lendings.Lending.{Lending}
use Rattle.ksv_memo.specs.declared.folded.Run.{Run}
use Rattle.ksv_memo.specs.Nodes.{Nodes, Tabled, Asks, HasEntry, Starts, IsPut, MayLose, TakesFirst, kept_of}
use Rattle.ksv_memo.specs.Folding.{IsRun, IsFounded, Founds, IsCovered, IsFolding, IsFree}
use Rattle.ksv_memo.specs.Folding.{IsLastFree, IsNoneBelow, SameButWild, is_one, lent_as, viewed, with_folded}
use Rattle.ksv_memo.proofs.Beside.{not_first, seen_folded, seen_put}
use Rattle.ksv_memo.proofs.Lending.{reopened, ask-any, start-any, put_all, put_one, count_put, apart-heard}
use Rattle.ksv_memo.proofs.Leasts.{lower}

module _ {N A : Type 0} (eq : N → N → Bool) (laws : IsEquivalence eq) (exact : (a b : N) → eq a b ≡ true → a ≡ b) (f : Fold N A) where
  -- other nodes are open, and others may be
  pub otherwise : (kept wild other far : ℕ) (lent : List (Lending N)) (es : List (Entry N A)) (st now : List (Open N A)) → IsRun eq f kept wild far lent es st
      → kept ≤ other → other ≤ far → AllByRecursion (λ o. IsNoneBelow f other o.node) now → IsRun eq f kept other far lent es now
  otherwise kept wild other far lent es st now h order reach apart = record {
    laid = h.laid;
    order = order;
    reach = reach;
    in_size = h.in_size;
    root = h.root;
    same = h.same;
    apart = apart;
    counted = h.counted;
    below = h.below;
    named = h.named;
  }

  -- more may be open
  wilder : (kept wild less far : ℕ) (lent : List (Lending N)) (es : List (Entry N A)) (st : List (Open N A)) → IsRun eq f kept wild far lent es st → less ≤ wild
      → kept ≤ less → IsRun eq f kept less far lent es st
  wilder kept wild less far lent es st h le order =
      otherwise kept wild less far lent es st st h order (let reach = h.reach in omega arith) (All-map (λ o a. lower f wild less o.node le a) st h.apart)

  -- more may have slots
  pub nearer : (kept wild far less : ℕ) (lent : List (Lending N)) (es : List (Entry N A)) (st : List (Open N A)) → IsRun eq f kept wild far lent es st
      → less ≤ far
      → wild ≤ less → IsRun eq f kept wild less lent es st
  nearer kept wild far less lent es st h le reach = record {
    laid = h.laid;
    order = h.order;
    reach = reach;
    in_size = (let size = h.in_size in omega arith);
    root = h.root;
    same = All-map (λ e s j lt at. s j (omega arith) at) es h.same;
    apart = h.apart;
    counted = h.counted;
    below = h.below;
    named = h.named;
  }

  -- a node that isn't one of them is kept in its slot
  closes-run : (kept wild far : ℕ) (lent : List (Lending N)) (before after : List (Entry N A)) (st now : List (Open N A)) (e : Entry N A)
      → IsRun eq f kept wild far lent before st → IsNoneBelow f far e.node → IsPut e before after → AllByRecursion (λ o. IsNoneBelow f wild o.node) now
      → IsRun eq f kept wild far lent after now
  closes-run kept wild far lent before after st now e h free put apart = record {
    laid = h.laid;
    order = h.order;
    reach = h.reach;
    in_size = h.in_size;
    root = (h.root.0, record { there = put_one e h.root.0 before after put h.root.1.there; passes = h.root.1.passes });
    same = put_all (λ x. (j : ℕ) → j < far → (f.entry j).node ≡ x.node → (j < kept) × (x ≡ lent_as f j)) e before after put h.same
        (λ j lt at. absurd (free j lt at));
    apart = apart;
    counted = λ t le. (let order = h.order in
        let reach = h.reach in
        let out : is_one eq (first_of f t) e.node ≡ false = not_first f eq exact t e.node (lower f far t e.node (omega arith) free) in
        let count = count_put (λ x. is_one eq (first_of f t) x.node) e before after put in
        let same : count_by (λ l. nat_lt l.place t) lent + 0 ≡ count_by (λ l. nat_lt l.place t) lent = omega arith in
        count ∙ (λ i. h.counted t le i + cond (out i) 1 0) ∙ same);
    below = h.below;
    named = h.named;
  }

  -- and is seen kept
  closes-seen : (kept far : ℕ) → kept ≤ far → (before after : List (Entry N A)) (e : Entry N A) → IsNoneBelow f far e.node → IsPut e before after
      → IsPut e (with_folded eq (first_of f kept) before) (with_folded eq (first_of f kept) after)
  closes-seen kept far le before after e free put =
      seen_put eq laws exact f kept e before after (not_first f eq exact kept e.node (lower f far kept e.node le free)) put

  -- ---- a run begins
  all-stay : (es : List (Entry N A)) → with_folded eq [] es ≡ es
  all-stay es = append-nil (filter (λ e. true) es) ∙ by es
    where
      by : (xs : List (Entry N A)) → filter (λ e. true) xs ≡ xs
      by [] = refl
      by (x ∷ xs) = ap (λ ys. x ∷ ys) (by xs)

  none-counted : (es : List (Entry N A)) → count_by (λ e. false) es ≡ 0
  none-counted [] = refl
  none-counted (e ∷ es) = let one = sum_by-cons (λ (x : Entry N A). cond false 1 0) e es in let rest = none-counted es in cc (one, rest)

  begins-run : (kept wild far : ℕ) (lent : List (Lending N)) (before after : List (Entry N A)) (o : Open N A) (st now : List (Open N A)) (e : Entry N A)
      → e.node ≡ o.node → IsFounded f kept wild far lent before o st → IsPut e before after → AllByRecursion (λ w. IsNoneBelow f wild w.node) now
      → IsRun eq f kept wild far lent after now
  begins-run kept wild far lent before after o st now e named h put apart =
      let zero_is : kept ≡ 0 = h.none in
      record {
        laid = h.laid;
        order = omega (arith, h.none);
        reach = h.reach;
        in_size = h.in_size;
        root = (
          e,
          record {
            there = subst (λ xs. IsOneOf xs e) (sym put.now) (at put.front put.back);
            passes = subst (λ n. eq n e.node ≡ true) (named ∙ sym h.root) (laws.refl e.node);
          },
        );
        same = put_all (λ x. (j : ℕ) → j < far → (f.entry j).node ≡ x.node → (j < kept) × (x ≡ lent_as f j)) e before after put
            (All-map (λ x out j lt is. absurd (out j lt is)) before h.out)
            (λ j lt is. (let size = h.in_size in absurd (h.laid.apart j (omega arith) (is ∙ named ∙ sym h.root))));
        apart = apart;
        counted = λ t le. (let t0 : t ≡ 0 = omega (arith, h.none) in
            rw t0 (rw h.no_lent (none-counted after)));
        below = rw h.no_lent tt;
        named = rw h.no_lent tt;
      }
    where
      at : (front back : List (Entry N A)) → IsOneOf (front ++ e ∷ back) e
      at [] back = inl refl
      at (x ∷ front) back = inr (at front back)

-- ---- a run, or none
all-nodes : {N A : Type 0} (P : N → Type 0) (st : List (Open N A)) → AllByRecursion (λ o. P o.node) st → AllByRecursion P (nodes_in st)
all-nodes P [] h = tt
all-nodes P (o ∷ st) h = (h.0, all-nodes P st h.1)

nodes-all : {N A : Type 0} (P : N → Type 0) (st : List (Open N A)) → AllByRecursion P (nodes_in st) → AllByRecursion (λ o. P o.node) st
nodes-all P [] h = tt
nodes-all P (o ∷ st) h = (h.0, nodes-all P st h.1)

pub takes-all : {X : Type 0} (P : X → Type 0) (b : Bool) (xs ys : List X) → TakesFirst b xs ys → AllByRecursion P xs → AllByRecursion P ys
takes-all P true xs ys t all = (subst (AllByRecursion P) t.1 all).1
takes-all P false xs ys t all = subst (AllByRecursion P) (sym t.1) tt

loses-all : {N A : Type 0} (P : N → Type 0) (st now : List (Open N A)) → MayLose st now → AllByRecursion (λ o. P o.node) st → AllByRecursion (λ o. P o.node) now
loses-all P [] now lost all = subst (AllByRecursion (λ o. P o.node)) (sym lost) tt
loses-all P (o ∷ st) now (inl same) all = subst (AllByRecursion (λ w. P w.node)) (sym same) all
loses-all P (o ∷ st) now (inr rest) all = subst (AllByRecursion (λ w. P w.node)) (sym rest) all.1

module _ {N A S : Type 0} (eq : N → N → Bool) (laws : IsEquivalence eq) (exact : (a b : N) → eq a b ≡ true → a ≡ b) (fold : S → Fold N A) where
  -- the same nodes are kept, and others may be open
  pub opened-folding : (run : Option (Run N S)) (old new : Nodes N A) → IsFolding eq fold run old → new.kept ≡ old.kept
      → ((P : N → Type 0) → AllByRecursion (λ o. P o.node) old.opened → AllByRecursion (λ o. P o.node) new.opened) → IsFolding eq fold run new
  opened-folding None old new h same all = tt
  opened-folding (Some run) old new h same all = reopened eq laws exact (fold run.nodes) run.kept run.wild run.far run.lent.items run.lent.items old new h same
      (all (IsNoneBelow (fold run.nodes) run.wild) h.apart)

  pub named-folding : (run : Option (Run N S)) (old new : Nodes N A) → IsFolding eq fold run old → new.kept ≡ old.kept
      → nodes_in new.opened ≡ nodes_in old.opened
      → IsFolding eq fold run new
  named-folding run old new h same named = opened-folding run old new h same
      (λ P all. nodes-all P new.opened (subst (AllByRecursion P) (sym named) (all-nodes P old.opened all)))

  -- more nodes may be open
  pub wilder-folding : (was run : Run N S) (t : Nodes N A) → SameButWild was run → IsFolding eq fold (Some was) t → IsFolding eq fold (Some run) t
  wilder-folding was run t same h =
      rw same.0 (rw same.1 (rw same.4 (rw same.5
      (wilder eq laws exact (fold was.nodes) was.kept was.wild run.wild was.far was.lent.items t.kept t.opened h same.2
      (let le = same.3 in let e = same.1 in omega arith)))))

  pub wilder-view : (was run : Run N S) (t : Tabled N A) → SameButWild was run → viewed eq fold (Some run) t ≡ viewed eq fold (Some was) t
  wilder-view was run t same = λ i. record {
    kept = with_folded eq (first_of (fold (same.0 i)) (same.1 i)) t.kept;
    opened = t.opened;
    looks = t.looks;
  }

  -- what comes of asking for a node that may be open
  pub asks-folding : (was run : Run N S) (old new : Tabled N A) → SameButWild was run → IsFolding eq fold (Some was) (nodes old) → (n : N)
      → IsFree fold run n → {E : Type 0} (r : Result (Option N) E) → IfOk r (λ came. Asks eq n (nodes old) (nodes new) came)
      → OnErr r (nodes new ≡ nodes old) → IsFolding eq fold (Some run) (nodes new)
      × IfOk r (λ came. Asks eq n (nodes (viewed eq fold (Some was) old)) (nodes (viewed eq fold (Some run) new)) came)
  asks-folding was run old new same h n free r ok err =
      subst (λ v. IsFolding eq fold (Some run) (nodes new) × IfOk r (λ came. Asks eq n (nodes v) (nodes (viewed eq fold (Some run) new)) came))
      (wilder-view was run old same)
      (ask-any eq laws exact (fold run.nodes) run.kept run.wild run.far run.lent.items (nodes old) (nodes old) (nodes new) refl
      (wilder-folding was run (nodes old) same h) n (inl free) r ok err)

  pub starts-folding : (was run : Run N S) (old new : Tabled N A) → SameButWild was run → IsFolding eq fold (Some was) (nodes old) → (n : N)
      → IsFree fold run n → {E : Type 0} (r : Result (Option (Outcome N A)) E) → IfOk r (λ came. Starts eq n (nodes old) (nodes new) came)
      → OnErr r (nodes new ≡ nodes old) → IsFolding eq fold (Some run) (nodes new)
      × IfOk r (λ came. Starts eq n (nodes (viewed eq fold (Some was) old)) (nodes (viewed eq fold (Some run) new)) came)
  starts-folding was run old new same h n free r ok err =
      subst (λ v. IsFolding eq fold (Some run) (nodes new) × IfOk r (λ came. Starts eq n (nodes v) (nodes (viewed eq fold (Some run) new)) came))
      (wilder-view was run old same)
      (start-any eq laws exact (fold run.nodes) run.kept run.wild run.far run.lent.items (nodes old) (nodes old) (nodes new) refl
      (wilder-folding was run (nodes old) same h) n (inl free) r ok err)

  -- a question for a node that is kept by its number knows its answer
  pub known-folding : (was run : Run N S) (t : Tabled N A) → SameButWild was run → (j : ℕ) (n : N) → IsCovered fold run j n → (a : A)
      → ((fold run.nodes).entry j).answer ≡ a
      → Starts eq n (nodes (viewed eq fold (Some was) t)) (nodes (viewed eq fold (Some run) t)) (Some (Answered a))
  known-folding was run t same j n at a is =
      let view = wilder-view was run t same in (
        subst (λ v. HasEntry eq v.kept n a) view
            ((fold run.nodes).entry j, seen_folded eq laws exact (fold run.nodes) run.kept t.kept j n at.0 at.1, is),
        ap nodes view,
      )

  -- the last open node is kept in its slot, as any other
  closes-folding : (run : Run N S) (a : A) (st : List (Open N A)) (old new : Tabled N A) → old.opened ≡ st → IsFolding eq fold (Some run) (nodes old)
      → IsLastFree fold run st → Closes a st (nodes old) (nodes new)
      → IsFolding eq fold (Some run) (nodes new) × Closes a st (nodes (viewed eq fold (Some run) old)) (nodes (viewed eq fold (Some run) new))
  closes-folding run a [] old new is h free c = absurd c
  closes-folding run a (o ∷ st) old new is h free c =
      let f = fold run.nodes in
      let all : AllByRecursion (λ w. IsNoneBelow f run.wild w.node) (o ∷ st) = subst (AllByRecursion (λ w. IsNoneBelow f run.wild w.node)) is h.apart in
      let k = c.0 in
      let e : Entry N A = kept_of o a k.once in
      let put : IsPut e old.kept new.kept = record { front = k.front; back = k.back; was = k.was; now = k.kept } in
      let seen = closes-seen eq laws exact f run.kept run.far (let order = h.order in let reach = h.reach in omega arith) old.kept new.kept e free put in (
        closes-run eq laws exact f run.kept run.wild run.far run.lent.items old.kept new.kept old.opened new.opened e h free put
            (subst (AllByRecursion (λ w. IsNoneBelow f run.wild w.node)) (sym c.1) (apart-heard (IsNoneBelow f run.wild) o.node a st all.1)),
        (
          record { once = k.once; each = k.each; front = seen.front; back = seen.back; was = seen.was; kept = seen.now },
          c.1,
        ),
      )

  -- whatever came of keeping it
  keeps-folding : (run : Run N S) (a : A) (st now : List (Open N A)) (before after : List (Entry N A))
      → IsRun eq (fold run.nodes) run.kept run.wild run.far run.lent.items before st → IsLastFree fold run st → MayKeep a st before after → MayLose st now
      → IsRun eq (fold run.nodes) run.kept run.wild run.far run.lent.items after now
      × MayKeep a st (with_folded eq (first_of (fold run.nodes) run.kept) before) (with_folded eq (first_of (fold run.nodes) run.kept) after)
  keeps-folding run a [] now before after h free may lost = absurd may
  keeps-folding run a (o ∷ st) now before after h free (inl same) lost =
      let f = fold run.nodes in (
        reopened eq laws exact f run.kept run.wild run.far run.lent.items run.lent.items (record { kept = before; opened = o ∷ st })
            (record { kept = after; opened = now }) h same (loses-all (IsNoneBelow f run.wild) (o ∷ st) now lost h.apart),
        inl (ap (with_folded eq (first_of f run.kept)) same),
      )
  keeps-folding run a (o ∷ st) now before after h free (inr k) lost =
      let f = fold run.nodes in
      let e : Entry N A = kept_of o a k.once in
      let put : IsPut e before after = record { front = k.front; back = k.back; was = k.was; now = k.kept } in
      let seen = closes-seen eq laws exact f run.kept run.far (let order = h.order in let reach = h.reach in omega arith) before after e free put in (
        closes-run eq laws exact f run.kept run.wild run.far run.lent.items before after (o ∷ st) now e h free put
            (loses-all (IsNoneBelow f run.wild) (o ∷ st) now lost h.apart),
        inr (record { once = k.once; each = k.each; front = seen.front; back = seen.back; was = seen.was; kept = seen.now }),
      )

  pub close-any : {E : Type 0} (run : Run N S) (a : A) (old new : Tabled N A) → IsFolding eq fold (Some run) (nodes old) → IsLastFree fold run old.opened
      → (r : Result (Unit {0}) E) → OnOk r (Closes a old.opened (nodes old) (nodes new)) → OnErr r (MayKeep a old.opened old.kept new.kept)
      → OnErr r (MayLose old.opened new.opened)
      → IsFolding eq fold (Some run) (nodes new)
      × OnOk r (Closes a old.opened (nodes (viewed eq fold (Some run) old)) (nodes (viewed eq fold (Some run) new)))
      × OnErr r (MayKeep a old.opened (viewed eq fold (Some run) old).kept (viewed eq fold (Some run) new).kept)
  close-any run a old new h free (Ok u) ok may lost = let c = closes-folding run a old.opened old new refl h free ok in (c.0, c.1, tt)
  close-any run a old new h free (Err e) ok may lost =
      let c = keeps-folding run a old.opened new.opened old.kept new.kept h free may lost in (c.0, tt, c.1)

  -- a run begins as its root is kept
  pub begins-folding : (run : Option (Run N S)) (a : A) (st : List (Open N A)) (old new : Tabled N A) → Founds eq fold run old.kept st
      → Closes a st (nodes old) (nodes new) → IsFolding eq fold run (nodes new) × Closes a st (nodes old) (nodes (viewed eq fold run new))
  begins-folding None a st old new founds c = (tt, c)
  begins-folding (Some run) a [] old new founds c = absurd founds
  begins-folding (Some run) a (o ∷ st) old new founds c =
      let f = fold run.nodes in
      let k = c.0 in
      let e : Entry N A = kept_of o a k.once in
      let put : IsPut e old.kept new.kept = record { front = k.front; back = k.back; was = k.was; now = k.kept } in
      let apart : AllByRecursion (λ w. IsNoneBelow f run.wild w.node) new.opened = subst (AllByRecursion (λ w. IsNoneBelow f run.wild w.node)) (sym c.1)
      (apart-heard (IsNoneBelow f run.wild) o.node a st founds.apart.1) in
      let seen : with_folded eq (first_of f run.kept) new.kept ≡ new.kept =
      (λ i. with_folded eq (first_of f (founds.none i)) new.kept) ∙ all-stay eq laws exact f new.kept in (
        begins-run eq laws exact f run.kept run.wild run.far run.lent.items old.kept new.kept o st new.opened e refl founds put apart,
        (record { once = k.once; each = k.each; front = k.front; back = k.back; was = k.was; kept = seen ∙ k.kept }, c.1),
      )
