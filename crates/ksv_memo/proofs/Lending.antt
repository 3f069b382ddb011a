-- A folded node that is kept in a slot too.
use Rattle.ksv_memo.proofs.Common.{◌≡◌, ◌⊎◌, ℕ, ◌+◌, ◌<◌, ◌≤◌, nat_lt, arith, cond, Bool, true, false, List, [], ◌∷◌, ◌++◌, Result, refl, sym, ◌∙◌}
use Rattle.ksv_memo.proofs.Common.{ap, subst, inl, inr, Open, Entry, IsOneOf, AllByRecursion, All-++, All-left, All-right, IsEquivalence, count_by, sum_by-cons}
use Rattle.ksv_memo.proofs.Common.{Option, Some, None, newly, Replies, Opens, Circles, Decides-ltb, Answered, Outcome, IfOk}
use Rattle.std.proofs.lemmas.List.Sums.{sum_by-append}
use Rattle.ksv_memo_rules.specs.declared.rules.Outcome.TheVariants.{Circle as CircleOf}
use Rattle.ksv_memo_rules.specs.Folds.{Fold, IsLaid, first_of}
use Rattle.ksv_memo.specs.declared.lendings.Lending.{Lending}
use Rattle.ksv_memo.specs.declared.folded.Run.{Run}
use Rattle.ksv_memo.specs.Nodes.{Nodes, Asks, Starts, HasNoEntry, KeepsNode, IsPut, TakesFirst, is_there}
use Rattle.ksv_memo.specs.Lending.{dropped_last}
use Rattle.ksv_memo.specs.Open.{heard}
use Rattle.ksv_memo.specs.Folding.{FailsToLend, LendsTo, LosesFirst, ClosesAs, SameRun, IsRun, IsNoneBelow, is_one, lending, lent_as, with_folded, entry_as}
use Rattle.std.proofs.Common.{true≢false, Ok, Err, OnErr}
use Rattle.ksv_memo.proofs.Beside.{seen_entry, seen_folded, seen_none, seen_lent, own, first_one, one_first}
use Rattle.ksv_memo.proofs.Leasts.{lower}
use Rattle.ksv_memo.proofs.Tabling.{keeps_or_not}

-- what was listed last is dropped
pub drops-end : {X : Type 0} (xs : List X) (x : X) → dropped_last (xs ++ x ∷ []) ≡ xs
drops-end [] x = refl
drops-end (y ∷ []) x = refl
drops-end (y ∷ z ∷ xs) x = ap (λ ys. y ∷ ys) (drops-end (z ∷ xs) x)

-- memory is refused for its number: it is taken out
pub loses-first : {N A : Type 0} (b : Bool) (old new : Nodes N A) → is_there old.opened ≡ true → TakesFirst b old.opened new.opened → new.kept ≡ old.kept
    → LosesFirst old new
loses-first true old new there takes kept = record { first = takes.0; was = takes.1; kept = kept }
loses-first false old new there takes kept = let none : is_there old.opened ≡ false = ap is_there takes.0 in absurd (true≢false (sym there ∙ none))

module _ {N A S : Type 0} (fold : S → Fold N A) (j : ℕ) (a : A) (old_run new_run : Run N S) (old new : Nodes N A) where
  -- it isn't kept
  pub fails-lost : LosesFirst old new → SameRun old_run new_run old_run.lent.items → FailsToLend fold j a old_run new_run old new
  fails-lost lost same = record { first = lost.first; was = lost.was; kept = inl (lost.kept, same) }

  -- the one below doesn't get its answer
  pub fails-put : ClosesAs (fold old_run.nodes) j a false old.opened old new
      → SameRun old_run new_run (old_run.lent.items ++ lending (fold old_run.nodes) j ∷ [])
      → FailsToLend fold j a old_run new_run old new
  fails-put closes same = by old.opened refl closes
    where
      by : (st : List (Open N A)) → old.opened ≡ st → ClosesAs (fold old_run.nodes) j a false st old new
          → FailsToLend fold j a old_run new_run old new
      by [] is h = absurd h
      by (o ∷ st) is h = record { first = o; was = is ∙ ap (λ xs. o ∷ xs) (sym h.1); kept = inr (h.0, same) }

-- ---- what holds of entries once one was put among them
pub put_all : {X : Type 0} (P : X → Type 0) (x : X) (before after : List X) → IsPut x before after → AllByRecursion P before → P x → AllByRecursion P after
put_all P x before after p all one =
    let both : AllByRecursion P (p.front ++ p.back) = subst (AllByRecursion P) p.was all in
    subst (AllByRecursion P) (sym p.now) (All-++ P p.front (x ∷ p.back) (All-left P p.front p.back both) (one, All-right P p.front p.back both))

pub put_one : {X : Type 0} (x y : X) (before after : List X) → IsPut x before after → IsOneOf before y → IsOneOf after y
put_one {X} x y before after p there = subst (λ xs. IsOneOf xs y) (sym p.now) (by p.front p.back (subst (λ xs. IsOneOf xs y) p.was there))
  where
    by : (front back : List X) → IsOneOf (front ++ back) y → IsOneOf (front ++ x ∷ back) y
    by [] back h = inr h
    by (z ∷ front) back (inl e) = inl e
    by (z ∷ front) back (inr h) = inr (by front back h)

pub count_put : {X : Type 0} (p : X → Bool) (x : X) (before after : List X) → IsPut x before after → count_by p after ≡ count_by p before + cond (p x) 1 0
count_put {X} p x before after put =
    let c : X → ℕ = λ y. cond (p y) 1 0 in
    let sums = sum_by-append c put.front (x ∷ put.back) in
    let one = sum_by-cons c x put.back in
    let was = sum_by-append c put.front put.back in
    let now : count_by p after ≡ count_by p (put.front ++ x ∷ put.back) = ap (count_by p) put.now in
    let old : count_by p before ≡ count_by p (put.front ++ put.back) = ap (count_by p) put.was in
    omega arith

-- ---- a run
-- the nodes of the last open node's replies don't matter
pub apart-heard : {N A : Type 0} (P : N → Type 0) (m : N) (a : A) (st : List (Open N A)) → AllByRecursion (λ o. P o.node) st
    → AllByRecursion (λ o. P o.node) (heard m a st)
apart-heard P m a [] h = tt
apart-heard P m a (o ∷ st) h = h

-- the same run, by other names
pub same-run : {N A S : Type 0} (eq : N → N → Bool) (fold : S → Fold N A) (old new : Run N S) (items : List (Lending N)) (es : List (Entry N A))
    (st : List (Open N A))
    → SameRun old new items → IsRun eq (fold old.nodes) old.kept old.wild old.far items es st
    → IsRun eq (fold new.nodes) new.kept new.wild new.far new.lent.items es st
same-run eq fold old new items es st same h = rw same.nodes (rw same.kept (rw same.wild (rw same.far (rw same.lent h))))

module _ {N A : Type 0} (eq : N → N → Bool) (laws : IsEquivalence eq) (exact : (a b : N) → eq a b ≡ true → a ≡ b) (f : Fold N A) (kept wild far : ℕ)
    (lent : List (Lending N)) where
  abbrev pub sees : Nodes N A → Nodes N A
  sees t = record { kept = with_folded eq (first_of f kept) t.kept; opened = t.opened }

  abbrev pub Runs : List (Lending N) → Nodes N A → Type 0
  Runs js t = IsRun eq f kept wild far js t.kept t.opened

  -- other open nodes
  pub reopened : (js : List (Lending N)) (old new : Nodes N A) → Runs js old → new.kept ≡ old.kept → AllByRecursion (λ o. IsNoneBelow f wild o.node) new.opened
      → Runs js new
  reopened js old new h same apart = record {
    laid = h.laid;
    order = h.order;
    reach = h.reach;
    in_size = h.in_size;
    root = rw same h.root;
    same = rw same h.same;
    apart = apart;
    counted = λ t le. rw same (h.counted t le);
    below = h.below;
    named = h.named;
  }

  -- no fewer may have slots than are kept
  in-reach : (t : Nodes N A) → Runs lent t → kept ≤ far
  in-reach t h = let order = h.order in let reach = h.reach in omega arith

  -- a node that may be open is opened
  opens-on : (old new : Nodes N A) → Runs lent old → (n : N) → IsNoneBelow f wild n → Opens eq n old new → Runs lent new × Opens eq n (sees old) (sees new)
  opens-on old new h n free o =
      let same : n ≡ o.node = exact n o.node o.passes in
      let apart : AllByRecursion (λ w. IsNoneBelow f wild w.node) new.opened =
      subst (AllByRecursion (λ w. IsNoneBelow f wild w.node)) (sym o.opened) (subst (IsNoneBelow f wild) same free, h.apart) in (
        reopened lent old new h o.kept apart,
        record {
          node = o.node;
          passes = o.passes;
          out = seen_none eq laws exact f kept old.kept n o.out (lower f wild kept n h.order free);
          free = o.free;
          kept = ap (with_folded eq (first_of f kept)) o.kept;
          opened = o.opened;
        },
      )

  circles-on : (old new : Nodes N A) → Runs lent old → (n m : N) → Circles eq n m old new → Runs lent new × Circles eq n m (sees old) (sees new)
  circles-on old new h n m c = (
    reopened lent old new h c.kept (subst (AllByRecursion (λ w. IsNoneBelow f wild w.node)) (sym c.opened) h.apart),
    record { same = c.same; waits = c.waits; kept = ap (with_folded eq (first_of f kept)) c.kept; opened = c.opened },
  )

  replies-on : (old new : Nodes N A) → Runs lent old → (n : N) → Replies eq n old new → Runs lent new × Replies eq n (sees old) (sees new)
  replies-on old new h n r = (
    reopened lent old new h r.kept (subst (AllByRecursion (λ w. IsNoneBelow f wild w.node)) (sym r.opened)
        (apart-heard (IsNoneBelow f wild) r.entry.node r.entry.answer old.opened h.apart)),
    (let seen = seen_entry eq laws exact f kept old.kept far (in-reach old h) h.same n r.entry r.is in
        record {
          entry = seen.entry;
          is = seen.is;
          kept = ap (with_folded eq (first_of f kept)) r.kept;
          opened = r.opened ∙ (λ i. heard (sym seen.node i) (sym seen.answer i) old.opened);
        }),
  )

  -- a node is asked that may be open, or is kept
  pub asks-on : (old new : Nodes N A) → Runs lent old → (n : N) → IsNoneBelow f wild n ⊎ KeepsNode eq old.kept n → (came : Option N) → Asks eq n old new came
      → Runs lent new × Asks eq n (sees old) (sees new) came
  asks-on old new h n free None (inl replies) = let on = replies-on old new h n replies in (on.0, inl on.1)
  asks-on old new h n (inl free) None (inr opens) = let on = opens-on old new h n free opens in (on.0, inr on.1)
  asks-on old new h n (inr there) None (inr opens) = absurd (keeps_or_not eq old.kept n there opens.out)
  asks-on old new h n free (Some m) circles = circles-on old new h n m circles

  -- a question has started, and not opened its node
  pub starts-some : (old new : Nodes N A) → Runs lent old → (n : N) → (out : Outcome N A) → Starts eq n old new (Some out)
      → Runs lent new × Starts eq n (sees old) (sees new) (Some out)
  starts-some old new h n (Answered a) (has, same) =
      let seen = seen_entry eq laws exact f kept old.kept far (in-reach old h) h.same n has.0 has.1 in
      (subst (Runs lent) (sym same) h, ((seen.entry, seen.is, seen.answer ∙ has.2), ap sees same))
  starts-some old new h n (CircleOf m) circles = circles-on old new h n m circles

  -- or a question for it starts
  pub starts-on : (old new : Nodes N A) → Runs lent old → (n : N) → IsNoneBelow f wild n ⊎ KeepsNode eq old.kept n → (came : Option (Outcome N A))
      → Starts eq n old new came → Runs lent new × Starts eq n (sees old) (sees new) came
  starts-on old new h n free (Some out) came = starts-some old new h n out came
  starts-on old new h n (inl free) None opens = opens-on old new h n free opens
  starts-on old new h n (inr there) None opens = absurd (keeps_or_not eq old.kept n there opens.out)

  -- whatever came of it
  pub ask-any : {E : Type 0} (old mid new : Nodes N A) → mid ≡ old → Runs lent old → (n : N) → IsNoneBelow f wild n ⊎ KeepsNode eq old.kept n
      → (r : Result (Option N) E) → IfOk r (λ came. Asks eq n mid new came) → OnErr r (new ≡ mid)
      → Runs lent new × IfOk r (λ came. Asks eq n (sees old) (sees new) came)
  ask-any old mid new same h n free (Ok came) ok err = asks-on old new h n free came (subst (λ t. Asks eq n t new came) same ok)
  ask-any old mid new same h n free (Err e) ok err = (subst (Runs lent) (sym (err ∙ same)) h, tt)

  pub start-any : {E : Type 0} (old mid new : Nodes N A) → mid ≡ old → Runs lent old → (n : N) → IsNoneBelow f wild n ⊎ KeepsNode eq old.kept n
      → (r : Result (Option (Outcome N A)) E) → IfOk r (λ came. Starts eq n mid new came) → OnErr r (new ≡ mid)
      → Runs lent new × IfOk r (λ came. Starts eq n (sees old) (sees new) came)
  start-any old mid new same h n free (Ok came) ok err = starts-on old new h n free came (subst (λ t. Starts eq n t new came) same ok)
  start-any old mid new same h n free (Err e) ok err = (subst (Runs lent) (sym (err ∙ same)) h, tt)

  -- a node that isn't kept is opened
  pub opens-only : (old new : Nodes N A) (n : N) → HasNoEntry eq old.kept n → Replies eq n old new ⊎ Opens eq n old new → Opens eq n old new
  opens-only old new n none (inl r) = absurd (keeps_or_not eq old.kept n (r.entry, r.is) none)
  opens-only old new n none (inr o) = o

-- ---- a folded node that gets a slot
module _ {N V F : Type 0} (eq : N → N → Bool) (laws : IsEquivalence eq) (exact : (a b : N) → eq a b ≡ true → a ≡ b) (f : Fold N (Result V F))
    (kept wild far : ℕ) (lent : List (Lending N)) where
  -- which of the first nodes a node is
  first_test : IsLaid f → (t j : ℕ) → t ≤ f.size → j < f.size → is_one eq (first_of f t) (f.entry j).node ≡ nat_lt j t
  first_test laid t j le lt = by (nat_lt j t) refl (is_one eq (first_of f t) (f.entry j).node) refl
    where
      by : (a : Bool) → nat_lt j t ≡ a → (b : Bool) → is_one eq (first_of f t) (f.entry j).node ≡ b → b ≡ a
      by true is b at = sym at ∙ first_one f eq t j (f.entry j).node ((Decides-ltb j t).0 is) (laws.refl (f.entry j).node)
      by false is false at = refl
      by false is true at =
          let h = one_first f eq t (f.entry j).node at in
          let below = h.1 in
          let same : j ≡ h.0 = laid.once j h.0 lt (omega arith) (exact (f.entry j).node (f.entry h.0).node h.2) in
          absurd (true≢false (sym ((Decides-ltb j t).1 (omega arith)) ∙ is))

  -- what is kept of it is what the sequence says, by the root
  pub as-told : (j : ℕ) (a : Result V F) (o : Open N (Result V F)) → (f.entry j).node ≡ o.node → (f.entry j).answer ≡ a → entry_as f j a o ≡ lent_as f j
  as-told j a o node answer = λ i. record { node = sym node i; answer = sym answer i; asked = f.root ∷ []; uses = (f.entry j).uses }

  -- a run once it has a slot
  pub lent-on : (j : ℕ) (old : Nodes N (Result V F)) → IsRun eq f kept wild far lent old.kept old.opened → j < kept → (es : List (Entry N (Result V F)))
      → IsPut (lent_as f j) old.kept es → (st : List (Open N (Result V F))) → AllByRecursion (λ o. IsNoneBelow f wild o.node) st
      → IsRun eq f kept wild far (lent ++ lending f j ∷ []) es st
  lent-on j old h lt es put st apart =
      let order = h.order in
      let reach = h.reach in
      let size = h.in_size in
      record {
        laid = h.laid;
        order = h.order;
        reach = h.reach;
        in_size = h.in_size;
        root = (h.root.0, record { there = put_one (lent_as f j) h.root.0 old.kept es put h.root.1.there; passes = h.root.1.passes });
        same = put_all (λ e. (i : ℕ) → i < far → (f.entry i).node ≡ e.node → (i < kept) × (e ≡ lent_as f i)) (lent_as f j) old.kept es put h.same
            (λ i below same. (let is : i ≡ j = h.laid.once i j (omega arith) (omega arith) same in ((omega arith), ap (lent_as f) (sym is))));
        apart = apart;
        counted = λ t le.
            count_put (λ e. is_one eq (first_of f t) e.node) (lent_as f j) old.kept es put
            ∙ (λ i. h.counted t le i + cond (first_test h.laid t j (omega arith) (omega arith) i) 1 0)
            ∙ sym (count_end (λ l. nat_lt l.place t) lent (lending f j));
        below = All-++ (λ l. l.place < kept) lent (lending f j ∷ []) h.below (lt, tt);
        named = All-++ (λ l. (f.entry l.place).node ≡ l.node) lent (lending f j ∷ []) h.named (refl, tt);
      }
    where
      count_end : {X : Type 0} (p : X → Bool) (xs : List X) (x : X) → count_by p (xs ++ x ∷ []) ≡ count_by p xs + cond (p x) 1 0
      count_end p xs x = let all = sum_by-append (λ y. cond (p y) 1 0) xs (x ∷ []) in let one = sum_by-cons (λ y. cond (p y) 1 0) x [] in
          let none : count_by p [] ≡ 0 = refl in omega arith

  module _ {S : Type 0} (fold : S → Fold N (Result V F)) (old_run new_run : Run N S) (is : fold old_run.nodes ≡ f) (kept_is : old_run.kept ≡ kept)
      (wild_is : old_run.wild ≡ wild) (far_is : old_run.far ≡ far) (lent_is : old_run.lent.items ≡ lent) (j : ℕ) (a : Result V F) (n : N) (lt : j < kept)
      (at : (f.entry j).node ≡ n) (answer : (f.entry j).answer ≡ a) (old mid new : Nodes N (Result V F))
      (h : IsRun eq f kept wild far lent old.kept old.opened) (opens : Opens eq n old mid) where
    same_node : (f.entry j).node ≡ opens.node
    same_node = at ∙ exact n opens.node opens.passes

    put_here : (o : Open N (Result V F)) → o.node ≡ opens.node → (es : List (Entry N (Result V F))) → IsPut (entry_as (fold old_run.nodes) j a o) mid.kept es
        → IsPut (lent_as f j) old.kept es
    put_here o named es p = rw (← opens.kept) (subst (λ e. IsPut e mid.kept es) (as-told j a o (same_node ∙ sym named) answer)
        (subst (λ g. IsPut (entry_as g j a o) mid.kept es) is p))

    as_new : {items : List (Lending N)} → SameRun old_run new_run items → (es : List (Entry N (Result V F)))
        → with_folded eq (first_of (fold new_run.nodes) new_run.kept) es ≡ with_folded eq (first_of f kept) es
    as_new same es = λ i. with_folded eq (first_of ((ap fold same.nodes ∙ is) i) ((same.kept ∙ kept_is) i)) es

    -- the last open node is the one that was opened
    pub lends-on : LendsTo fold j a old_run new_run mid.opened mid new
        → IsRun eq (fold new_run.nodes) new_run.kept new_run.wild new_run.far new_run.lent.items new.kept new.opened
        × Replies eq n (sees eq laws exact f kept wild far lent old)
        (record { kept = with_folded eq (first_of (fold new_run.nodes) new_run.kept) new.kept; opened = new.opened })
    lends-on l =
        let l2 : LendsTo fold j a old_run new_run (newly opens.node ∷ old.opened) mid new =
        subst (λ st. LendsTo fold j a old_run new_run st mid new) opens.opened l in
        let put = put_here (newly opens.node) refl new.kept l2.0 in
        let apart : AllByRecursion (λ w. IsNoneBelow f wild w.node) new.opened = subst (AllByRecursion (λ w. IsNoneBelow f wild w.node)) (sym l2.1)
        (apart-heard (IsNoneBelow f wild) opens.node a old.opened h.apart) in
        let run : IsRun eq f kept wild far (lent ++ lending f j ∷ []) new.kept new.opened = lent-on j old h lt new.kept put new.opened apart in (
          same-run eq fold old_run new_run (old_run.lent.items ++ lending (fold old_run.nodes) j ∷ []) new.kept new.opened l2.2
              (rw is (rw kept_is (rw wild_is (rw far_is (rw lent_is run))))),
          record {
            entry = f.entry j;
            is = seen_folded eq laws exact f kept old.kept j n lt at;
            kept = as_new l2.2 new.kept ∙ seen_lent eq laws exact f kept (lent_as f j) old.kept new.kept (own eq laws exact f kept j lt) put;
            opened = l2.1 ∙ (λ i. heard (sym same_node i) (sym answer i) old.opened);
          },
        )

    -- or the memory for that is refused
    pub fails-on : FailsToLend fold j a old_run new_run mid new
        → IsRun eq (fold new_run.nodes) new_run.kept new_run.wild new_run.far new_run.lent.items new.kept new.opened
        × (with_folded eq (first_of (fold new_run.nodes) new_run.kept) new.kept ≡ with_folded eq (first_of f kept) old.kept)
    fails-on l =
        let both : newly opens.node ∷ old.opened ≡ l.first ∷ new.opened = sym opens.opened ∙ l.was in
        let rest : old.opened ≡ new.opened = tail-same _ _ _ _ both in
        let first : newly opens.node ≡ l.first = head-same _ _ _ _ both in
        let apart : AllByRecursion (λ w. IsNoneBelow f wild w.node) new.opened = subst (AllByRecursion (λ w. IsNoneBelow f wild w.node)) rest h.apart in
        elim l.kept [
          | inl lost ↦ (
            same-run eq fold old_run new_run old_run.lent.items new.kept new.opened lost.1
                (rw is (rw kept_is (rw wild_is (rw far_is (rw lent_is (reopened eq laws exact f kept wild far lent lent old new h (lost.0 ∙ opens.kept)
                apart)))))),
            as_new lost.1 new.kept ∙ ap (with_folded eq (first_of f kept)) (lost.0 ∙ opens.kept),
          )
          | inr kept_it ↦
              let put = put_here l.first (ap (λ (o : Open N (Result V F)). o.node) (sym first)) new.kept kept_it.0 in (
                same-run eq fold old_run new_run (old_run.lent.items ++ lending (fold old_run.nodes) j ∷ []) new.kept new.opened kept_it.1
                    (rw is (rw kept_is (rw wild_is (rw far_is (rw lent_is (lent-on j old h lt new.kept put new.opened apart)))))),
                as_new kept_it.1 new.kept ∙ seen_lent eq laws exact f kept (lent_as f j) old.kept new.kept (own eq laws exact f kept j lt) put,
              )
        ]
      where
        tail-same : {X : Type 0} (x y : X) (xs ys : List X) → x ∷ xs ≡ y ∷ ys → xs ≡ ys
        tail-same x y xs ys e = let same : xs ≡ ys = cc in same

        head-same : {X : Type 0} (x y : X) (xs ys : List X) → x ∷ xs ≡ y ∷ ys → x ≡ y
        head-same x y xs ys e = let same : x ≡ y = cc in same
