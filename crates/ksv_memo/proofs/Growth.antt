-- Nodes that are kept by numbers alone become more: those that evaluation of an asked one completes.
use Rattle.ksv_memo.proofs.Common.{◌≡◌, ℕ, zero, suc, ◌+◌, ◌-◌, ◌<◌, ◌≤◌, nat_lt, nat_eq, arith, Bool, true, false, not, cond, ◌||◌, List, [], ◌∷◌, ◌++◌}
use Rattle.ksv_memo.proofs.Common.{filter, count_by, refl, sym, ◌∙◌, ap, subst, inr, AllByRecursion, IsDistinct, map, append_assoc, append-nil}
use Rattle.ksv_memo.proofs.Common.{sum_by-cons, Decides-ltb, All-map, All-++, Entry, Open, nodes_in, nodes_of, nodes_of-append, is_among, eqb_true, IsIn, IsOut}
use Rattle.ksv_memo.proofs.Common.{Answered, IsEquivalence, tells, AreDistinct, IsRight, StandsIn, costs, Standing, Option, Some, Result, IfOk, nodes}
use Rattle.std.specs.Prelude.{min}
use Rattle.std.proofs.Common.{true≢false, OnErr}
use Rattle.std.proofs.lemmas.List.{map-append}
use Rattle.std.proofs.lemmas.Result.{on_err_weaker}
use Rattle.std.proofs.lemmas.Cmp.{nat_eq_equiv}
use Rattle.std.proofs.lemmas.Map.Keys.{IsDistinct-push}
use Rattle.ksv_memo_rules.specs.Evaluation.{IsAnswered}
use Rattle.ksv_memo_rules.specs.Folds.{AreTold, Fold, IsFold, first_of, calls_from}
use Rattle.ksv_memo_rules.specs.Right.{cost, counted}
use Rattle.ksv_memo_rules.specs.Touched.{tree}
use Rattle.ksv_memo_rules.proofs.Lists.{none_fails}
use Rattle.ksv_memo_rules.proofs.Standins.{stands-among, answered-by}
use Rattle.ksv_memo.specs.declared.lendings.Lending.{Lending}
use Rattle.ksv_memo.specs.declared.folded.Run.{Run}
use Rattle.ksv_memo.specs.Nodes.{Nodes, Tabled, Asks, HasNoEntry}
use Rattle.ksv_memo.specs.Growing.{AsksGrown, Grows, GrowsBy}
use Rattle.ksv_memo.specs.Folding.{IsFolding, IsRun, IsNoneBelow, IsTold, is_one, lent_as, viewed, with_folded}
use Rattle.ksv_memo.proofs.Laying.{one_of-all}
use Rattle.ksv_memo.proofs.Change.{member}
use Rattle.ksv_memo.proofs.Turns.{waits_among}
use Rattle.ksv_memo.proofs.Taking.{Asking, entry_in, no_entry_out}
use Rattle.ksv_memo.proofs.Beside.{first_one, one_first, seen_entry, seen_folded, seen_none}
use Rattle.ksv_memo.proofs.Leasts.{below_own}
use Rattle.ksv_memo.proofs.Growing.{grows-none}

-- ---- lists
-- tests that agree on a list leave the same of it
filter-same : {X : Type 0} (p r : X → Bool) (xs : List X) → AllByRecursion (λ x. p x ≡ r x) xs → filter p xs ≡ filter r xs
filter-same p r [] h = refl
filter-same p r (x ∷ xs) h = λ i. cond (h.0 i) (x ∷ filter-same p r xs h.1 i) (filter-same p r xs h.1 i)

-- and as many pass
count-same : {X : Type 0} (p r : X → Bool) (xs : List X) → AllByRecursion (λ x. p x ≡ r x) xs → count_by p xs ≡ count_by r xs
count-same p r [] h = refl
count-same p r (x ∷ xs) h =
    sum_by-cons (λ y. cond (p y) 1 0) x xs ∙ (λ i. cond (h.0 i) 1 0 + count-same p r xs h.1 i) ∙ sym (sum_by-cons (λ y. cond (r y) 1 0) x xs)

-- a test has no other result than what it decides
not_less : (a b : ℕ) → nat_lt a b ≡ false → b ≤ a
not_less a b e = let no : (a < b) → ⊥ = λ h. true≢false (sym ((Decides-ltb a b).1 h) ∙ e) in omega arith

-- ---- the entries of a sequence
-- so many, from one of a number on
abbrev pub next_of : {N A : Type 0} → Fold N A → ℕ → ℕ → List (Entry N A)
next_of f k zero = []
next_of f k (suc d) = next_of f k d ++ f.entry (k + d) ∷ []

module _ {N A : Type 0} (eq : N → N → Bool) (laws : IsEquivalence eq) (exact : (a b : N) → eq a b ≡ true → a ≡ b) (f : Fold N A) where
  -- the first ones, and so many more
  firsts : (k d : ℕ) → first_of f (k + d) ≡ first_of f k ++ next_of f k d
  firsts k zero = let e : k + 0 ≡ k = omega arith in ap (first_of f) e ∙ sym (append-nil (first_of f k))
  firsts k (suc d) =
      let e : k + suc d ≡ suc (k + d) = omega arith in
      ap (first_of f) e ∙ ap (λ xs. xs ++ f.entry (k + d) ∷ []) (firsts k d) ∙ append_assoc (first_of f k) (next_of f k d) (f.entry (k + d) ∷ [])

  -- a node that is one of more is one of fewer, if its number is below these
  same_first : (k t : ℕ) (n : N) → k ≤ t → ((j : ℕ) → j < t → (f.entry j).node ≡ n → j < k) → is_one eq (first_of f t) n ≡ is_one eq (first_of f k) n
  same_first k t n le fewer = by (is_one eq (first_of f t) n) refl (is_one eq (first_of f k) n) refl
    where
      by : (a : Bool) → is_one eq (first_of f t) n ≡ a → (b : Bool) → is_one eq (first_of f k) n ≡ b → a ≡ b
      by true at true as_is = refl
      by false at false as_is = refl
      by true at false as_is =
          let h = one_first f eq t n at in
          absurd (true≢false (sym (first_one f eq k h.0 n (fewer h.0 h.1 (sym (exact n (f.entry h.0).node h.2))) h.2) ∙ as_is))
      by false at true as_is =
          let h = one_first f eq k n as_is in
          let lt : h.0 < k = h.1 in
          absurd (true≢false (sym (first_one f eq t h.0 n (omega arith) h.2) ∙ at))

  -- ---- a run
  module _ (k wild far : ℕ) (lent : List (Lending N)) (es : List (Entry N A)) (st : List (Open N A)) (h : IsRun eq f k wild far lent es st) where
    -- no fewer may have slots than may be open
    pub in-reach : (t : ℕ) → t ≤ wild → t ≤ far
    in-reach t le = let reach = h.reach in omega arith

    abbrev seen_with : ℕ → List (Entry N A)
    seen_with t = with_folded eq (first_of f t) es

    -- with more of them no more slots are of one
    same_ones : (t : ℕ) → k ≤ t → t ≤ wild → AllByRecursion (λ e. is_one eq (first_of f t) e.node ≡ is_one eq (first_of f k) e.node) es
    same_ones t le most = All-map (λ e own. same_first k t e.node le (λ j lt at. (own j (let reach = in-reach t most in omega arith) at).0)) es h.same

    counted_at : (t : ℕ) → t ≤ wild → count_by (λ e. is_one eq (first_of f t) e.node) es ≡ count_by (λ l. nat_lt l.place t) lent
    counted_at t most = by (nat_lt k t) refl
      where
        by : (b : Bool) → nat_lt k t ≡ b → count_by (λ e. is_one eq (first_of f t) e.node) es ≡ count_by (λ l. nat_lt l.place t) lent
        by false e = h.counted t (not_less k t e)
        by true e =
            let more : k < t = (Decides-ltb k t).0 e in
            count-same (λ e. is_one eq (first_of f t) e.node) (λ e. is_one eq (first_of f k) e.node) es (same_ones t (omega arith) most)
            ∙ h.counted k (omega arith)
            ∙ count-same (λ l. nat_lt l.place k) (λ l. nat_lt l.place t) lent
            (All-map (λ l lt. (Decides-ltb l.place k).1 lt ∙ sym ((Decides-ltb l.place t).1 (let less : l.place < k = lt in omega arith))) lent h.below)

    -- it may have any number of nodes below the first that may have slots or be open
    pub run-at : (t : ℕ) → k ≤ t → t ≤ wild → IsRun eq f t wild far lent es st
    run-at t le most = record {
      laid = h.laid;
      order = most;
      reach = h.reach;
      in_size = h.in_size;
      root = h.root;
      same = All-map (λ e own j lt at. (let less : j < k = (own j lt at).0 in ((omega arith), (own j lt at).1))) es h.same;
      apart = h.apart;
      counted = λ s less. counted_at s (omega arith);
      below = All-map (λ l lt. (let less : l.place < k = lt in let more : l.place < t = omega arith in more)) lent h.below;
      named = h.named;
    }

    -- what is seen is what was, and these
    pub after_more : (d : ℕ) → k + d ≤ wild → seen_with (k + d) ≡ seen_with k ++ next_of f k d
    after_more d most =
        let same : filter (λ e. not (is_one eq (first_of f (k + d)) e.node)) es ≡ filter (λ e. not (is_one eq (first_of f k) e.node)) es =
        filter-same (λ e. not (is_one eq (first_of f (k + d)) e.node)) (λ e. not (is_one eq (first_of f k) e.node)) es
        (All-map (λ e one. ap not one) es (same_ones (k + d) (omega arith) most)) in
        (λ i. same i ++ firsts k d i)
        ∙ sym (append_assoc (filter (λ e. not (is_one eq (first_of f k) e.node)) es) (first_of f k) (next_of f k d))

    -- and with one more, it
    pub after_one : suc k ≤ wild → seen_with (suc k) ≡ seen_with k ++ f.entry k ∷ []
    after_one most =
        let more : suc k ≡ k + 1 = omega arith in
        let none : k + 0 ≡ k = omega arith in
        ap seen_with more ∙ after_more 1 (omega arith) ∙ ap (λ i. seen_with k ++ f.entry i ∷ []) none

module _ {N A : Type 0} (q : Asking N A) (f : Fold N A) where
  -- what holds of each number holds of the entries
  all_first : (P : Entry N A → Type 0) (t : ℕ) → ((i : ℕ) → i < t → P (f.entry i)) → AllByRecursion P (first_of f t)
  all_first P zero h = tt
  all_first P (suc t) h = All-++ P (first_of f t) (f.entry t ∷ []) (all_first P t (λ i lt. h i (omega arith))) (h t (omega arith), tt)

  all_next : (P : Entry N A → Type 0) (k d : ℕ) → ((i : ℕ) → k ≤ i → i < k + d → P (f.entry i)) → AllByRecursion P (next_of f k d)
  all_next P k zero h = tt
  all_next P k (suc d) h =
      All-++ P (next_of f k d) (f.entry (k + d) ∷ []) (all_next P k d (λ i le lt. h i le (omega arith))) (h (k + d) (omega arith) (omega arith), tt)

  -- the calls of one more
  costs-end : (es : List (Entry N A)) (e : Entry N A) → costs q.world (nodes_of (es ++ e ∷ [])) ≡ costs q.world (nodes_of es) + cost q.world e.node
  costs-end [] e = omega arith
  costs-end (x ∷ es) e = let rest = costs-end es e in omega arith

  -- one more node that is none of them
  distinct-end : (es : List (Entry N A)) (e : Entry N A) → AreDistinct q.world (nodes_of es) → IsOut q.world (nodes_of es) e.node
      → AreDistinct q.world (nodes_of (es ++ e ∷ []))
  distinct-end es e once out = subst (AreDistinct q.world) (sym (nodes_of-append es (e ∷ [])))
      (subst (IsDistinct nat_eq) (sym (map-append q.world.number (nodes_of es) (e.node ∷ [])))
      (IsDistinct-push nat_eq_equiv (map q.world.number (nodes_of es)) (q.world.number e.node) once out))

  -- ---- a run
  module _ (k wild far : ℕ) (lent : List (Lending N)) (es : List (Entry N A)) (st : List (Open N A)) (h : IsRun q.eq f k wild far lent es st) where
    abbrev seen_at : ℕ → List (Entry N A)
    seen_at t = with_folded q.eq (first_of f t) es

    in-far : (t : ℕ) → t ≤ wild → t ≤ far
    in-far t le = in-reach q.eq q.laws q.exact f k wild far lent es st h t le

    run-to : (t : ℕ) → k ≤ t → t ≤ wild → IsRun q.eq f t wild far lent es st
    run-to t le most = run-at q.eq q.laws q.exact f k wild far lent es st h t le most

    seen-more : (d : ℕ) → k + d ≤ wild → seen_at (k + d) ≡ seen_at k ++ next_of f k d
    seen-more d most = after_more q.eq q.laws q.exact f k wild far lent es st h d most

    -- where what is seen is right, the root has its answer
    pub root-told : IsRight q.world (seen_at k) → IsTold q.world q.eq es f.root
    root-told right e is =
        let seen = seen_entry q.eq q.laws q.exact f k es far (in-far k h.order) h.same f.root e is in
        ap (λ n. (tells q.world [] n).outcome) (sym seen.node)
        ∙ (one_of-all (λ x. StandsIn q.world (nodes_of (seen_at k)) x) (seen_at k) right.each seen.entry seen.is.there).outcome ∙ ap Answered seen.answer

    -- and so has each folded node
    pub first-told : IsRight q.world (seen_at k) → AreTold q.world f k
    first-told right j lt =
        (one_of-all (λ x. StandsIn q.world (nodes_of (seen_at k)) x) (seen_at k) right.each (f.entry j)
        (seen_folded q.eq q.laws q.exact f k es j (f.entry j).node lt refl).there).outcome

    -- the root and each folded node are seen kept
    root_in : (t : ℕ) → k ≤ t → t ≤ wild → IsIn q.world (nodes_of (seen_at t)) f.root
    root_in t le most =
        let seen = seen_entry q.eq q.laws q.exact f t es far (in-far t most) (run-to t le most).same f.root h.root.0 h.root.1 in
        entry_in q (seen_at t) f.root seen.entry seen.is

    first_in : (t i : ℕ) → i < t → IsIn q.world (nodes_of (seen_at t)) (f.entry i).node
    first_in t i lt = entry_in q (seen_at t) (f.entry i).node (f.entry i) (seen_folded q.eq q.laws q.exact f t es i (f.entry i).node lt refl)

    named_in : (t i : ℕ) → k ≤ t → t ≤ wild → i ≤ t → (m : N) → IsIn q.world (f.root ∷ nodes_of (first_of f i)) m → IsIn q.world (nodes_of (seen_at t)) m
    named_in t i le most less m there = by (nat_eq (q.world.number m) (q.world.number f.root)) refl
      where
        by : (b : Bool) → nat_eq (q.world.number m) (q.world.number f.root) ≡ b → IsIn q.world (nodes_of (seen_at t)) m
        by true e = subst (IsIn q.world (nodes_of (seen_at t))) (sym (q.law.own_number m f.root (eqb_true (q.world.number m) (q.world.number f.root) e)))
            (root_in t le most)
        by false e =
            let rest : IsIn q.world (nodes_of (first_of f i)) m = sym (ap (λ b. b || is_among q.world.number (nodes_of (first_of f i)) m) e) ∙ there in
            member q.world q.law (IsIn q.world (nodes_of (seen_at t))) (first_of f i)
            (all_first (λ x. IsIn q.world (nodes_of (seen_at t)) x.node) i (λ j lt. first_in t j (omega arith))) m rest

    -- so they stand in
    stand_more : (d count : ℕ) → k + d ≤ wild → k + d ≤ count → IsFold q.world f count
        → AllByRecursion (StandsIn q.world (nodes_of (seen_at (k + d)))) (next_of f k d)
    stand_more d count most within fold = all_next (StandsIn q.world (nodes_of (seen_at (k + d)))) k d
        (λ i le lt. (let s = fold.stands i (omega arith) in stands-among q.world (f.root ∷ nodes_of (first_of f i)) (nodes_of (seen_at (k + d))) (f.entry i) s
        (All-map (named_in (k + d) i (omega arith) most (omega arith)) (tells q.world [] (f.entry i).node).asked s.closed)
        (All-map (named_in (k + d) i (omega arith) most (omega arith)) (f.entry i).asked s.named)))

    -- the next one is none of those that are seen
    next_out : (t : ℕ) → k ≤ t → t < wild → IsOut q.world (nodes_of (seen_at t)) (f.entry t).node
    next_out t le lt =
        let n = (f.entry t).node in
        let size = h.in_size in
        let reach = h.reach in
        let none : HasNoEntry q.eq es n = none_fails (λ e. q.eq n e.node) es (All-map (λ e own. apart e own (q.eq n e.node) refl) es h.same) in
        no_entry_out q (seen_at t) n (seen_none q.eq q.laws q.exact f t es n none (below_own f h.laid t t n (omega arith) (omega arith) refl))
      where
        apart : (e : Entry N A) → ((j : ℕ) → j < far → (f.entry j).node ≡ e.node → (j < k) × (e ≡ lent_as f j)) → (b : Bool)
            → q.eq (f.entry t).node e.node ≡ b → q.eq (f.entry t).node e.node ≡ false
        apart e own false at = at
        apart e own true at = let less : t < k = (own t (in-far (suc t) lt) (q.exact (f.entry t).node e.node at)).0 in absurd (omega arith)

    once_more : (d : ℕ) → k + d ≤ wild → AreDistinct q.world (nodes_of (seen_at k)) → AreDistinct q.world (nodes_of (seen_at k ++ next_of f k d))
    once_more zero most once = subst (λ xs. AreDistinct q.world (nodes_of xs)) (sym (append-nil (seen_at k))) once
    once_more (suc d) most once =
        let e = f.entry (k + d) in
        let out : IsOut q.world (nodes_of (seen_at k ++ next_of f k d)) e.node =
        subst (λ xs. IsOut q.world (nodes_of xs) e.node) (seen-more d (omega arith)) (next_out (k + d) (omega arith) (omega arith)) in
        subst (λ xs. AreDistinct q.world (nodes_of xs)) (append_assoc (seen_at k) (next_of f k d) (e ∷ []))
        (distinct-end (seen_at k ++ next_of f k d) e (once_more d (omega arith) once) out)

    -- none of them is open
    free_more : (d : ℕ) → k + d ≤ wild → AllByRecursion (λ e. is_among q.world.number (nodes_in st) e.node ≡ false) (next_of f k d)
    free_more d most = all_next (λ e. is_among q.world.number (nodes_in st) e.node ≡ false) k d (λ i le lt. none i (omega arith))
      where
        apart : (i : ℕ) → i < wild → (o : Open N A) → IsNoneBelow f wild o.node → (b : Bool) → q.eq (f.entry i).node o.node ≡ b
            → q.eq (f.entry i).node o.node ≡ false
        apart i lt o below false at = at
        apart i lt o below true at = absurd (below i lt (q.exact (f.entry i).node o.node at))

        none : (i : ℕ) → i < wild → is_among q.world.number (nodes_in st) (f.entry i).node ≡ false
        none i lt = sym (waits_among q.world q.law q.eq q.laws q.exact st (f.entry i).node)
            ∙ none_fails (λ o. q.eq (f.entry i).node o.node) st (All-map (λ o below. apart i lt o below (q.eq (f.entry i).node o.node) refl) st h.apart)

    calls_more : (d count : ℕ) → k + d ≤ count → IsFold q.world f count → calls_from f.calls k d ≡ costs q.world (nodes_of (next_of f k d))
    calls_more zero count le fold = refl
    calls_more (suc d) count le fold =
        let rest = calls_more d count (omega arith) fold in
        let one = fold.calls (k + d) (omega arith) in
        let all = costs-end (next_of f k d) (f.entry (k + d)) in
        omega arith

    -- it grows by so many
    grown_more : (m : N) (place count d : ℕ) → (f.entry place).node ≡ m → IsFold q.world f count → place < count → k + d ≤ count
        → ((i : ℕ) → k ≤ i → i < k + d → is_among q.world.number (tree q.world (f.entry place).node) (f.entry i).node ≡ true) → k + d ≤ wild
        → IsRight q.world (seen_at k) → GrowsBy q.world m (nodes_in st) (seen_at k) (seen_at (k + d)) (calls_from f.calls k d)
    grown_more m place count d at fold lt few in_tree most right = record {
      more = next_of f k d;
      after = seen-more d most;
      stand = stand_more d count most few fold;
      once = subst (λ xs. AreDistinct q.world (nodes_of xs)) (sym (seen-more d most)) (once_more d most right.once);
      free = free_more d most;
      within = subst (λ n. AllByRecursion (λ e. is_among q.world.number (tree q.world n) e.node ≡ true) (next_of f k d)) at
          (all_next (λ e. is_among q.world.number (tree q.world (f.entry place).node) e.node ≡ true) k d in_tree);
      answered = inr (subst (λ n. IsAnswered (tells q.world [] n).outcome) at
          (answered-by q.world (f.root ∷ nodes_of (first_of f place)) (f.entry place) (fold.stands place lt)));
      calls = calls_more d count few fold;
    }

    -- up to a number
    pub grown-to : (m : N) (place count now : ℕ) → (f.entry place).node ≡ m → IsFold q.world f count → place < count → k ≤ now → now ≤ place + 1
        → ((i : ℕ) → k ≤ i → i < now → is_among q.world.number (tree q.world (f.entry place).node) (f.entry i).node ≡ true) → now ≤ wild
        → IsRight q.world (seen_at k) → GrowsBy q.world m (nodes_in st) (seen_at k) (seen_at now) (calls_from f.calls k (now - k))
    grown-to m place count now at fold lt less le in_tree most right =
        let e : k + (now - k) ≡ now = omega arith in
        subst (λ t. GrowsBy q.world m (nodes_in st) (seen_at k) (seen_at t) (calls_from f.calls k (now - k))) e
        (grown_more m place count (now - k) at fold lt (omega arith) (λ i low high. in_tree i low (omega arith)) (omega arith) right)

-- ---- a table
-- one that hasn't grown
pub grows-same : {N A : Type 0} (w : Standing N A) (m : N) (old new : Tabled N A) (turns : Option ℕ) → IsRight w old.kept → new.kept ≡ old.kept
    → new.opened ≡ old.opened → Grows w m old new turns turns
grows-same w m old new turns right kept opened = record {
  opened = opened;
  calls = 0;
  grown = subst (λ es. GrowsBy w m (nodes_in old.opened) old.kept es 0) (sym kept) (grows-none w m (nodes_in old.opened) old.kept right);
  turns = refl;
}

-- so it is asked as a table without a run is
pub asks-same : {N A E : Type 0} (w : Standing N A) (eq : N → N → Bool) (m : N) (old mid new : Tabled N A) (turns : Option ℕ) → IsRight w old.kept → mid ≡ old
    → (r : Result (Option N) E) → IfOk r (λ came. Asks eq m (nodes mid) (nodes new) came) → OnErr r (nodes new ≡ nodes mid)
    → AsksGrown w eq m old new turns turns r
asks-same w eq m old mid new turns right same r ok err = record {
  mid = mid;
  grown = grows-same w m old mid turns right (ap (λ v. v.kept) same) (ap (λ v. v.opened) same);
  ok = ok;
  err = on_err_weaker r (ap (λ t. t.kept)) err;
}

module _ {N A S : Type 0} (q : Asking N A) (fold : S → Fold N A) (was : Option (Run N S)) (run : Run N S) (is : was ≡ Some run) (old new : Tabled N A)
    (same : nodes new ≡ nodes old) (h : IsFolding q.eq fold was (nodes old)) (right : IsRight q.world (viewed q.eq fold was old).kept) (m : N)
    (before : Option ℕ) where
  -- the run that is beside it
  held : IsRun q.eq (fold run.nodes) run.kept run.wild run.far run.lent.items old.kept old.opened
  held = subst (λ r. IsFolding q.eq fold r (nodes old)) is h

  right-seen : IsRight q.world (with_folded q.eq (first_of (fold run.nodes) run.kept) old.kept)
  right-seen = subst (λ r. IsRight q.world (viewed q.eq fold r old).kept) is right

  -- its root has its answer
  pub told-beside : IsTold q.world q.eq old.kept (fold run.nodes).root
  told-beside = root-told q (fold run.nodes) run.kept run.wild run.far run.lent.items old.kept old.opened held right-seen

  -- and so has each node that is kept by its number
  pub first-beside : AreTold q.world (fold run.nodes) run.kept
  first-beside = first-told q (fold run.nodes) run.kept run.wild run.far run.lent.items old.kept old.opened held right-seen

  -- it stays
  pub stays-beside : Grows q.world m (viewed q.eq fold was old) (viewed q.eq fold (Some run) new) before before
  stays-beside = subst (λ r. Grows q.world m (viewed q.eq fold r old) (viewed q.eq fold (Some run) new) before before) (sym is)
      (grows-same q.world m (viewed q.eq fold (Some run) old) (viewed q.eq fold (Some run) new) before right-seen
      (ap (λ (t : Nodes N A). with_folded q.eq (first_of (fold run.nodes) run.kept) t.kept) same) (ap (λ (t : Nodes N A). t.opened) same))

  -- or it has more nodes, up to a number
  module _ (place now : ℕ) (order : run.kept < now) (until : now ≡ min run.wild ((fold run.nodes).whole place)) where
    pub runs-beside : IsRun q.eq (fold run.nodes) now run.wild run.far run.lent.items new.kept new.opened
    runs-beside =
        let le = held.order in
        subst (λ (t : Nodes N A). IsRun q.eq (fold run.nodes) now run.wild run.far run.lent.items t.kept t.opened) (sym same)
        (run-at q.eq q.laws q.exact (fold run.nodes) run.kept run.wild run.far run.lent.items old.kept old.opened held now (omega arith) (omega arith))

    pub grows-beside : (count calls : ℕ) (after : Option ℕ) → ((fold run.nodes).entry place).node ≡ m → IsFold q.world (fold run.nodes) count → place < count
        → calls ≡ calls_from (fold run.nodes).calls run.kept (now - run.kept) → after ≡ counted calls before
        → Grows q.world m (viewed q.eq fold was old)
        (record { kept = with_folded q.eq (first_of (fold run.nodes) now) new.kept; opened = new.opened; looks = new.looks }) before after
    grows-beside count calls after at folds lt many turns =
        let f = fold run.nodes in
        let le = held.order in
        let last-in : now ≤ place + 1 = (let size = folds.in_size in let whole = (held.laid.whole place (omega arith)).0 in omega arith) in
        let grown : GrowsBy q.world m (nodes_in old.opened) (with_folded q.eq (first_of f run.kept) old.kept) (with_folded q.eq (first_of f now) old.kept)
        (calls_from f.calls run.kept (now - run.kept)) =
        grown-to q f run.kept run.wild run.far run.lent.items old.kept old.opened held m place count now at folds lt (omega arith) last-in
        (λ i low high. folds.within i place (omega arith) lt) (omega arith) right-seen in
        let t : Tabled N A = record { kept = with_folded q.eq (first_of f now) new.kept; opened = new.opened; looks = new.looks } in
        subst (λ r. Grows q.world m (viewed q.eq fold r old) t before after) (sym is) (record {
          opened = ap (λ (x : Nodes N A). x.opened) same;
          calls = calls;
          grown = subst (λ (x : Nodes N A). GrowsBy q.world m (nodes_in old.opened) (with_folded q.eq (first_of f run.kept) old.kept)
              (with_folded q.eq (first_of f now) x.kept) calls) (sym same)
              (subst (GrowsBy q.world m (nodes_in old.opened) (with_folded q.eq (first_of f run.kept) old.kept) (with_folded q.eq (first_of f now) old.kept))
              (sym many) grown);
          turns = turns;
        })
