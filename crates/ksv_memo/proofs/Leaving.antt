-- What an edit leaves of nodes that are kept by numbers alone, and of the table beside them.
use Rattle.ksv_memo.proofs.Common.{◌≡◌, ◌⊎◌, inl, inr, Bool, true, false, not, cond, ◌||◌, ℕ, zero, suc, ◌+◌, ◌*◌, ◌<◌, ◌≤◌, List, [], ◌∷◌, ◌++◌}
use Rattle.ksv_memo.proofs.Common.{length, length-append, filter, refl, sym, ◌∙◌, ap, subst, arith, sum_by, count_by, nat_lt, AllByRecursion}
use Rattle.ksv_memo.proofs.Common.{list_any, IsDistinct}
use Rattle.ksv_memo.proofs.Common.{sum_by-cons, IsDistinct-head, IsDistinct-tail, IsEquivalence, Change, is_use_touched, pages_in, append-nil}
use Rattle.ksv_memo.proofs.Common.{Entry, nodes_of, IsOneOf, Mark, IsMarked, entries_left, Sweeps, All-map, All-++, Decides-ltb}
use Rattle.ksv_memo.proofs.Common.{Option, Some, None, Slot, Linked, with_first, entry_at, entries_at, entries_of, numbers_from, Open, nodes}
use Rattle.std.specs.Prelude.{nat_le, IfSome}
use Rattle.std.proofs.Math.Bool.{or-false}
use Rattle.std.proofs.lemmas.Bool.{cases_Bool, cases_lt, not-true, true≢false}
use Rattle.std.proofs.lemmas.Bool.Decides.{nat_tests}
use Rattle.std.proofs.lemmas.List.{map-append}
use Rattle.std.proofs.lemmas.List.Elements.{filter-append}
use Rattle.std.proofs.lemmas.List.Filters.{length-filter_both}
use Rattle.std.proofs.lemmas.List.Folds.{list_any-append}
use Rattle.std.proofs.lemmas.List.Sums.{length-filter, count_by-le-length, sum_by-append}
use Rattle.ksv_memo_links.specs.Links.{pages_met, met_by, pages_behind, behind_by, ended_by}
use Rattle.ksv_memo_rules.specs.Folds.{Fold, Leaves, first_of, is_from, named_in}
use Rattle.ksv_memo.specs.declared.lendings.Lending.{Lending}
use Rattle.ksv_memo.specs.declared.folded.Run.{Run}
use Rattle.ksv_memo.specs.Folding.{IsRun, IsFolding, IsCut, is_one, lent_as, viewed, with_folded}
use Rattle.ksv_memo.specs.Nodes.{Tabled, KeepsNode, HasNoEntry}
use Rattle.ksv_memo.specs.Sweep.{IsMarkedBy, SweepsBy, Says, AllSay, entries_with, entries_gone}
use Rattle.ksv_memo.proofs.Forgetting.{stay-all}
use Rattle.ksv_memo.specs.Lending.{Listed, is_lent_from}
use Rattle.ksv_memo.proofs.Laying.{one_of-all, same_or}
use Rattle.ksv_memo.proofs.Listing.{lent-test, unlent-test}

-- ---- members
module _ {X : Type 0} where
  -- what each member has, all have
  pub all-one_of : (P : X → Type 0) (xs : List X) → ((x : X) → IsOneOf xs x → P x) → AllByRecursion P xs
  all-one_of P [] h = tt
  all-one_of P (x ∷ xs) h = (h x (inl refl), all-one_of P xs (λ y m. h y (inr m)))

  -- a member of the first of two lists, or of the second, is one of both
  in_left : (xs ys : List X) (x : X) → IsOneOf xs x → IsOneOf (xs ++ ys) x
  in_left [] ys x h = absurd h
  in_left (y ∷ xs) ys x (inl e) = inl e
  in_left (y ∷ xs) ys x (inr h) = inr (in_left xs ys x h)

  in_right : (xs ys : List X) (x : X) → IsOneOf ys x → IsOneOf (xs ++ ys) x
  in_right [] ys x h = h
  in_right (y ∷ xs) ys x h = inr (in_right xs ys x h)

  -- a member that passes is left by a filter
  in_filter : (p : X → Bool) (xs : List X) (x : X) → p x ≡ true → IsOneOf xs x → IsOneOf (filter p xs) x
  in_filter p [] x e h = absurd h
  in_filter p (y ∷ xs) x e (inl s) = by (p y) (ap p s ∙ e)
    where
      by : (b : Bool) → b ≡ true → IsOneOf (cond b (y ∷ filter p xs) (filter p xs)) x
      by true t = inl s
      by false t = absurd (cc)
  in_filter p (y ∷ xs) x e (inr h) = by (p y) (in_filter p xs x e h)
    where
      by : (b : Bool) → IsOneOf (filter p xs) x → IsOneOf (cond b (y ∷ filter p xs) (filter p xs)) x
      by true m = inr m
      by false m = m

  -- one that a filter leaves is a member, and passes
  out_of-filter : (p : X → Bool) (xs : List X) (x : X) → IsOneOf (filter p xs) x → IsOneOf xs x × (p x ≡ true)
  out_of-filter p [] x h = absurd h
  out_of-filter p (y ∷ xs) x h = by (p y) refl h (λ m. (let r = out_of-filter p xs x m in (inr r.0, r.1)))
    where
      by : (b : Bool) → p y ≡ b → IsOneOf (cond b (y ∷ filter p xs) (filter p xs)) x → (IsOneOf (filter p xs) x → IsOneOf (y ∷ xs) x × (p x ≡ true))
          → IsOneOf (y ∷ xs) x × (p x ≡ true)
      by true e (inl s) later = (inl s, ap p (sym s) ∙ e)
      by true e (inr m) later = later m
      by false e m later = later m

  -- one that passes is in the second list, another one stays in the first
  in_both : (p : X → Bool) (xs ys : List X) (x : X) → (p x ≡ true → IsOneOf ys x) → IsOneOf xs x → IsOneOf (filter (λ y. not (p y)) xs ++ ys) x
  in_both p xs ys x h m = elim (cases_Bool (p x)) [
    | inl e ↦ in_right (filter (λ y. not (p y)) xs) ys x (h e)
    | inr e ↦ in_left (filter (λ y. not (p y)) xs) ys x (in_filter (λ y. not (p y)) xs x (ap not e) m)
  ]

  -- a member that passes
  any-of : (p : X → Bool) (xs : List X) (x : X) → IsOneOf xs x → p x ≡ true → list_any p xs ≡ true
  any-of p [] x m e = absurd m
  any-of p (y ∷ xs) x (inl s) e = ap (λ b. b || list_any p xs) (ap p s ∙ e)
  any-of p (y ∷ xs) x (inr m) e = by (p y) (any-of p xs x m e)
    where
      by : (b : Bool) → list_any p xs ≡ true → (b || list_any p xs) ≡ true
      by true t = refl
      by false t = t

  -- ---- sums over lists in which no element comes twice
  abbrev pub AreApart : List X → Type 0
  AreApart [] = Unit {0}
  AreApart (x ∷ xs) = AllByRecursion (λ y. x ≡ y → ⊥) xs × AreApart xs

  -- a member's part, and the sum of the others
  part : (f : X → ℕ) (vs : List X) (w : X) → IsOneOf vs w
      → (rest : List X) × (sum_by f vs ≡ f w + sum_by f rest) × ((x : X) → (x ≡ w → ⊥) → IsOneOf vs x → IsOneOf rest x)
  part f [] w h = absurd h
  part f (v ∷ vs) w (inl e) = (vs, sum_by-cons f v vs ∙ ap (λ x. f x + sum_by f vs) e, λ x ne m. later x ne m)
    where
      later : (x : X) → (x ≡ w → ⊥) → IsOneOf (v ∷ vs) x → IsOneOf vs x
      later x ne (inl q) = absurd (ne (sym q ∙ e))
      later x ne (inr m) = m
  part f (v ∷ vs) w (inr h) =
      let c = part f vs w h in
      let a = sum_by-cons f v vs in
      let b = sum_by-cons f v c.0 in
      (v ∷ c.0, omega arith, λ x ne m. later c.0 c.2 x ne m)
    where
      later : (rest : List X) → ((x : X) → (x ≡ w → ⊥) → IsOneOf vs x → IsOneOf rest x) → (x : X) → (x ≡ w → ⊥) → IsOneOf (v ∷ vs) x → IsOneOf (v ∷ rest) x
      later rest k x ne (inl q) = inl q
      later rest k x ne (inr m) = inr (k x ne m)

  -- they are among others, whose sum is no less
  sum-among : (f : X → ℕ) (ws vs : List X) → AreApart ws → ((x : X) → IsOneOf ws x → IsOneOf vs x) → sum_by f ws ≤ sum_by f vs
  sum-among f [] vs d h = omega arith
  sum-among f (w ∷ ws) vs d h =
      let c = part f vs w (h w (inl refl)) in
      omega (arith, sum-among f ws c.0 d.1 (λ x m. c.2 x (λ e. one_of-all (λ y. w ≡ y → ⊥) ws d.0 x m (sym e)) (h x (inr m))), sum_by-cons f w ws)

-- nodes that aren't equal by the test differ
differing : {N : Type 0} (eq : N → N → Bool) → IsEquivalence eq → (a b : N) → eq a b ≡ false → a ≡ b → ⊥
differing eq laws a b e s = true≢false (sym (laws.refl a) ∙ ap (eq a) s ∙ e)

-- a test that is true either way
or_true : (b : Bool) → (b || true) ≡ true
or_true true = refl
or_true false = refl

-- ---- marks
module _ {N A : Type 0} where
  -- a filter of marks by their entries
  filter-entries : (q : Entry N A → Bool) (ks : List (Mark N A)) → entries_with (filter (λ k. q k.entry) ks) ≡ filter q (entries_with ks)
  filter-entries q [] = refl
  filter-entries q (k ∷ ks) = by (q k.entry) (filter-entries q ks)
    where
      by : (b : Bool) → entries_with (filter (λ k. q k.entry) ks) ≡ filter q (entries_with ks)
          → entries_with (cond b (k ∷ filter (λ k. q k.entry) ks) (filter (λ k. q k.entry) ks))
          ≡ cond b (k.entry ∷ filter q (entries_with ks)) (filter q (entries_with ks))
      by true e = ap (λ es. k.entry ∷ es) e
      by false e = e

  -- what stays of two lists
  left-append : (ks js : List (Mark N A)) → entries_left (ks ++ js) ≡ entries_left ks ++ entries_left js
  left-append ks js = ap entries_with (filter-append (λ k. not k.goes) ks js)
      ∙ map-append (λ k. k.entry) (filter (λ k. not k.goes) ks) (filter (λ k. not k.goes) js)

  -- the marks that stay
  abbrev stays : List (Mark N A) → List (Mark N A)
  stays ks = filter (λ k. not k.goes) ks

  -- two tests that agree on what stays
  left-alike : (p : Mark N A → Bool) (q : Entry N A → Bool) (ks : List (Mark N A)) → AllByRecursion (λ k. k.goes ≡ false → p k ≡ q k.entry) ks
      → entries_left (filter p ks) ≡ filter q (entries_left ks)
  left-alike p q [] h = refl
  left-alike p q (k ∷ ks) h = by (p k) h.0 (left-alike p q ks h.1)
    where
      left : (c : Bool) → true ≡ c → entries_with (stays (filter p ks)) ≡ filter q (entries_with (stays ks))
          → entries_with (k ∷ stays (filter p ks)) ≡ cond c (k.entry ∷ filter q (entries_with (stays ks))) (filter q (entries_with (stays ks)))
      left true e ih = ap (λ es. k.entry ∷ es) ih
      left false e ih = absurd (cc)

      out : (c : Bool) → false ≡ c → entries_with (stays (filter p ks)) ≡ filter q (entries_with (stays ks))
          → entries_with (stays (filter p ks)) ≡ cond c (k.entry ∷ filter q (entries_with (stays ks))) (filter q (entries_with (stays ks)))
      out true e ih = absurd (cc)
      out false e ih = ih

      passing : (g : Bool) → (g ≡ false → true ≡ q k.entry) → entries_with (stays (filter p ks)) ≡ filter q (entries_with (stays ks))
          → entries_with (cond (not g) (k ∷ stays (filter p ks)) (stays (filter p ks))) ≡ filter q (entries_with (cond (not g) (k ∷ stays ks) (stays ks)))
      passing true e ih = ih
      passing false e ih = left (q k.entry) (e refl) ih

      failing : (g : Bool) → (g ≡ false → false ≡ q k.entry) → entries_with (stays (filter p ks)) ≡ filter q (entries_with (stays ks))
          → entries_with (stays (filter p ks)) ≡ filter q (entries_with (cond (not g) (k ∷ stays ks) (stays ks)))
      failing true e ih = ih
      failing false e ih = out (q k.entry) (e refl) ih

      by : (b : Bool) → (k.goes ≡ false → b ≡ q k.entry) → entries_with (stays (filter p ks)) ≡ filter q (entries_with (stays ks))
          → entries_with (stays (cond b (k ∷ filter p ks) (filter p ks))) ≡ filter q (entries_with (cond (not k.goes) (k ∷ stays ks) (stays ks)))
      by true e ih = passing k.goes e ih
      by false e ih = failing k.goes e ih

  -- a test that only what stays passes counts the same after it
  count-left : (q : Entry N A → Bool) (ks : List (Mark N A)) → AllByRecursion (λ k. q k.entry ≡ true → k.goes ≡ false) ks
      → count_by q (entries_left ks) ≡ count_by q (entries_with ks)
  count-left q [] h = refl
  count-left q (k ∷ ks) h = by k.goes h.0 (count-left q ks h.1)
    where
      one : (e : Entry N A) (es : List (Entry N A)) → count_by q (e ∷ es) ≡ cond (q e) 1 0 + count_by q es
      one e es = sum_by-cons (λ x. cond (q x) 1 0) e es

      none : (b : Bool) → (b ≡ true → true ≡ false) → cond {A = ℕ} b 1 0 ≡ 0
      none true h = absurd (true≢false (h refl))
      none false h = refl

      by : (g : Bool) → (q k.entry ≡ true → g ≡ false) → count_by q (entries_left ks) ≡ count_by q (entries_with ks)
          → count_by q (entries_with (cond (not g) (k ∷ filter (λ k. not k.goes) ks) (filter (λ k. not k.goes) ks))) ≡ count_by q (entries_with (k ∷ ks))
      by true e ih = omega (arith, one k.entry (entries_with ks), none (q k.entry) e)
      by false e ih = omega (arith, one k.entry (entries_with ks), one k.entry (entries_left ks))

  -- a sum over what goes
  gone-sum : (p : Entry N A → ℕ) (ks : List (Mark N A)) → sum_by p (entries_gone ks) ≡ sum_by (λ k. cond k.goes (p k.entry) 0) ks
  gone-sum p [] = refl
  gone-sum p (k ∷ ks) = by k.goes (gone-sum p ks) ∙ sym (sum_by-cons (λ (k : Mark N A). cond k.goes (p k.entry) 0) k ks)
    where
      by : (g : Bool) → sum_by p (entries_gone ks) ≡ sum_by (λ k. cond k.goes (p k.entry) 0) ks
          → sum_by p (entries_with (cond g (k ∷ filter (λ k. k.goes) ks) (filter (λ k. k.goes) ks)))
          ≡ cond g (p k.entry) 0 + sum_by (λ k. cond k.goes (p k.entry) 0) ks
      by true ih = omega (arith, sum_by-cons p k.entry (entries_gone ks))
      by false ih = omega arith

  -- a sum over all entries, by their marks
  all-sum : (p : Entry N A → ℕ) (ks : List (Mark N A)) → sum_by p (entries_with ks) ≡ sum_by (λ k. p k.entry) ks
  all-sum p [] = refl
  all-sum p (k ∷ ks) = omega (arith, sum_by-cons p k.entry (entries_with ks), sum_by-cons (λ (k : Mark N A). p k.entry) k ks, all-sum p ks)

  -- the ones that go and the ones that stay are all
  gone-and-left : (ks : List (Mark N A)) → length (entries_with ks) ≡ length (entries_gone ks) + length (entries_left ks)
  gone-and-left [] = refl
  gone-and-left (k ∷ ks) = by k.goes (gone-and-left ks)
    where
      by : (g : Bool) → length (entries_with ks) ≡ length (entries_gone ks) + length (entries_left ks)
          → length (entries_with (k ∷ ks)) ≡ length (entries_with (cond g (k ∷ filter (λ k. k.goes) ks) (filter (λ k. k.goes) ks)))
          + length (entries_with (cond (not g) (k ∷ filter (λ k. not k.goes) ks) (filter (λ k. not k.goes) ks)))
      by true ih = omega arith
      by false ih = omega arith

  -- a sum of ones
  ones : (es : List (Entry N A)) → sum_by (λ e. 1) es ≡ length es
  ones [] = refl
  ones (e ∷ es) = omega (arith, sum_by-cons (λ (x : Entry N A). 1) e es, ones es)

  -- each entry has a mark
  mark-of : (ks : List (Mark N A)) (e : Entry N A) → IsOneOf (entries_with ks) e → (k : Mark N A) × IsOneOf ks k × (k.entry ≡ e)
  mark-of [] e h = absurd h
  mark-of (k ∷ ks) e (inl s) = (k, inl refl, s)
  mark-of (k ∷ ks) e (inr h) = let r = mark-of ks e h in (r.0, inr r.1, r.2)

  -- each mark has its entry among them
  entry-of : (ks : List (Mark N A)) (k : Mark N A) → IsOneOf ks k → IsOneOf (entries_with ks) k.entry
  entry-of [] k h = absurd h
  entry-of (j ∷ ks) k (inl s) = inl (ap (λ x. x.entry) s)
  entry-of (j ∷ ks) k (inr h) = inr (entry-of ks k h)

  -- one that stays has a mark that says so
  left-mark : (ks : List (Mark N A)) (e : Entry N A) → IsOneOf (entries_left ks) e → (k : Mark N A) × IsOneOf ks k × (k.entry ≡ e) × (k.goes ≡ false)
  left-mark ks e h =
      let m = mark-of (stays ks) e h in
      let r = out_of-filter (λ (k : Mark N A). not k.goes) ks m.0 m.1 in
      (m.0, r.0, m.2, not-true m.0.goes r.1)

  -- a mark that doesn't go leaves its entry
  left-of : (ks : List (Mark N A)) (k : Mark N A) → IsOneOf ks k → k.goes ≡ false → IsOneOf (entries_left ks) k.entry
  left-of ks k m e = entry-of (stays ks) k (in_filter (λ (x : Mark N A). not x.goes) ks k (ap not e) m)

  -- what holds of all nodes holds of a mark's
  node-of : (P : N → Type 0) (ks : List (Mark N A)) → AllByRecursion P (nodes_of (entries_with ks)) → (k : Mark N A) → IsOneOf ks k → P k.entry.node
  node-of P [] h k m = absurd m
  node-of P (j ∷ ks) h k (inl s) = subst (λ (x : Mark N A). P x.entry.node) s h.0
  node-of P (j ∷ ks) h k (inr m) = node-of P ks h.1 k m

  module _ (eq : N → N → Bool) (laws : IsEquivalence eq) where
    -- a node has one mark
    one-mark : (ks : List (Mark N A)) → IsDistinct eq (nodes_of (entries_with ks)) → (a b : Mark N A) → IsOneOf ks a → IsOneOf ks b
        → a.entry.node ≡ b.entry.node → a ≡ b
    one-mark [] d a b m n s = absurd m
    one-mark (k ∷ ks) d a b (inl e) (inl g) s = sym e ∙ g
    one-mark (k ∷ ks) d a b (inl e) (inr n) s =
        absurd (differing eq laws k.entry.node b.entry.node
        (node-of (λ y. eq k.entry.node y ≡ false) ks (IsDistinct-head eq k.entry.node (nodes_of (entries_with ks)) d) b n)
        (ap (λ (x : Mark N A). x.entry.node) e ∙ s))
    one-mark (k ∷ ks) d a b (inr m) (inl g) s =
        absurd (differing eq laws k.entry.node a.entry.node
        (node-of (λ y. eq k.entry.node y ≡ false) ks (IsDistinct-head eq k.entry.node (nodes_of (entries_with ks)) d) a m)
        (ap (λ (x : Mark N A). x.entry.node) g ∙ sym s))
    one-mark (k ∷ ks) d a b (inr m) (inr n) s = one-mark ks (IsDistinct-tail eq k.entry.node (nodes_of (entries_with ks)) d) a b m n s

    -- so no two marks are the same
    marks-apart : (ks : List (Mark N A)) → IsDistinct eq (nodes_of (entries_with ks)) → AreApart ks
    marks-apart [] d = tt
    marks-apart (k ∷ ks) d = (
      all-one_of (λ j. k ≡ j → ⊥) ks
          (λ j m e. differing eq laws k.entry.node j.entry.node
          (node-of (λ y. eq k.entry.node y ≡ false) ks (IsDistinct-head eq k.entry.node (nodes_of (entries_with ks)) d) j m)
          (ap (λ (x : Mark N A). x.entry.node) e)),
      marks-apart ks
          (IsDistinct-tail eq k.entry.node (nodes_of (entries_with ks)) d),
    )

-- ---- the first nodes of a sequence
module _ {N A : Type 0} (f : Fold N A) where
  -- the entry of a number is among the first ones
  first-in : (t j : ℕ) → j < t → IsOneOf (first_of f t) (f.entry j)
  first-in zero j lt = absurd (omega arith)
  first-in (suc t) j lt = elim (same_or j t) [
    | inl e ↦ in_right (first_of f t) (f.entry t ∷ []) (f.entry j) (inl (ap f.entry (sym e)))
    | inr ne ↦ in_left (first_of f t) (f.entry t ∷ []) (f.entry j) (first-in t j (omega arith))
  ]

  -- ---- marks of these, by whether each goes
  module _ (goes : ℕ → Bool) where
    -- the mark of a number, and those of the first numbers
    abbrev mark_at : ℕ → Mark N A
    mark_at j = record { entry = f.entry j; goes = goes j }

    abbrev marks_of : ℕ → List (Mark N A)
    marks_of zero = []
    marks_of (suc j) = marks_of j ++ mark_at j ∷ []

    -- they mark the first entries
    marks-entries : (t : ℕ) → entries_with (marks_of t) ≡ first_of f t
    marks-entries zero = refl
    marks-entries (suc t) = map-append (λ (k : Mark N A). k.entry) (marks_of t) (mark_at t ∷ []) ∙ ap (λ es. es ++ f.entry t ∷ []) (marks-entries t)

    -- the mark of a number is one of them
    mark-in : (t j : ℕ) → j < t → IsOneOf (marks_of t) (mark_at j)
    mark-in zero j lt = absurd (omega arith)
    mark-in (suc t) j lt = elim (same_or j t) [
      | inl e ↦ in_right (marks_of t) (mark_at t ∷ []) (mark_at j) (inl (ap mark_at (sym e)))
      | inr ne ↦ in_left (marks_of t) (mark_at t ∷ []) (mark_at j) (mark-in t j (omega arith))
    ]

    -- what each of them has, all have
    all-marks : (P : Mark N A → Type 0) (t : ℕ) → ((j : ℕ) → j < t → P (mark_at j)) → AllByRecursion P (marks_of t)
    all-marks P zero h = tt
    all-marks P (suc t) h = All-++ P (marks_of t) (mark_at t ∷ []) (all-marks P t (λ j lt. h j (omega arith))) (h t (omega arith), tt)

    -- one that stays, and one that goes
    one-stays : (t : ℕ) → goes t ≡ false → entries_left (mark_at t ∷ []) ≡ f.entry t ∷ []
    one-stays t e = ap (λ b. entries_with (cond (not b) (mark_at t ∷ []) [])) e

    one-goes : (t : ℕ) → goes t ≡ true → entries_left (mark_at t ∷ []) ≡ []
    one-goes t e = ap (λ b. entries_with (cond (not b) (mark_at t ∷ []) [])) e

    -- all stay
    marks-stay : (t : ℕ) → ((j : ℕ) → j < t → goes j ≡ false) → entries_left (marks_of t) ≡ first_of f t
    marks-stay zero h = refl
    marks-stay (suc t) h = left-append (marks_of t) (mark_at t ∷ [])
        ∙ (λ i. marks-stay t (λ j lt. h j (omega arith)) i ++ one-stays t (h t (omega arith)) i)

    -- those before a number stay
    marks-left : (left t : ℕ) → left ≤ t → ((j : ℕ) → j < left → goes j ≡ false) → ((j : ℕ) → left ≤ j → j < t → goes j ≡ true)
        → entries_left (marks_of t) ≡ first_of f left
    marks-left left zero le stay go = let e : 0 ≡ left = omega arith in subst (λ t. entries_left (marks_of t) ≡ first_of f left) (sym e) (marks-stay left stay)
    marks-left left (suc t) le stay go = elim (same_or left (suc t)) [
      | inl e ↦ subst (λ t. entries_left (marks_of t) ≡ first_of f left) e (marks-stay left stay)
      | inr ne ↦ left-append (marks_of t) (mark_at t ∷ [])
          ∙ (λ i. marks-left left t (omega arith) stay (λ j a b. go j a (omega arith)) i ++ one-goes t (go t (omega arith) (omega arith)) i)
          ∙ append-nil (first_of f left)
    ]

module _ {N A : Type 0} (eq : N → N → Bool) (laws : IsEquivalence eq) (exact : (a b : N) → eq a b ≡ true → a ≡ b) (f : Fold N A) where
  -- the number of one
  number-of : (t : ℕ) (n : N) → is_one eq (first_of f t) n ≡ true → (j : ℕ) × (j < t) × ((f.entry j).node ≡ n)
  number-of zero n h = absurd (cc)
  number-of (suc t) n h =
      by (is_one eq (first_of f t) n) refl (number-of t n) (eq n (f.entry t).node) refl
      (sym (list_any-append (λ (e : Entry N A). eq n e.node) (first_of f t) (f.entry t ∷ [])) ∙ h)
    where
      by : (b : Bool) → is_one eq (first_of f t) n ≡ b → (is_one eq (first_of f t) n ≡ true → (j : ℕ) × (j < t) × ((f.entry j).node ≡ n))
          → (c : Bool) → eq n (f.entry t).node ≡ c → (b || (c || false)) ≡ true → (j : ℕ) × (j < suc t) × ((f.entry j).node ≡ n)
      by true e rest c g h = let r = rest e in (r.0, (let lt : r.0 < suc t = omega (arith, r.1) in lt), r.2)
      by false e rest true g h = (t, (let lt : t < suc t = omega arith in lt), sym (exact n (f.entry t).node g))
      by false e rest false g h = absurd (true≢false (sym h))

  -- a node of a number is one
  numbered : (t j : ℕ) (n : N) → j < t → (f.entry j).node ≡ n → is_one eq (first_of f t) n ≡ true
  numbered t j n lt s = any-of (λ (e : Entry N A). eq n e.node) (first_of f t) (f.entry j) (first-in f t j lt) (ap (eq n) s ∙ laws.refl n)

-- how many the first ones are
length-first : {N A : Type 0} (f : Fold N A) (t : ℕ) → length (first_of f t) ≡ t
length-first f zero = refl
length-first f (suc t) = omega (arith, length-append (first_of f t) (f.entry t ∷ []), length-first f t)

-- ---- how many nodes a table keeps
with-length : {X : Type 0} (o : Option X) (xs : List X) → length (with_first o xs) ≤ suc (length xs)
with-length None xs = omega arith
with-length (Some x) xs = omega arith

-- no more entries than slots are kept
entries-few : {N V F : Type 0} (ps : List (N × Slot V F)) (l : Linked) (is : List ℕ) → length (entries_at ps l is) ≤ length is
entries-few ps l [] = omega arith
entries-few ps l (i ∷ is) = omega (arith, with-length (entry_at ps l i) (entries_at ps l is), entries-few ps l is)

-- how many numbers there are
numbers-length : (a n : ℕ) → length (numbers_from a n) ≡ n
numbers-length a zero = refl
numbers-length a (suc n) = omega (arith, numbers-length (a + 1) n)

-- so no more nodes are kept than there are slots
pub few-kept : {N V F : Type 0} (ps : List (N × Slot V F)) (l : Linked) → length (entries_of ps l) ≤ length ps
few-kept ps l = omega (arith, entries-few ps l (numbers_from 0 (length ps)), numbers-length 0 (length ps))

-- ---- nodes that have slots too
-- all of them are below a number
all-count : {N : Type 0} (k : ℕ) (xs : List (Lending N)) → AllByRecursion (λ l. l.place < k) xs → count_by (λ l. nat_lt l.place k) xs ≡ length xs
all-count k [] h = refl
all-count {N} k (x ∷ xs) h =
    let s : count_by (λ l. nat_lt l.place k) (x ∷ xs) ≡ cond (nat_lt x.place k) 1 0 + count_by (λ l. nat_lt l.place k) xs =
    sum_by-cons (λ (l : Lending N). cond (nat_lt l.place k) 1 0) x xs in
    let one : cond {A = ℕ} (nat_lt x.place k) 1 0 ≡ 1 = ap (λ b. cond {A = ℕ} b 1 0) ((Decides-ltb x.place k).1 h.0) in
    omega (arith, all-count k xs h.1)

-- the test of a number that isn't less, and what it says
not-less : (x k : ℕ) → k ≤ x → nat_lt x k ≡ false
not-less x k le = elim (cases_Bool (nat_lt x k)) [ inl e ↦ absurd (let lt = (Decides-ltb x k).0 e in omega arith) | inr e ↦ e ]

less-not : (x k : ℕ) → nat_lt x k ≡ false → k ≤ x
less-not x k e = elim (cases_lt x k) [ inl lt ↦ absurd (true≢false (sym ((Decides-ltb x k).1 lt) ∙ e)) | inr le ↦ le ]

-- those below a number are the same among those below a greater one
count-cut : {N : Type 0} (t left : ℕ) → t ≤ left → (xs : List (Lending N))
    → count_by (λ l. nat_lt l.place t) (filter (λ l. nat_lt l.place left) xs) ≡ count_by (λ l. nat_lt l.place t) xs
count-cut t left le [] = refl
count-cut {N} t left le (x ∷ xs) = by (nat_lt x.place left) refl (count-cut t left le xs)
  where
    one : (ys : List (Lending N)) → count_by (λ l. nat_lt l.place t) (x ∷ ys) ≡ cond (nat_lt x.place t) 1 0 + count_by (λ l. nat_lt l.place t) ys
    one ys = sum_by-cons (λ (l : Lending N). cond (nat_lt l.place t) 1 0) x ys

    by : (b : Bool) → nat_lt x.place left ≡ b
        → count_by (λ l. nat_lt l.place t) (filter (λ l. nat_lt l.place left) xs) ≡ count_by (λ l. nat_lt l.place t) xs
        → count_by (λ l. nat_lt l.place t) (cond b (x ∷ filter (λ l. nat_lt l.place left) xs) (filter (λ l. nat_lt l.place left) xs))
        ≡ count_by (λ l. nat_lt l.place t) (x ∷ xs)
    by true e ih = omega (arith, one xs, one (filter (λ l. nat_lt l.place left) xs))
    by false e ih =
        let past = less-not x.place left e in
        let none : cond {A = ℕ} (nat_lt x.place t) 1 0 ≡ 0 = ap (λ b. cond {A = ℕ} b 1 0) (not-less x.place t (omega arith)) in
        omega (arith, one xs)

-- the test of a number that isn't greater, and of one that is
le-true : (x k : ℕ) → x ≤ k → nat_le x k ≡ true
le-true x k le = grind (arith, nat_tests)

le-false : (x k : ℕ) → k < x → nat_le x k ≡ false
le-false x k lt = grind (arith, nat_tests)

-- whether the node goes that an entry names: the root, or one of a number
abbrev pub named_goes : Bool → ℕ → Option ℕ → Bool
named_goes root left None = root
named_goes root left (Some i) = nat_le left i

-- ---- the table beside folded nodes
module _ {N A : Type 0} (eq : N → N → Bool) (laws : IsEquivalence eq) (exact : (a b : N) → eq a b ≡ true → a ≡ b) (f : Fold N A) (kept wild far : ℕ)
    (lent : List (Lending N)) (st : List (Open N A)) where
  -- what each entry of the view has, each of the table has, if it doesn't say what the entry names
  pub of-view : (P : Entry N A → Type 0) → ((j : ℕ) → P (f.entry j) → P (lent_as f j)) → (es : List (Entry N A)) → IsRun eq f kept wild far lent es st
      → AllByRecursion P (with_folded eq (first_of f kept) es) → AllByRecursion P es
  of-view P lends es run h = all-one_of P es one
    where
      whole : (e : Entry N A) → IsOneOf (with_folded eq (first_of f kept) es) e → P e
      whole e m = one_of-all P (with_folded eq (first_of f kept) es) h e m

      one : (e : Entry N A) → IsOneOf es e → P e
      one e m = elim (cases_Bool (is_one eq (first_of f kept) e.node)) [
        | inl t ↦ let r = number-of eq laws exact f kept e.node t in
            let same : e ≡ lent_as f r.0 =
            (one_of-all (λ (e : Entry N A). (j : ℕ) → j < far → (f.entry j).node ≡ e.node → (j < kept) × (e ≡ lent_as f j)) es run.same e m r.0
            (omega (arith, r.1, run.order, run.reach)) r.2).1 in
            subst P (sym same) (lends r.0
            (whole (f.entry r.0) (in_right (filter (λ x. not (is_one eq (first_of f kept) x.node)) es) (first_of f kept) (f.entry r.0)
            (first-in f kept r.0 r.1))))
        | inr t ↦ whole e (in_left (filter (λ x. not (is_one eq (first_of f kept) x.node)) es) (first_of f kept) e
            (in_filter (λ x. not (is_one eq (first_of f kept) x.node)) es e (ap not t) m))
      ]

  -- how many nodes the view has
  pub view-length : (es : List (Entry N A)) → IsRun eq f kept wild far lent es st
      → length (with_folded eq (first_of f kept) es) + length lent ≡ length es + kept
  view-length es run =
      let p : Entry N A → Bool = λ e. is_one eq (first_of f kept) e.node in
      let q : Entry N A → Bool = λ e. not (is_one eq (first_of f kept) e.node) in
      let few : count_by p es ≡ count_by (λ l. nat_lt l.place kept) lent = run.counted kept (omega arith) in
      omega (
        arith,
        few,
        length-append (filter q es) (first_of f kept),
        length-first f kept,
        length-filter_both p q (λ x. refl) es,
        length-filter p es,
        all-count kept lent run.below,
      )

  -- no more numbers are listed than the table has entries
  pub few-lent : (es : List (Entry N A)) → IsRun eq f kept wild far lent es st → length lent ≤ length es
  few-lent es run =
      let p : Entry N A → Bool = λ e. is_one eq (first_of f kept) e.node in
      let few : count_by p es ≡ count_by (λ l. nat_lt l.place kept) lent = run.counted kept (omega arith) in
      omega (arith, few, count_by-le-length p es, all-count kept lent run.below)

  -- the sequence with what is kept in slots
  abbrev lent-fold : Fold N A
  lent-fold = record f { entry = lent_as f }

  -- ---- an edit
  module _ (itself : N → Bool) (change : Change) (ks : List (Mark N A)) (run : IsRun eq f kept wild far lent (entries_with ks) st)
      (marked : AllByRecursion (IsMarkedBy itself change ks) ks) (once : IsDistinct eq (nodes_of (entries_with ks))) (root : Mark N A) (there : IsOneOf ks root)
      (named : root.entry.node ≡ f.root) (left : ℕ)
      (plain : (n : N) → is_one eq (first_of f kept) n ≡ false → itself n ≡ false)
      (lent-goes : (j : ℕ) → j < kept → (e : Entry N A) → IsOneOf (entries_with ks) e → (f.entry j).node ≡ e.node
      → (itself e.node || (list_any (is_use_touched change) (f.entry j).uses || root.goes)) ≡ nat_le left j)
      (view-goes : (j : ℕ) → j < kept → nat_le left j ≡ (list_any (is_use_touched change) (f.entry j).uses || named_goes root.goes left (f.prior j))) where
    -- the folded nodes from a number on go
    abbrev goes : ℕ → Bool
    goes j = nat_le left j

    -- a mark of a node that isn't folded
    abbrev is_slot : Mark N A → Bool
    is_slot k = not (is_one eq (first_of f kept) k.entry.node)

    -- the marks of the view: those of such nodes, and then those of the folded ones
    abbrev view-marks : List (Mark N A)
    view-marks = filter is_slot ks ++ marks_of f goes kept

    -- the same with what is kept in slots
    abbrev lent-marks : List (Mark N A)
    lent-marks = filter is_slot ks ++ marks_of lent-fold goes kept

    -- who asked the root alone has asked a node that goes, exactly if the root goes
    root-says : (ms : List N) (bs : List Bool) → ms ≡ f.root ∷ [] → AllSay ks ms bs → list_any (λ b. b) bs ≡ root.goes
    root-says [] bs e h = absurd (cc)
    root-says (m ∷ []) [] e h = absurd h
    root-says (m ∷ []) (b ∷ []) e h =
        let is : m ≡ f.root = cc in
        let same : h.0.mark ≡ root = one-mark eq laws ks once h.0.mark root h.0.there there (h.0.node ∙ is ∙ sym named) in
        or-false b ∙ sym h.0.goes ∙ ap (λ k. k.goes) same
    root-says (m ∷ []) (b ∷ c ∷ bs) e h = absurd h.1
    root-says (m ∷ n ∷ ms) bs e h = absurd (cc)

    -- an entry of a node of a number below which none else has a slot is that of a folded one
    same-at : (k : Mark N A) → IsOneOf ks k → (j : ℕ) → j < far → (f.entry j).node ≡ k.entry.node → (j < kept) × (k.entry ≡ lent_as f j)
    same-at k m = one_of-all (λ (e : Entry N A). (j : ℕ) → j < far → (f.entry j).node ≡ e.node → (j < kept) × (e ≡ lent_as f j)) (entries_with ks) run.same
        k.entry (entry-of ks k m)

    -- where it has a slot too, its mark there says the same
    alike : (k : Mark N A) → IsOneOf ks k → (j : ℕ) → j < kept → (f.entry j).node ≡ k.entry.node → k ≡ mark_at lent-fold goes j
    alike k m j lt s =
        let mark : IsMarkedBy itself change ks k = one_of-all (IsMarkedBy itself change ks) ks marked k m in
        let e : k.entry ≡ lent_as f j = (same-at k m j (omega (arith, run.order, run.reach)) s).1 in
        let asks : k.entry.asked ≡ f.root ∷ [] = ap (λ x. x.asked) e in
        let g : k.goes ≡ goes j =
        mark.goes
        ∙ (λ i. itself k.entry.node || (list_any (is_use_touched change) (e i).uses || root-says k.entry.asked mark.asked asks mark.say i))
        ∙ lent-goes j lt k.entry (entry-of ks k m) s in
        (λ i. record { entry = e i; goes = g i })

    -- the number of a folded node that has a slot
    numbered-mark : (t : ℕ) → t ≤ kept → (k : Mark N A) → IsOneOf ks k → is_one eq (first_of f t) k.entry.node ≡ true
        → (j : ℕ) × (j < t) × (k ≡ mark_at lent-fold goes j)
    numbered-mark t le k m e = let r = number-of eq laws exact f t k.entry.node e in (r.0, r.1, alike k m r.0 (omega (arith, r.1)) r.2)

    -- each mark of the table is one of the view, as it is kept in slots
    in-lent : (k : Mark N A) → IsOneOf ks k → IsOneOf lent-marks k
    in-lent k m = in_both (λ (x : Mark N A). is_one eq (first_of f kept) x.entry.node) ks (marks_of lent-fold goes kept) k
        (λ t. (let r = numbered-mark kept (omega arith) k m t in
        subst (IsOneOf (marks_of lent-fold goes kept)) (sym r.2) (mark-in lent-fold goes kept r.0 r.1))) m

    -- so the view says of its node what it says
    folded-says : (j : ℕ) → j < kept → Says view-marks (f.entry j).node (goes j)
    folded-says j lt = record {
      mark = mark_at f goes j;
      there = in_right (filter is_slot ks) (marks_of f goes kept) (mark_at f goes j) (mark-in f goes kept j lt);
      node = refl;
      goes = refl;
    }

    seen : (k : Mark N A) → IsOneOf ks k → Says view-marks k.entry.node k.goes
    seen k m = elim (cases_Bool (is_one eq (first_of f kept) k.entry.node)) [
      | inl t ↦ let r = numbered-mark kept (omega arith) k m t in
          subst (λ (x : Mark N A). Says view-marks x.entry.node x.goes) (sym r.2) (folded-says r.0 r.1)
      | inr t ↦ record {
        mark = k;
        there = in_left (filter is_slot ks) (marks_of f goes kept) k (in_filter is_slot ks k (ap not t) m);
        node = refl;
        goes = refl;
      }
    ]

    -- so what the marks of the table say, those of the view say
    says-seen : (ms : List N) (bs : List Bool) → AllSay ks ms bs → AllSay view-marks ms bs
    says-seen [] [] h = tt
    says-seen [] (b ∷ bs) h = absurd h
    says-seen (m ∷ ms) [] h = absurd h
    says-seen (m ∷ ms) (b ∷ bs) h = let s = seen h.0.mark h.0.there in (
      record { mark = s.mark; there = s.there; node = s.node ∙ h.0.node; goes = s.goes ∙ h.0.goes },
      says-seen ms bs h.1,
    )

    -- and of what a folded node's entry names
    named-says : (o : Option ℕ) → IfSome o (λ i. i < kept) → Says view-marks (named_in f o) (named_goes root.goes left o)
    named-says None h = let s = seen root there in record { mark = s.mark; there = s.there; node = s.node ∙ named; goes = s.goes }
    named-says (Some i) h = folded-says i h

    -- the marks of the view are right
    view-marked : AllByRecursion (IsMarked change view-marks) view-marks
    view-marked = All-++ (IsMarked change view-marks) (filter is_slot ks) (marks_of f goes kept)
        (all-one_of (IsMarked change view-marks) (filter is_slot ks) slot-marked) (all-marks f goes (IsMarked change view-marks) kept folded-marked)
      where
        slot-marked : (k : Mark N A) → IsOneOf (filter is_slot ks) k → IsMarked change view-marks k
        slot-marked k m =
            let out = out_of-filter is_slot ks k m in
            let mark = one_of-all (IsMarkedBy itself change ks) ks marked k out.0 in
            record {
              asked = mark.asked;
              say = says-seen k.entry.asked mark.asked mark.say;
              goes = mark.goes
                  ∙ ap (λ b. b || (list_any (is_use_touched change) k.entry.uses || list_any (λ b. b) mark.asked))
                  (plain k.entry.node (not-true (is_one eq (first_of f kept) k.entry.node) out.1));
            }

        below : (o : Option ℕ) (j : ℕ) → j < kept → IfSome o (λ i. i < j) → IfSome o (λ i. i < kept)
        below None j lt h = tt
        below (Some i) j lt h = let less : i < j = h in let all : i < kept = omega arith in all

        folded-marked : (j : ℕ) → j < kept → IsMarked change view-marks (mark_at f goes j)
        folded-marked j lt =
            let b = named_goes root.goes left (f.prior j) in
            let early = run.laid.earlier j (let order = run.order in let reach = run.reach in let size = run.in_size in omega arith) in
            record {
              asked = b ∷ [];
              say = subst (λ ms. AllSay view-marks ms (b ∷ [])) (sym (run.laid.named j)) (named-says (f.prior j) (below (f.prior j) j lt early), tt);
              goes = view-goes j lt ∙ ap (λ c. list_any (is_use_touched change) (f.entry j).uses || c) (sym (or-false b));
            }

    -- they mark the entries of the view
    view-entries : entries_with view-marks ≡ with_folded eq (first_of f kept) (entries_with ks)
    view-entries = map-append (λ (k : Mark N A). k.entry) (filter is_slot ks) (marks_of f goes kept)
        ∙ (λ i. filter-entries (λ e. not (is_one eq (first_of f kept) e.node)) ks i ++ marks-entries f goes kept i)

    -- a sum doesn't say what entries name
    lent-sum : (p : Mark N A → ℕ) → ((j : ℕ) → p (mark_at lent-fold goes j) ≡ p (mark_at f goes j)) → sum_by p lent-marks ≡ sum_by p view-marks
    lent-sum p same =
        sum_by-append p (filter is_slot ks) (marks_of lent-fold goes kept) ∙ ap (λ n. sum_by p (filter is_slot ks) + n) (all kept)
        ∙ sym (sum_by-append p (filter is_slot ks) (marks_of f goes kept))
      where
        all : (t : ℕ) → sum_by p (marks_of lent-fold goes t) ≡ sum_by p (marks_of f goes t)
        all zero = refl
        all (suc t) =
            sum_by-append p (marks_of lent-fold goes t) (mark_at lent-fold goes t ∷ [])
            ∙ (λ i. all t i + one i) ∙ sym (sum_by-append p (marks_of f goes t) (mark_at f goes t ∷ []))
          where
            one : sum_by p (mark_at lent-fold goes t ∷ []) ≡ sum_by p (mark_at f goes t ∷ [])
            one = sum_by-cons p (mark_at lent-fold goes t) [] ∙ ap (λ n. n + sum_by p []) (same t) ∙ sym (sum_by-cons p (mark_at f goes t) [])

    -- sums over the view are no less than over the table
    more-all : (p : Entry N A → ℕ) → ((j : ℕ) → p (lent_as f j) ≡ p (f.entry j))
        → sum_by p (entries_with ks) ≤ sum_by p (with_folded eq (first_of f kept) (entries_with ks))
    more-all p same =
        omega (
          arith,
          sum-among (λ (k : Mark N A). p k.entry) ks lent-marks (marks-apart eq laws ks once) in-lent,
          lent-sum (λ (k : Mark N A). p k.entry) same,
          all-sum p ks,
          all-sum p view-marks,
          ap (sum_by p) view-entries,
        )

    -- the same of what goes
    more-gone : (p : Entry N A → ℕ) → ((j : ℕ) → p (lent_as f j) ≡ p (f.entry j)) → sum_by p (entries_gone ks) ≤ sum_by p (entries_gone view-marks)
    more-gone p same =
        omega (
          arith,
          sum-among (λ (k : Mark N A). cond k.goes (p k.entry) 0) ks lent-marks (marks-apart eq laws ks once) in-lent,
          lent-sum (λ (k : Mark N A). cond k.goes (p k.entry) 0) (λ j. ap (λ n. cond (goes j) n 0) (same j)),
          gone-sum p ks,
          gone-sum p view-marks,
        )

    module _ (within : left ≤ kept) where
      stay : (j : ℕ) → j < left → goes j ≡ false
      stay j lt = le-false left j lt

      go : (j : ℕ) → left ≤ j → j < kept → goes j ≡ true
      go j le lt = le-true left j le

      -- a folded node that stays is one of those that are left
      lower : (k : Mark N A) → k.goes ≡ false → (j : ℕ) → j < kept → k ≡ mark_at lent-fold goes j → j < left
      lower k e j lt s = elim (cases_lt j left) [
        | inl l ↦ l
        | inr ge ↦ absurd (true≢false (sym (go j ge lt) ∙ sym (ap (λ x. x.goes) s) ∙ e))
      ]

      -- so a node that stays is folded after it exactly if it was before
      still : (k : Mark N A) → IsOneOf ks k → k.goes ≡ false → is_slot k ≡ not (is_one eq (first_of f left) k.entry.node)
      still k m e = elim (cases_Bool (is_one eq (first_of f kept) k.entry.node)) [
        | inl t ↦ let r = numbered-mark kept (omega arith) k m t in
            let lt : r.0 < left = lower k e r.0 r.1 r.2 in
            ap not (t ∙ sym (numbered eq laws exact f left r.0 k.entry.node lt (sym (ap (λ (x : Mark N A). x.entry.node) r.2))))
        | inr t ↦ elim (cases_Bool (is_one eq (first_of f left) k.entry.node)) [
          | inl u ↦ let r = number-of eq laws exact f left k.entry.node u in
              absurd (true≢false (sym (numbered eq laws exact f kept r.0 k.entry.node (omega (arith, r.1)) r.2) ∙ t))
          | inr u ↦ ap not (t ∙ sym u)
        ]
      ]

      -- what stays of the view is the view of what stays
      view-left : entries_left view-marks ≡ with_folded eq (first_of f left) (entries_left ks)
      view-left = left-append (filter is_slot ks) (marks_of f goes kept)
          ∙ (λ i. left-alike is_slot (λ e. not (is_one eq (first_of f left) e.node)) ks
          (all-one_of (λ (k : Mark N A). k.goes ≡ false → is_slot k ≡ not (is_one eq (first_of f left) k.entry.node)) ks still) i
          ++ marks-left f goes left kept within stay go i)

      -- those that have slots after it
      abbrev IsLeft : List (Lending N) → Type 0
      IsLeft now = (now ≡ filter (λ l. nat_lt l.place left) lent) ⊎ ((left ≡ kept) × (now ≡ lent))

      -- the run after it
      run-left : (now : List (Lending N)) → IsLeft now → KeepsNode eq (entries_left ks) f.root
          → IsRun eq f left wild far now (entries_left ks) []
      run-left now cut holds = record {
        laid = run.laid;
        order = omega (arith, run.order);
        reach = run.reach;
        in_size = run.in_size;
        root = holds;
        same = stay-all Same ks
            (all-one_of (λ (k : Mark N A). k.goes ≡ false → Same k.entry) ks
            (λ k m e j lt s. (let r = same-at k m j lt s in (lower k e j r.0 (alike k m j r.0 s), r.1))));
        apart = tt;
        counted = λ t le. count-left (λ e. is_one eq (first_of f t) e.node) ks
            (all-one_of (λ (k : Mark N A). is_one eq (first_of f t) k.entry.node ≡ true → k.goes ≡ false) ks
            (λ k m u. (let r = numbered-mark t (omega arith) k m u in ap (λ (x : Mark N A). x.goes) r.2 ∙ stay r.0 (omega (arith, r.1)))))
            ∙ run.counted t (omega arith) ∙ sym (lent-count t le cut);
        below = lent-below cut;
        named = lent-named cut;
      }
        where
          Same : Entry N A → Type 0
          Same e = (j : ℕ) → j < far → (f.entry j).node ≡ e.node → (j < left) × (e ≡ lent_as f j)

          Below : Lending N → Type 0
          Below l = l.place < left

          Named : Lending N → Type 0
          Named l = (f.entry l.place).node ≡ l.node

          lent-count : (t : ℕ) → t ≤ left → IsLeft now → count_by (λ l. nat_lt l.place t) now ≡ count_by (λ l. nat_lt l.place t) lent
          lent-count t le (inl e) = ap (count_by (λ l. nat_lt l.place t)) e ∙ count-cut t left le lent
          lent-count t le (inr e) = ap (count_by (λ l. nat_lt l.place t)) e.1

          lent-below : IsLeft now → AllByRecursion Below now
          lent-below (inl e) = subst (AllByRecursion Below) (sym e) (all-one_of Below (filter (λ l. nat_lt l.place left) lent)
              (λ l m. (Decides-ltb l.place left).0 (out_of-filter (λ l. nat_lt l.place left) lent l m).1))
          lent-below (inr e) = subst (AllByRecursion Below) (sym e.1)
              (All-map (λ l lt. (let less : l.place < left = omega (arith, e.0) in less)) lent run.below)

          lent-named : IsLeft now → AllByRecursion Named now
          lent-named (inl e) = subst (AllByRecursion Named) (sym e) (all-one_of Named (filter (λ l. nat_lt l.place left) lent)
              (λ l m. one_of-all Named lent run.named l (out_of-filter (λ l. nat_lt l.place left) lent l m).0))
          lent-named (inr e) = subst (AllByRecursion Named) (sym e.1) run.named

  -- ---- the pass
  module _ (itself : N → Bool) (change : Change) (pages : ℕ) (es after : List (Entry N A)) (looked : ℕ) (s : SweepsBy itself change pages es after looked)
      (run : IsRun eq f kept wild far lent es st) (once : IsDistinct eq (nodes_of es)) where
    -- the run and its nodes, by the marks of the pass
    run-marks : IsRun eq f kept wild far lent (entries_with s.marks) st
    run-marks = subst (λ xs. IsRun eq f kept wild far lent xs st) (sym s.entries) run

    once-marks : IsDistinct eq (nodes_of (entries_with s.marks))
    once-marks = subst (λ xs. IsDistinct eq (nodes_of xs)) (sym s.entries) once

    -- the root's mark
    abbrev IsRoot : Mark N A → Bool → Type 0
    IsRoot k b = IsOneOf s.marks k × (k.entry.node ≡ f.root) × (k.goes ≡ b)

    -- the root is kept after it, so its mark says that it stays
    root-stays : KeepsNode eq after f.root → (k : Mark N A) × IsRoot k false
    root-stays holds =
        let e : Entry N A = holds.0 in
        let l = left-mark s.marks e (subst (λ xs. IsOneOf xs e) s.stays holds.1.there) in
        (l.0, (l.1, ap (λ x. x.node) l.2 ∙ sym (exact f.root e.node holds.1.passes), l.3))

    -- it isn't, so its mark says that it goes
    root-goes : HasNoEntry eq after f.root → (k : Mark N A) × IsRoot k true
    root-goes gone =
        let e : Entry N A = run.root.0 in
        let m = mark-of s.marks e (subst (λ xs. IsOneOf xs e) (sym s.entries) run.root.1.there) in
        let is : m.0.entry.node ≡ f.root = ap (λ x. x.node) m.2 ∙ sym (exact f.root e.node run.root.1.passes) in
        elim (cases_Bool m.0.goes) [
          | inl t ↦ (m.0, (m.1, is, t))
          | inr t ↦ absurd (true≢false (sym (any-of (λ (x : Entry N A). eq f.root x.node) after m.0.entry
              (subst (λ xs. IsOneOf xs m.0.entry) (sym s.stays) (left-of s.marks m.0 m.1 t)) (ap (eq f.root) is ∙ laws.refl f.root)) ∙ gone))
        ]

    module _ (root : Mark N A) (b : Bool) (is : IsOneOf s.marks root × (root.entry.node ≡ f.root) × (root.goes ≡ b)) (left : ℕ) (within : left ≤ kept)
        (plain : (n : N) → is_one eq (first_of f kept) n ≡ false → itself n ≡ false)
        (lent-goes : (j : ℕ) → j < kept → (e : Entry N A) → IsOneOf es e → (f.entry j).node ≡ e.node
        → (itself e.node || (list_any (is_use_touched change) (f.entry j).uses || b)) ≡ nat_le left j)
        (view-goes : (j : ℕ) → j < kept → nat_le left j ≡ (list_any (is_use_touched change) (f.entry j).uses || named_goes b left (f.prior j))) where
      -- the same by the root's mark
      lent-root : (j : ℕ) → j < kept → (e : Entry N A) → IsOneOf (entries_with s.marks) e → (f.entry j).node ≡ e.node
          → (itself e.node || (list_any (is_use_touched change) (f.entry j).uses || root.goes)) ≡ nat_le left j
      lent-root j lt e m at =
          ap (λ c. itself e.node || (list_any (is_use_touched change) (f.entry j).uses || c)) is.2
          ∙ lent-goes j lt e (subst (λ xs. IsOneOf xs e) s.entries m) at

      view-root : (j : ℕ) → j < kept → nat_le left j ≡ (list_any (is_use_touched change) (f.entry j).uses || named_goes root.goes left (f.prior j))
      view-root j lt = view-goes j lt ∙ ap (λ c. list_any (is_use_touched change) (f.entry j).uses || named_goes c left (f.prior j)) (sym is.2)

      -- the marks of the view, what they mark, and what they leave
      abbrev all-marks-now : List (Mark N A)
      all-marks-now = view-marks itself change s.marks run-marks s.marked once-marks root is.0 is.1 left plain lent-root view-root

      now-entries : entries_with all-marks-now ≡ with_folded eq (first_of f kept) es
      now-entries = view-entries itself change s.marks run-marks s.marked once-marks root is.0 is.1 left plain lent-root view-root
          ∙ ap (with_folded eq (first_of f kept)) s.entries

      now-left : with_folded eq (first_of f left) after ≡ entries_left all-marks-now
      now-left = ap (with_folded eq (first_of f left)) s.stays
          ∙ sym (view-left itself change s.marks run-marks s.marked once-marks root is.0 is.1 left plain lent-root view-root within)

      -- sums over the view are no less, before it and over what goes
      more-before : (p : Entry N A → ℕ) → ((j : ℕ) → p (lent_as f j) ≡ p (f.entry j)) → sum_by p es ≤ sum_by p (with_folded eq (first_of f kept) es)
      more-before p same = subst (λ xs. sum_by p xs ≤ sum_by p (with_folded eq (first_of f kept) xs)) s.entries
          (more-all itself change s.marks run-marks s.marked once-marks root is.0 is.1 left plain lent-root view-root p same)

      more-went : (p : Entry N A → ℕ) → ((j : ℕ) → p (lent_as f j) ≡ p (f.entry j)) → sum_by p (entries_gone s.marks) ≤ sum_by p (entries_gone all-marks-now)
      more-went p same = more-gone itself change s.marks run-marks s.marked once-marks root is.0 is.1 left plain lent-root view-root p same

      -- an entry names as many
      as-many : (j : ℕ) → length (lent_as f j).asked ≡ length (f.entry j).asked
      as-many j = sym (ap length (run.laid.named j))

      -- how many nodes go
      view-went : length (with_folded eq (first_of f kept) es) ≡ length (entries_gone all-marks-now) + length (with_folded eq (first_of f left) after)
      view-went = ap length (sym now-entries) ∙ gone-and-left all-marks-now ∙ ap (λ xs. length (entries_gone all-marks-now) + length xs) (sym now-left)

      -- the run after it
      left-run : (now : List (Lending N)) → (now ≡ filter (λ l. nat_lt l.place left) lent) ⊎ ((left ≡ kept) × (now ≡ lent)) → KeepsNode eq after f.root
          → IsRun eq f left wild far now after []
      left-run now cut holds = subst (λ xs. IsRun eq f left wild far now xs []) (sym s.stays)
          (run-left itself change s.marks run-marks s.marked once-marks root is.0 is.1 left plain lent-root view-root within now cut
          (subst (λ xs. KeepsNode eq xs f.root) s.stays holds))

      -- no more looks than the table's, or no more than the nodes that go
      abbrev Few : ℕ → Type 0
      Few r = (r ≤ looked) ⊎ (r + length (with_folded eq (first_of f left) after) ≤ length (with_folded eq (first_of f kept) es))

      -- the view is swept
      swept : (result : ℕ) → length (with_folded eq (first_of f kept) es) ≤ result + length (with_folded eq (first_of f left) after) → Few result
          → Sweeps change pages (with_folded eq (first_of f kept) es) (with_folded eq (first_of f left) after) result
      swept result least most = record {
        marks = all-marks-now;
        entries = now-entries;
        marked = view-marked itself change s.marks run-marks s.marked once-marks root is.0 is.1 left plain lent-root view-root;
        stays = now-left;
        least = omega (arith, view-went);
        most = λ over. by (s.most over) most;
        behind = λ moves. past (s.behind moves) most;
      }
        where
          went-count : length (entries_gone s.marks) ≤ length (entries_gone all-marks-now)
          went-count = omega (arith, more-went (λ e. 1) (λ j. refl), ones (entries_gone s.marks), ones (entries_gone all-marks-now))

          by : looked ≤ pages_met change + 3 * sum_by (λ e. met_by change e.uses) es + 10 * length (entries_gone s.marks)
              + 6 * sum_by (λ e. length e.asked) (entries_gone s.marks) + 4 * sum_by (λ e. length (pages_in e.uses)) (entries_gone s.marks) + 4 → Few result
              → result ≤ pages_met change + 3 * sum_by (λ e. met_by change e.uses) (with_folded eq (first_of f kept) es)
              + 10 * length (entries_gone all-marks-now)
              + 6 * sum_by (λ e. length e.asked) (entries_gone all-marks-now) + 4 * sum_by (λ e. length (pages_in e.uses)) (entries_gone all-marks-now) + 4
          by bound (inl le) =
              omega (
                arith,
                bound,
                went-count,
                more-before (λ e. met_by change e.uses) (λ j. refl),
                more-went (λ e. length e.asked) as-many,
                more-went (λ e. length (pages_in e.uses)) (λ j. refl),
              )
          by bound (inr le) = omega (arith, view-went)

          past : looked ≤ 2 * pages_behind change pages + 3 * sum_by (λ e. behind_by change e.uses) es + 3 * sum_by (λ e. ended_by change e.uses) es
              + 10 * length (entries_gone s.marks) + 6 * sum_by (λ e. length e.asked) (entries_gone s.marks)
              + 4 * sum_by (λ e. length (pages_in e.uses)) (entries_gone s.marks) + 5 → Few result
              → result ≤ 2 * pages_behind change pages + 3 * sum_by (λ e. behind_by change e.uses) (with_folded eq (first_of f kept) es)
              + 3 * sum_by (λ e. ended_by change e.uses) (with_folded eq (first_of f kept) es)
              + 10 * length (entries_gone all-marks-now)
              + 6 * sum_by (λ e. length e.asked) (entries_gone all-marks-now) + 4 * sum_by (λ e. length (pages_in e.uses)) (entries_gone all-marks-now) + 5
          past bound (inl le) =
              omega (
                arith,
                bound,
                went-count,
                more-before (λ e. behind_by change e.uses) (λ j. refl),
                more-before (λ e. ended_by change e.uses) (λ j. refl),
                more-went (λ e. length e.asked) as-many,
                more-went (λ e. length (pages_in e.uses)) (λ j. refl),
              )
          past bound (inr le) = omega (arith, view-went)

-- ---- runs
module _ {N A S : Type 0} (eq : N → N → Bool) (laws : IsEquivalence eq) (exact : (a b : N) → eq a b ≡ true → a ≡ b) (fold : S → Fold N A) where
  -- what holds of each entry of the view holds of each of the table
  pub table-all : (P : Entry N A → Type 0) → ((f : Fold N A) (j : ℕ) → P (f.entry j) → P (lent_as f j)) → (run : Run N S) (t now : Tabled N A)
      → IsFolding eq fold (Some run) (nodes t) → nodes now ≡ nodes t
      → AllByRecursion P (viewed eq fold (Some run) t).kept → AllByRecursion P now.kept
  table-all P lends run t now is same all =
      subst (λ v. AllByRecursion P v.kept) (sym same)
      (of-view eq laws exact (fold run.nodes) run.kept run.wild run.far run.lent.items t.opened P (lends (fold run.nodes)) t.kept is all)

  -- a table beside no folded nodes
  with_none : (es : List (Entry N A)) → with_folded eq [] es ≡ es
  with_none es = append-nil (filter (λ e. true) es) ∙ same es
    where
      same : (es : List (Entry N A)) → filter (λ e. true) es ≡ es
      same [] = refl
      same (e ∷ es) = ap (λ xs. e ∷ xs) (same es)

  -- the table's pass: what it kept before, and after it
  module _ (run : Run N S) (t looked_up swept_table now : Tabled N A) (is : IsFolding eq fold (Some run) (nodes t)) (once : IsDistinct eq (nodes_of t.kept))
      (same : nodes looked_up ≡ nodes t) (then : nodes now ≡ nodes swept_table) (change : Change) (pages looked left : ℕ)
      (sweeps : SweepsBy (is_lent_from eq left run.lent.items) change pages looked_up.kept swept_table.kept looked)
      (leaves : Leaves (fold run.nodes) change run.kept left) where
    abbrev f : Fold N A
    f = fold run.nodes

    -- the nodes that go by themselves
    abbrev itself : N → Bool
    itself = is_lent_from eq left run.lent.items

    abbrev hits : ℕ → Bool
    hits j = list_any (is_use_touched change) (f.entry j).uses

    -- the pass, between the table before and after all
    sweeps-now : SweepsBy itself change pages t.kept now.kept looked
    sweeps-now = subst (λ v. SweepsBy itself change pages v.kept now.kept looked) same
        (subst (λ v. SweepsBy itself change pages looked_up.kept v.kept looked) (sym then) sweeps)

    plain : (n : N) → is_one eq (first_of f run.kept) n ≡ false → itself n ≡ false
    plain n out = unlent-test eq laws exact f run.kept run.wild run.far run.lent.items t.kept t.opened is once left n out

    lent-itself : (j : ℕ) → j < run.kept → (e : Entry N A) → IsOneOf t.kept e → (f.entry j).node ≡ e.node → itself e.node ≡ nat_le left j
    lent-itself j lt e m at = lent-test eq laws exact f run.kept run.wild run.far run.lent.items t.kept t.opened is once left e m j lt at

    -- where the root stays
    lent-stays : (j : ℕ) → j < run.kept → (e : Entry N A) → IsOneOf t.kept e → (f.entry j).node ≡ e.node → (itself e.node || (hits j || false)) ≡ nat_le left j
    lent-stays j lt e m at = elim (cases_lt j left) [
      | inl less ↦ (λ i. lent-itself j lt e m at i || (leaves.stays j less i || false)) ∙ or-false (nat_le left j)
      | inr le ↦ ap (λ b. b || (hits j || false)) (lent-itself j lt e m at ∙ le-true left j le) ∙ sym (le-true left j le)
    ]

    named-stays : (o : Option ℕ) → named_goes false left o ≡ is_from left o
    named-stays None = refl
    named-stays (Some i) = refl

    from-later : (o : Option ℕ) (j : ℕ) → j < left → IfSome o (λ i. i < j) → is_from left o ≡ false
    from-later None j lt h = refl
    from-later (Some i) j lt h = le-false left i (let less : i < j = h in omega arith)

    view-stays : (j : ℕ) → j < run.kept → nat_le left j ≡ (hits j || named_goes false left (f.prior j))
    view-stays j lt = elim (cases_lt j left) [
      | inl less ↦ let early = is.laid.earlier j (let order = is.order in let reach = is.reach in let size = is.in_size in omega arith) in
          le-false left j less ∙ sym (λ i. leaves.stays j less i || (named-stays (f.prior j) ∙ from-later (f.prior j) j less early) i)
      | inr le ↦ le-true left j le ∙ sym (ap (λ b. hits j || b) (named-stays (f.prior j)) ∙ leaves.goes j le lt)
    ]

    -- where it goes
    all-true : (j : ℕ) → nat_le 0 j ≡ true
    all-true j = le-true 0 j (omega arith)

    lent-all-go : (j : ℕ) → j < run.kept → (e : Entry N A) → IsOneOf t.kept e → (f.entry j).node ≡ e.node → (itself e.node || (hits j || true)) ≡ nat_le 0 j
    lent-all-go j lt e m at = ap (λ b. itself e.node || b) (or_true (hits j)) ∙ or_true (itself e.node) ∙ sym (all-true j)

    named-all-go : (o : Option ℕ) → named_goes true 0 o ≡ true
    named-all-go None = refl
    named-all-go (Some i) = all-true i

    view-all-go : (j : ℕ) → j < run.kept → nat_le 0 j ≡ (hits j || named_goes true 0 (f.prior j))
    view-all-go j lt = all-true j ∙ sym (ap (λ b. hits j || b) (named-all-go (f.prior j)) ∙ or_true (hits j))

    -- where the root stays
    module _ (n : N) (root : n ≡ f.root) (holds : KeepsNode eq swept_table.kept n) where
      -- the root, and its mark
      holds-now : KeepsNode eq now.kept f.root
      holds-now = subst (KeepsNode eq now.kept) root (subst (λ v. KeepsNode eq v.kept n) (sym then) holds)

      at_root : (k : Mark N A) × IsOneOf sweeps-now.marks k × (k.entry.node ≡ f.root) × (k.goes ≡ false)
      at_root =
          let r = root-stays eq laws exact f run.kept run.wild run.far run.lent.items t.opened itself change pages t.kept now.kept looked sweeps-now is
          once holds-now in (r.0, r.1.0, r.1.1, r.1.2)

      -- the run after it, and what is left of the view
      pub some-left : (new : Run N S) → IsCut left run new → swept_table.opened ≡ [] → IsFolding eq fold (Some new) (nodes now)
      some-left new cut none =
          let opened : now.opened ≡ [] = ap (λ v. v.opened) then ∙ none in
          let r : IsRun eq f left run.wild run.far new.lent.items now.kept [] =
          left-run eq laws exact f run.kept run.wild run.far run.lent.items t.opened itself change pages t.kept now.kept looked sweeps-now is once
          at_root.0 false (at_root.1, at_root.2, at_root.3) left leaves.within plain lent-stays view-stays new.lent.items cut.lent holds-now in
          subst (λ st. IsRun eq (fold new.nodes) new.kept new.wild new.far new.lent.items now.kept st) (sym opened)
          (subst (λ u. IsRun eq (fold new.nodes) new.kept new.wild u new.lent.items now.kept []) (sym cut.far)
          (subst (λ w. IsRun eq (fold new.nodes) new.kept w run.far new.lent.items now.kept []) (sym cut.wild)
          (subst (λ k. IsRun eq (fold new.nodes) k run.wild run.far new.lent.items now.kept []) (sym cut.kept)
          (subst (λ ns. IsRun eq (fold ns) left run.wild run.far new.lent.items now.kept []) (sym cut.nodes) r))))

      pub some-swept : (new : Run N S) → IsCut left run new → (told : ℕ)
          → length (viewed eq fold (Some run) t).kept ≤ told + length (viewed eq fold (Some new) now).kept
          → (told ≤ looked) ⊎ (told + length (viewed eq fold (Some new) now).kept ≤ length (viewed eq fold (Some run) t).kept)
          → Sweeps change pages (viewed eq fold (Some run) t).kept (viewed eq fold (Some new) now).kept told
      some-swept new cut told least most =
          let before = (viewed eq fold (Some run) t).kept in
          let view : (viewed eq fold (Some new) now).kept ≡ with_folded eq (first_of f left) now.kept =
          (λ i. with_folded eq (first_of (fold (cut.nodes i)) (cut.kept i)) now.kept) in
          subst (λ xs. Sweeps change pages before xs told) (sym view)
          (swept eq laws exact f run.kept run.wild run.far run.lent.items t.opened itself change pages t.kept now.kept looked sweeps-now is once
          at_root.0 false (at_root.1, at_root.2, at_root.3) left leaves.within plain lent-stays view-stays told
          (subst (λ xs. length before ≤ told + length xs) view least)
          (subst (λ xs. (told ≤ looked) ⊎ (told + length xs ≤ length before)) view most))

    -- where it goes
    pub none-swept : (n : N) → n ≡ f.root → HasNoEntry eq swept_table.kept n → (told : ℕ)
        → length (viewed eq fold (Some run) t).kept ≤ told + length now.kept
        → (told ≤ looked) ⊎ (told + length now.kept ≤ length (viewed eq fold (Some run) t).kept)
        → Sweeps change pages (viewed eq fold (Some run) t).kept now.kept told
    none-swept n root gone told least most =
        let out : HasNoEntry eq now.kept f.root = subst (HasNoEntry eq now.kept) root (subst (λ v. HasNoEntry eq v.kept n) (sym then) gone) in
        let r = root-goes eq laws exact f run.kept run.wild run.far run.lent.items t.opened itself change pages t.kept now.kept looked sweeps-now is once out in
        let all = with_none now.kept in
        subst (λ xs. Sweeps change pages (viewed eq fold (Some run) t).kept xs told) all
        (swept eq laws exact f run.kept run.wild run.far run.lent.items t.opened itself change pages t.kept now.kept looked sweeps-now is once r.0 true r.1 0
        (omega arith) plain lent-all-go view-all-go told
        (subst (λ xs. length (viewed eq fold (Some run) t).kept ≤ told + length xs) (sym all) least)
        (subst (λ xs. (told ≤ looked) ⊎ (told + length xs ≤ length (viewed eq fold (Some run) t).kept)) (sym all) most))

-- a run is cut, of which the same have slots as of another
pub cut-of : {N S : Type 0} (left : ℕ) (run new : Run N S) {lent : Listed N} → lent.items ≡ run.lent.items → IsCut left (record run { lent = lent }) new
    → IsCut left run new
cut-of left run new same cut = record {
  nodes = cut.nodes;
  kept = cut.kept;
  wild = cut.wild;
  far = cut.far;
  lent = elim cut.lent [
    | inl e ↦ inl (e ∙ ap (filter (λ l. nat_lt l.place left)) same)
    | inr e ↦ inr (e.0, e.1 ∙ same)
  ];
}

-- the same of equal tables
pub swept-of : {N A : Type 0} (change : Change) (pages : ℕ) (view whole rest left : Tabled N A) → view ≡ whole → left ≡ rest → (looked told : ℕ)
    → (length view.kept ≤ told + length rest.kept → (told ≤ looked) ⊎ (told + length rest.kept ≤ length view.kept)
    → Sweeps change pages view.kept rest.kept told) → length whole.kept ≤ told + length left.kept
    → (told ≤ looked) ⊎ (told + length left.kept ≤ length whole.kept) → Sweeps change pages whole.kept left.kept told
swept-of change pages view whole rest left before after looked told sweeps least most =
    subst (λ v. Sweeps change pages v.kept left.kept told) before
    (subst (λ v. Sweeps change pages view.kept v.kept told) (sym after)
    (sweeps
    (subst (λ v. length view.kept ≤ told + length v.kept) after (subst (λ v. length v.kept ≤ told + length left.kept) (sym before) least))
    (subst (λ v. (told ≤ looked) ⊎ (told + length v.kept ≤ length view.kept)) after
    (subst (λ v. (told ≤ looked) ⊎ (told + length left.kept ≤ length v.kept)) (sym before) most))))
