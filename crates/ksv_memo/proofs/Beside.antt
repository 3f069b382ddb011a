-- Folded nodes beside those that have slots: what the table's moves mean for all of them.
use Rattle.ksv_memo.proofs.Common.{◌≡◌, ◌⊎◌, ℕ, zero, suc, ◌<◌, ◌≤◌, nat_lt, arith, Bool, true, false, not, cond, ◌||◌, List, [], ◌∷◌, ◌++◌, filter}
use Rattle.ksv_memo.proofs.Common.{refl, sym, ◌∙◌, ap, subst, inl, inr, AllByRecursion, list_any, IsEquivalence, Entry, IsOneOf, append_assoc}
use Rattle.ksv_memo.proofs.Common.{or_parts, Decides-ltb}
use Rattle.std.proofs.Common.{true≢false}
use Rattle.std.proofs.lemmas.Bool.{or_left, or_right}
use Rattle.std.proofs.lemmas.List.Folds.{list_any-append}
use Rattle.ksv_memo_rules.specs.Folds.{Fold, first_of}
use Rattle.ksv_memo.specs.Nodes.{IsEntry, HasNoEntry, IsPut}
use Rattle.ksv_memo.specs.Folding.{IsNoneBelow, is_one, lent_as, with_folded}
use Rattle.ksv_memo.proofs.Laying.{one_of-all}

-- ---- members
in_front : {X : Type 0} (xs ys : List X) (x : X) → IsOneOf xs x → IsOneOf (xs ++ ys) x
in_front [] ys x m = absurd m
in_front (y ∷ xs) ys x (inl e) = inl e
in_front (y ∷ xs) ys x (inr m) = inr (in_front xs ys x m)

in_back : {X : Type 0} (xs ys : List X) (x : X) → IsOneOf ys x → IsOneOf (xs ++ ys) x
in_back [] ys x m = m
in_back (y ∷ xs) ys x m = inr (in_back xs ys x m)

by_test : {X : Type 0} (p : X → Bool) (x : X) (xs : List X) (b : Bool) → p x ≡ b → filter p (x ∷ xs) ≡ cond b (x ∷ filter p xs) (filter p xs)
by_test p x xs true e = ap (λ b. cond b (x ∷ filter p xs) (filter p xs)) e
by_test p x xs false e = ap (λ b. cond b (x ∷ filter p xs) (filter p xs)) e

in_filter : {X : Type 0} (p : X → Bool) (xs : List X) (x : X) → IsOneOf xs x → p x ≡ true → IsOneOf (filter p xs) x
in_filter p [] x m passes = absurd m
in_filter p (y ∷ xs) x m passes = by (p y) refl m (λ more. in_filter p xs x more passes)
  where
    by : (b : Bool) → p y ≡ b → IsOneOf (y ∷ xs) x → (IsOneOf xs x → IsOneOf (filter p xs) x) → IsOneOf (filter p (y ∷ xs)) x
    by true e (inl same) rest = rw (by_test p y xs true e) (inl same)
    by true e (inr more) rest = rw (by_test p y xs true e) (inr (rest more))
    by false e (inl same) rest = absurd (true≢false (sym (ap p same ∙ passes) ∙ e))
    by false e (inr more) rest = rw (by_test p y xs false e) (rest more)

filter-append : {X : Type 0} (p : X → Bool) (xs ys : List X) → filter p (xs ++ ys) ≡ filter p xs ++ filter p ys
filter-append p [] ys = refl
filter-append p (x ∷ xs) ys = by (p x) refl (filter-append p xs ys)
  where
    by : (b : Bool) → p x ≡ b → filter p (xs ++ ys) ≡ filter p xs ++ filter p ys → filter p (x ∷ (xs ++ ys)) ≡ filter p (x ∷ xs) ++ filter p ys
    by true e rest = by_test p x (xs ++ ys) true e ∙ ap (λ zs. x ∷ zs) rest ∙ sym (ap (λ zs. zs ++ filter p ys) (by_test p x xs true e))
    by false e rest = by_test p x (xs ++ ys) false e ∙ rest ∙ sym (ap (λ zs. zs ++ filter p ys) (by_test p x xs false e))

-- ---- the first nodes of a sequence
module _ {N A : Type 0} (f : Fold N A) where
  -- the entry of a number is among the first
  pub first_has : (k j : ℕ) → j < k → IsOneOf (first_of f k) (f.entry j)
  first_has zero j lt = absurd (omega arith)
  first_has (suc k) j lt = elim (same_or_less j k lt) [
    | inl same ↦ in_back (first_of f k) (f.entry k ∷ []) (f.entry j) (inl (ap f.entry (sym same)))
    | inr less ↦ in_front (first_of f k) (f.entry k ∷ []) (f.entry j) (first_has k j less)
  ]
    where
      same_or_less : (i n : ℕ) → i < suc n → (i ≡ n) ⊎ (i < n)
      same_or_less i n lt = by (nat_lt i n) refl
        where
          by : (b : Bool) → nat_lt i n ≡ b → (i ≡ n) ⊎ (i < n)
          by true e = inr ((Decides-ltb i n).0 e)
          by false e = inl (let no : (i < n) → ⊥ = λ h. true≢false (sym ((Decides-ltb i n).1 h) ∙ e) in omega arith)

  module _ (eq : N → N → Bool) where
    -- one of the first passes
    pub one_first : (k : ℕ) (n : N) → is_one eq (first_of f k) n ≡ true → (j : ℕ) × (j < k) × (eq n (f.entry j).node ≡ true)
    one_first zero n e = absurd (true≢false (sym e))
    one_first (suc k) n e = by (is_one eq (first_of f k) n) refl (eq n (f.entry k).node) refl (one_first k n)
      where
        whole : is_one eq (first_of f (suc k)) n ≡ (is_one eq (first_of f k) n || (eq n (f.entry k).node || false))
        whole = list_any-append (λ e. eq n e.node) (first_of f k) (f.entry k ∷ [])

        by : (a : Bool) → is_one eq (first_of f k) n ≡ a → (b : Bool) → eq n (f.entry k).node ≡ b
            → (is_one eq (first_of f k) n ≡ true → (j : ℕ) × (j < k) × (eq n (f.entry j).node ≡ true)) → (j : ℕ) × (j < suc k) × (eq n (f.entry j).node ≡ true)
        by true is b at rest = let h = rest is in (h.0, (let lt = h.1 in omega arith), h.2)
        by false is true at rest = (k, omega arith, at)
        by false is false at rest =
            let none : is_one eq (first_of f (suc k)) n ≡ false = whole ∙ (λ i. is i || (at i || false)) in absurd (true≢false (sym e ∙ none))

    pub first_one : (k j : ℕ) (n : N) → j < k → eq n (f.entry j).node ≡ true → is_one eq (first_of f k) n ≡ true
    first_one k j n lt passes = any_has (λ e. eq n e.node) (first_of f k) (f.entry j) (first_has k j lt) passes
      where
        any_has : {X : Type 0} (p : X → Bool) (xs : List X) (x : X) → IsOneOf xs x → p x ≡ true → list_any p xs ≡ true
        any_has p [] x m e = absurd m
        any_has p (y ∷ xs) x (inl same) e = or_left (p y) (list_any p xs) (ap p same ∙ e)
        any_has p (y ∷ xs) x (inr more) e = or_right (p y) (list_any p xs) (any_has p xs x more e)

    -- a node that is none of them
    pub not_first : ((a b : N) → eq a b ≡ true → a ≡ b) → (k : ℕ) (n : N) → IsNoneBelow f k n → is_one eq (first_of f k) n ≡ false
    not_first exact k n none = by (is_one eq (first_of f k) n) refl
      where
        by : (b : Bool) → is_one eq (first_of f k) n ≡ b → is_one eq (first_of f k) n ≡ false
        by false e = e
        by true e = let h = one_first k n e in absurd (none h.0 h.1 (sym (exact n (f.entry h.0).node h.2)))

-- ---- what is seen of a run over a table
module _ {N A : Type 0} (eq : N → N → Bool) (laws : IsEquivalence eq) (exact : (a b : N) → eq a b ≡ true → a ≡ b) (f : Fold N A) (kept : ℕ) where
  abbrev pub seen : List (Entry N A) → List (Entry N A)
  seen es = with_folded eq (first_of f kept) es

  abbrev pub folds : Entry N A → Bool
  folds e = is_one eq (first_of f kept) e.node

  pub own : (j : ℕ) → j < kept → folds (f.entry j) ≡ true
  own j lt = first_one f eq kept j (f.entry j).node lt (laws.refl (f.entry j).node)

  -- an entry that is seen of a node, with this answer
  pub record IsSeen (es : List (Entry N A)) (n : N) (e : Entry N A) : Type 0 where
    pub entry : Entry N A
    pub is : IsEntry eq (seen es) n entry
    pub node : entry.node ≡ e.node
    pub answer : entry.answer ≡ e.answer

  -- a kept node is seen kept, with the same answer
  pub seen_entry : (es : List (Entry N A)) (wild : ℕ) → kept ≤ wild
      → AllByRecursion (λ e. (j : ℕ) → j < wild → (f.entry j).node ≡ e.node → (j < kept) × (e ≡ lent_as f j)) es
      → (n : N) (e : Entry N A) → IsEntry eq es n e → IsSeen es n e
  seen_entry es wild le same n e is = by (folds e) refl
    where
      by : (b : Bool) → folds e ≡ b → IsSeen es n e
      by false at = record {
        entry = e;
        is = record {
          there = in_front (filter (λ x. not (folds x)) es) (first_of f kept) e (in_filter (λ x. not (folds x)) es e is.there (ap not at));
          passes = is.passes;
        };
        node = refl;
        answer = refl;
      }
      by true at =
          let h = one_first f eq kept e.node at in
          let lt : h.0 < kept = h.1 in
          let it : e ≡ lent_as f h.0 = (one_of-all (λ x. (j : ℕ) → j < wild → (f.entry j).node ≡ x.node → (j < kept) × (x ≡ lent_as f j)) es same e is.there
          h.0 (omega arith) (sym (exact e.node (f.entry h.0).node h.2))).1 in
          record {
            entry = f.entry h.0;
            is = record {
              there = in_back (filter (λ x. not (folds x)) es) (first_of f kept) (f.entry h.0) (first_has f kept h.0 lt);
              passes = subst (λ m. eq n m ≡ true) (ap (λ (x : Entry N A). x.node) it) is.passes;
            };
            node = sym (ap (λ (x : Entry N A). x.node) it);
            answer = sym (ap (λ (x : Entry N A). x.answer) it);
          }

  -- a folded node is seen kept
  pub seen_folded : (es : List (Entry N A)) (j : ℕ) (n : N) → j < kept → (f.entry j).node ≡ n → IsEntry eq (seen es) n (f.entry j)
  seen_folded es j n lt at = record {
    there = in_back (filter (λ x. not (folds x)) es) (first_of f kept) (f.entry j) (first_has f kept j lt);
    passes = subst (λ m. eq m (f.entry j).node ≡ true) at (laws.refl (f.entry j).node);
  }

  -- a node that is neither isn't
  none_left : (p q : Entry N A → Bool) (es : List (Entry N A)) → list_any p es ≡ false → list_any p (filter q es) ≡ false
  none_left p q [] h = refl
  none_left p q (e ∷ es) h = by (q e) refl (none_left p q es (or_parts (p e) (list_any p es) h).1)
    where
      by : (b : Bool) → q e ≡ b → list_any p (filter q es) ≡ false → list_any p (filter q (e ∷ es)) ≡ false
      by true at rest = ap (list_any p) (by_test q e es true at) ∙ (λ i. (or_parts (p e) (list_any p es) h).0 i || rest i)
      by false at rest = ap (list_any p) (by_test q e es false at) ∙ rest

  pub seen_none : (es : List (Entry N A)) (n : N) → HasNoEntry eq es n → IsNoneBelow f kept n → HasNoEntry eq (seen es) n
  seen_none es n none free =
      list_any-append (λ e. eq n e.node) (filter (λ x. not (folds x)) es) (first_of f kept)
      ∙ (λ i. none_left (λ e. eq n e.node) (λ x. not (folds x)) es none i || not_first f eq exact kept n free i)

  -- an entry is put among those that have slots
  pub seen_put : (e : Entry N A) (before after : List (Entry N A)) → folds e ≡ false → IsPut e before after → IsPut e (seen before) (seen after)
  seen_put e before after free p = record {
    front = filter (λ x. not (folds x)) p.front;
    back = filter (λ x. not (folds x)) p.back ++ first_of f kept;
    was = ap seen p.was ∙ ap (λ xs. xs ++ first_of f kept) (filter-append (λ x. not (folds x)) p.front p.back)
        ∙ append_assoc (filter (λ x. not (folds x)) p.front) (filter (λ x. not (folds x)) p.back) (first_of f kept);
    now = ap seen p.now ∙ ap (λ xs. xs ++ first_of f kept) (filter-append (λ x. not (folds x)) p.front (e ∷ p.back)
        ∙ ap (λ xs. filter (λ x. not (folds x)) p.front ++ xs) (by_test (λ x. not (folds x)) e p.back true (ap not free)))
        ∙ append_assoc (filter (λ x. not (folds x)) p.front) (e ∷ filter (λ x. not (folds x)) p.back) (first_of f kept);
  }

  -- that of a folded node is not seen twice
  pub seen_lent : (e : Entry N A) (before after : List (Entry N A)) → folds e ≡ true → IsPut e before after → seen after ≡ seen before
  seen_lent e before after folded p =
      ap seen p.now ∙ ap (λ xs. xs ++ first_of f kept) (filter-append (λ x. not (folds x)) p.front (e ∷ p.back)
      ∙ ap (λ xs. filter (λ x. not (folds x)) p.front ++ xs) (by_test (λ x. not (folds x)) e p.back false (ap not folded))
      ∙ sym (filter-append (λ x. not (folds x)) p.front p.back))
      ∙ ap seen (sym p.was)
