-- What the slots, links and frames stand for, when one slot changes.
use Rattle.ksv_memo.proofs.Common.{◌≡◌, ◌≢◌, ℕ, zero, suc, ◌+◌, ◌<◌, ◌≤◌, Bool, true, false, List, [], ◌∷◌, ◌++◌, take, drop, Option, Some, None, is_some, refl}
use Rattle.ksv_memo.proofs.Common.{sym, ◌∙◌, ap, subst, Result, slice_get, ◌⊎◌, inl, inr, nat_eq, eq-eqb, arith, option_map, AllByRecursion, slice_get-map}
use Rattle.ksv_memo.proofs.Common.{Use, row, numbers_from, Linked, Slot, Frame, answer_of, answer_at, answers_at, with_first, Entry, IsOneOf}
use Rattle.ksv_memo.proofs.Common.{slots_of, node_at, nodes_at, IsOpen, IsKept, entry_with, entry_at, entries_at, opens_in, eqb_true}
use Rattle.ksv_memo_rules.specs.declared.replies.Slot.TheVariants.{Open as opened}

pub All-take : {X : Type 0} (P : X → Type 0) (k : ℕ) (xs : List X) → AllByRecursion P xs → AllByRecursion P (take k xs)
All-take P (suc k) (x ∷ xs) h = (h.0, All-take P k xs h.1)
All-take _ _ _ _ = tt

pub All-drop : {X : Type 0} (P : X → Type 0) (k : ℕ) (xs : List X) → AllByRecursion P xs → AllByRecursion P (drop k xs)
All-drop P zero xs h = h
All-drop P (suc k) [] h = tt
All-drop P (suc k) (x ∷ xs) h = All-drop P k xs h.1

pub some-of : {X : Type 0} (o : Option X) → is_some o ≡ true → (x : X) × (o ≡ Some x)
some-of None e = absurd (cc)
some-of (Some x) e = (x, refl)

-- ---- members
pub one_of-all : {X : Type 0} (P : X → Type 0) (xs : List X) → AllByRecursion P xs → (x : X) → IsOneOf xs x → P x
one_of-all P [] h x m = absurd m
one_of-all P (y ∷ xs) h x (inl e) = subst P e h.0
one_of-all P (y ∷ xs) h x (inr m) = one_of-all P xs h.1 x m

pub same_or : (j i : ℕ) → (j ≡ i) ⊎ (j ≢ i)
same_or j i = by (nat_eq j i) refl
  where
    by : (b : Bool) → nat_eq j i ≡ b → (j ≡ i) ⊎ (j ≢ i)
    by true e = inl (eqb_true j i e)
    by false e = inr (λ same. let yes : nat_eq j i ≡ true = eq-eqb j i same in cc)

pub answers_at-append : {V F : Type 0} (ss : List (Slot V F)) (is js : List ℕ) → answers_at ss (is ++ js) ≡ answers_at ss is ++ answers_at ss js
answers_at-append {V} {F} ss [] js = refl
answers_at-append {V} {F} ss (i ∷ is) js = cc (answers_at-append ss is js, first-append (answer_at ss i) (answers_at ss is) (answers_at ss js))
  where
    first-append : (o : Option (Result V F)) (xs ys : List (Result V F)) → with_first o (xs ++ ys) ≡ with_first o xs ++ ys
    first-append None xs ys = refl
    first-append (Some x) xs ys = refl

module _ {N V F : Type 0} where
  -- something is in a slot
  abbrev pub IsUsed : List (N × Slot V F) → ℕ → Type 0
  IsUsed ps i = IsKept ps i ⊎ IsOpen ps i

  -- each node in whose slot is something, and each answer that is kept, stays in its place
  pub record Keeps (ps qs : List (N × Slot V F)) : Type 0 where
    pub nodes : (i : ℕ) (n : N) → IsUsed ps i → node_at ps i ≡ Some n → node_at qs i ≡ Some n
    pub answers : (i : ℕ) (a : Result V F) → answer_at (slots_of ps) i ≡ Some a → answer_at (slots_of qs) i ≡ Some a

  abbrev pub HasNode : List (N × Slot V F) → ℕ → Type 0
  HasNode ps i = is_some (node_at ps i) ≡ true

  -- a slot that has something has a node
  slot_node : (o : Option (N × Slot V F)) → is_some (answer_of (option_map (λ p. p.1) o)) ≡ true → is_some (option_map (λ p. p.0) o) ≡ true
  slot_node None e = e
  slot_node (Some p) e = refl

  pub kept_node : (ps : List (N × Slot V F)) (i : ℕ) → IsKept ps i → HasNode ps i
  kept_node ps i h = slot_node (slice_get ps i) (cc (slice_get-map (λ p. p.1) ps i))

  some_node : (o : Option (N × Slot V F)) (s : Slot V F) → option_map (λ p. p.1) o ≡ Some s → is_some (option_map (λ p. p.0) o) ≡ true
  some_node None s e = absurd (cc)
  some_node (Some p) s e = refl

  pub slot_has_node : (ps : List (N × Slot V F)) (i : ℕ) (s : Slot V F) → slice_get (slots_of ps) i ≡ Some s → HasNode ps i
  slot_has_node ps i s h = some_node (slice_get ps i) s (sym (slice_get-map (λ p. p.1) ps i) ∙ h)

  used_node : (ps : List (N × Slot V F)) (i : ℕ) → IsUsed ps i → HasNode ps i
  used_node ps i (inl kept) = kept_node ps i kept
  used_node ps i (inr waits) = slot_has_node ps i opened waits

  module _ (ps qs : List (N × Slot V F)) (keeps : Keeps ps qs) where
    pub same_node : (i : ℕ) → IsUsed ps i → node_at qs i ≡ node_at ps i
    same_node i h = let one = some-of (node_at ps i) (used_node ps i h) in keeps.nodes i one.0 h one.1 ∙ sym one.1

    pub same_answer : (i : ℕ) → IsKept ps i → answer_at (slots_of qs) i ≡ answer_at (slots_of ps) i
    same_answer i h = let one = some-of (answer_at (slots_of ps) i) h in keeps.answers i one.0 one.1 ∙ sym one.1

    pub stays_kept : (i : ℕ) → IsKept ps i → IsKept qs i
    stays_kept i h = ap is_some (same_answer i h) ∙ h

    pub same_nodes : (is : List ℕ) → AllByRecursion (IsKept ps) is → nodes_at qs is ≡ nodes_at ps is
    same_nodes [] h = refl
    same_nodes (i ∷ is) h = cc (same_node i (inl h.0), same_nodes is h.1)

    pub same_answers : (is : List ℕ) → AllByRecursion (IsKept ps) is → answers_at (slots_of qs) is ≡ answers_at (slots_of ps) is
    same_answers [] h = refl
    same_answers (i ∷ is) h = cc (same_answer i h.0, same_answers is h.1)

    -- so the entry of a kept node is the same
    pub same_entry : (l m : Linked) (i : ℕ) → IsKept ps i → AllByRecursion (IsKept ps) (row l.asked i) → row m.asked i ≡ row l.asked i
        → row m.uses i ≡ row l.uses i → entry_at qs m i ≡ entry_at ps l i
    same_entry l m i kept all asked uses =
        (λ j. entry_with (same_node i (inl kept) j) (same_answer i kept j) (nodes_at qs (asked j)) (uses j))
        ∙ ap (λ ns. entry_with (node_at ps i) (answer_at (slots_of ps) i) ns (row l.uses i)) (same_nodes (row l.asked i) all)

    -- and the open ones
    pub same_opens : (fs : List (Frame N)) (asked : List ℕ) (uses : List Use) → AllByRecursion (λ f. IsOpen ps f.slot) fs → AllByRecursion (IsKept ps) asked
        → opens_in qs fs asked uses ≡ opens_in ps fs asked uses
    same_opens [] asked uses h k = refl
    same_opens (f ∷ fs) asked uses h k =
        cc (
          same_node f.slot (inr h.0),
          same_answers (drop f.asked asked) (All-drop (IsKept ps) f.asked asked k),
          same_nodes (drop f.asked asked) (All-drop (IsKept ps) f.asked asked k),
          same_opens fs (take f.asked asked) (take f.uses uses) h.1 (All-take (IsKept ps) f.asked asked k),
        )

  -- ---- lists of slots end to end
  pub nodes_at-append : (ps : List (N × Slot V F)) (is js : List ℕ) → nodes_at ps (is ++ js) ≡ nodes_at ps is ++ nodes_at ps js
  nodes_at-append ps [] js = refl
  nodes_at-append ps (i ∷ is) js = cc (nodes_at-append ps is js, first-append (node_at ps i) (nodes_at ps is) (nodes_at ps js))
    where
      first-append : (o : Option N) (xs ys : List N) → with_first o (xs ++ ys) ≡ with_first o xs ++ ys
      first-append None xs ys = refl
      first-append (Some x) xs ys = refl

  -- ---- entries
  -- a slot that keeps nothing has no entry
  pub no_entry_at : (ps : List (N × Slot V F)) (l : Linked) (i : ℕ) → answer_at (slots_of ps) i ≡ None → entry_at ps l i ≡ None
  no_entry_at ps l i e = by (node_at ps i) (answer_at (slots_of ps) i) e
    where
      by : (o : Option N) (b : Option (Result V F)) → b ≡ None → entry_with o b (nodes_at ps (row l.asked i)) (row l.uses i) ≡ None
      by None b f = refl
      by (Some n) None f = refl
      by (Some n) (Some a) f = absurd (cc)

  pub entries_at-append : (ps : List (N × Slot V F)) (l : Linked) (is js : List ℕ) → entries_at ps l (is ++ js) ≡ entries_at ps l is ++ entries_at ps l js
  entries_at-append ps l [] js = refl
  entries_at-append ps l (i ∷ is) js = cc (entries_at-append ps l is js, first-append (entry_at ps l i) (entries_at ps l is) (entries_at ps l js))
    where
      first-append : (o : Option (Entry N (Result V F))) (xs ys : List (Entry N (Result V F))) → with_first o (xs ++ ys) ≡ with_first o xs ++ ys
      first-append None xs ys = refl
      first-append (Some x) xs ys = refl

  pub entries_at-same : (ps qs : List (N × Slot V F)) (l m : Linked) (is : List ℕ) → AllByRecursion (λ i. entry_at qs m i ≡ entry_at ps l i) is
      → entries_at qs m is ≡ entries_at ps l is
  entries_at-same ps qs l m [] h = refl
  entries_at-same ps qs l m (i ∷ is) h = cc (entries_at-same ps qs l m is h.1)

-- ---- the numbers of slots
pub All-numbers : (P : ℕ → Type 0) (a n : ℕ) → ((j : ℕ) → a ≤ j → j < a + n → P j) → AllByRecursion P (numbers_from a n)
All-numbers P a zero h = tt
All-numbers P a (suc n) h = (h a (omega arith) (omega arith), All-numbers P (a + 1) n (λ j le lt. h j (omega arith) (omega arith)))

pub numbers-split : (a n m : ℕ) → numbers_from a (n + m) ≡ numbers_from a n ++ numbers_from (a + n) m
numbers-split a zero m = let e : 0 + m ≡ m = omega arith in let f : a ≡ a + 0 = omega arith in cc
numbers-split a (suc n) m =
    let e : suc n + m ≡ suc (n + m) = omega arith in
    let f : a + 1 + n ≡ a + suc n = omega arith in
    cc (numbers-split (a + 1) n m)

pub number_in : (a n i : ℕ) → a ≤ i → i < a + n → IsOneOf (numbers_from a n) i
number_in a zero i le lt = absurd (omega arith)
number_in a (suc n) i le lt = by (same_or a i) (λ h. number_in (a + 1) n i h (omega arith))
  where
    by : (a ≡ i) ⊎ (a ≢ i) → (a + 1 ≤ i → IsOneOf (numbers_from (a + 1) n) i) → IsOneOf (a ∷ numbers_from (a + 1) n) i
    by (inl e) later = inl e
    by (inr ne) later = inr (later (omega arith))
