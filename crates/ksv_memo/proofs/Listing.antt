-- The nodes that are kept by numbers alone and have slots too: where their slots are, and what a run says of those that it lists.
use Rattle.ksv_memo.proofs.Common.{◌≡◌, ◌≢◌, ◌⊎◌, inl, inr, ℕ, zero, suc, ◌+◌, ◌-◌, ◌<◌, ◌≤◌, nat_eq, nat_lt, eq-eqb, eqb_true, arith, Bool, true, false}
use Rattle.ksv_memo.proofs.Common.{cond, ◌&&◌, ◌||◌, List, [], ◌∷◌, ◌++◌, take, length, length-append, get_or, count_by, sum_by-cons}
use Rattle.ksv_memo.proofs.Common.{list_any, Contains, IsOneOf, AllByRecursion, All-from_recursion, All-map, Option, Some, None, is_some, Result}
use Rattle.ksv_memo.proofs.Common.{refl, sym, ◌∙◌, ap, subst, IsEquivalence, IsDistinct, IsDistinct-head, IsDistinct-tail, Linked, row, numbers_from}
use Rattle.ksv_memo.proofs.Common.{Slot, answer_in, answer_at, with_first, slots_of, node_at, nodes_at, IsKept, entry_with, entry_at, entries_at}
use Rattle.ksv_memo.proofs.Common.{entries_of, Entry, nodes_of, Open}
use Rattle.std.specs.Prelude.{nat_le}
use Rattle.std.specs.List.{AllPairs}
use Rattle.std.specs.Map.{keys_of}
use Rattle.std.proofs.Math.Bool.{or-false, and-false}
use Rattle.std.proofs.Math.Seq.{take-suc}
use Rattle.std.proofs.lemmas.Bool.{true≢false, cases_lt, le-leb, lt-leb, or_left, or_right}
use Rattle.std.proofs.lemmas.Bool.Decides.{nat_tests}
use Rattle.std.proofs.lemmas.List.{get_or_append_left, get_or-append-add, get_or_default}
use Rattle.std.proofs.lemmas.List.Elements.{Contains-append_left, Contains-append_right, Contains-append_cases}
use Rattle.std.proofs.lemmas.List.Folds.{list_any-append}
use Rattle.std.proofs.lemmas.List.Kept.{AllPairs-cons}
use Rattle.ksv_memo_rules.proofs.Lists.{none_fails}
use Rattle.ksv_memo_rules.specs.Folds.{Fold, first_of}
use Rattle.ksv_memo_rules.specs.declared.replies.Slot.TheVariants.{Empty as emptied, Open as opened}
use Rattle.ksv_memo.specs.declared.lendings.Lending.{Lending}
use Rattle.ksv_memo.specs.declared.slots.Known.{Known}
use Rattle.ksv_memo.specs.declared.slots.Known.TheVariants.{New, Empty, Open as Opened, Kept}
use Rattle.ksv_memo.specs.Folding.{IsRun, is_one}
use Rattle.ksv_memo.specs.Lending.{AreSlotsOf, AreAllKept, AreTwo, is_lent_from, dropped_last}
use Rattle.ksv_memo.specs.Moves.{Knows, IsTheSlot}
use Rattle.ksv_memo.specs.Nodes.{KeepsNode}
use Rattle.ksv_memo.proofs.Beside.{one_first, first_one}
use Rattle.ksv_memo.proofs.Finding.{node_there, answer_there}
use Rattle.ksv_memo.proofs.Knowing.{none_at, one_slot}
use Rattle.ksv_memo.proofs.Laying.{one_of-all}

-- ---- lists
module _ {X : Type 0} where
  -- all elements but the last are the first ones
  pub but-last : (xs : List X) (n : ℕ) → n ≡ length xs → take (n - 1) xs ≡ dropped_last xs
  but-last [] n e = ap (λ k. take k []) (let z : n - 1 ≡ 0 = omega arith in z)
  but-last (x ∷ []) n e = ap (λ k. take k (x ∷ [])) (let z : n - 1 ≡ 0 = omega arith in z)
  but-last (x ∷ y ∷ xs) n e =
      let more : n - 1 ≡ suc (suc (length xs) - 1) = omega arith in
      ap (λ k. take k (x ∷ y ∷ xs)) more ∙ ap (λ ys. x ∷ ys) (but-last (y ∷ xs) (suc (length xs)) refl)

  -- the elements before that of a place stand to it as each does to a later one
  before : (R : X → X → Type 0) (xs : List X) (at : ℕ) (d : X) → at < length xs → AllPairs R xs → AllByRecursion (λ x. R x (get_or xs at d)) (take at xs)
  before R [] at d lt h = absurd (omega arith)
  before R (x ∷ xs) zero d lt h = tt
  before R (x ∷ xs) (suc at) d lt h = (
    h 0 (suc at) d (omega arith) (omega arith),
    before R xs at d (omega arith) (λ i j e less within. h (suc i) (suc j) e (omega arith) (omega arith)),
  )

  -- an element that is the only one
  only : (x y : X) → Contains (x ∷ []) y → x ≡ y
  only x y (zero, lt, e) = e
  only x y (suc k, lt, e) = absurd (omega arith)

-- one more number that is none of the others
apart-more : (xs : List ℕ) (x : ℕ) → AllPairs (λ (a b : ℕ). a ≢ b) xs → (Contains xs x → ⊥) → AllPairs (λ (a b : ℕ). a ≢ b) (xs ++ x ∷ [])
apart-more xs x h none i j d less within = by (cases_lt j (length xs))
  where
    by : (j < length xs) ⊎ (length xs ≤ j) → get_or (xs ++ x ∷ []) i d ≢ get_or (xs ++ x ∷ []) j d
    by (inl lt) = λ same.
        h i j d less lt (sym (get_or_append_left xs (x ∷ []) d i (omega arith)) ∙ same ∙ get_or_append_left xs (x ∷ []) d j lt)
    by (inr le) = λ same.
        let at : j ≡ length xs + 0 = omega (arith, length-append xs (x ∷ [])) in
        let here : i < length xs = omega arith in
        let last : get_or (xs ++ x ∷ []) j d ≡ x = ap (λ k. get_or (xs ++ x ∷ []) k d) at ∙ get_or-append-add xs (x ∷ []) 0 d in
        none (i, here, get_or_default xs i x d here ∙ sym (get_or_append_left xs (x ∷ []) d i here) ∙ same ∙ last)

-- ---- the slots that are found
module _ {N V F : Type 0} (eq : N → N → Bool) (laws : IsEquivalence eq) (ps : List (N × Slot V F)) where
  -- a kept node is found
  pub found-kept : IsDistinct eq (keys_of ps) → (n : N) (i : ℕ) → IsKept ps i → node_at ps i ≡ Some n → (k : Known) → Knows eq ps n k
      → ((j : ℕ) → k ≡ Kept j → ⊥) → ⊥
  found-kept unique n i kept at k knows other = by k knows other
    where
      out : (j : ℕ) (s : Slot V F) → IsTheSlot ps n j s → answer_in s ≡ None → ⊥
      out j s there none =
          let same : i ≡ j = one_slot eq laws ps unique j i n n (node_there ps j n s there) at (laws.refl n) in
          let now : answer_at (slots_of ps) i ≡ None = ap (answer_at (slots_of ps)) same ∙ answer_there ps j n s there ∙ none in
          true≢false (sym kept ∙ ap is_some now)

      by : (k : Known) → Knows eq ps n k → ((j : ℕ) → k ≡ Kept j → ⊥) → ⊥
      by New h o = true≢false (sym (laws.refl n) ∙ none_at (eq n) ps h i n at)
      by (Empty j) h o = out j emptied h refl
      by Opened (j, there) o = out j opened there refl
      by (Kept j) h o = o j refl

module _ {N V F : Type 0} (eq : N → N → Bool) (laws : IsEquivalence eq) (left : ℕ) (ps : List (N × Slot V F)) where
  -- whether a node is one of those from a number on, if there is one more
  lent-more : (xs : List (Lending N)) (l : Lending N) (n : N)
      → is_lent_from eq left (xs ++ l ∷ []) n ≡ (is_lent_from eq left xs n || (nat_le left l.place && eq n l.node))
  lent-more xs l n = list_any-append (λ x. nat_le left x.place && eq n x.node) xs (l ∷ [])
      ∙ ap (λ b. is_lent_from eq left xs n || b) (or-false (nat_le left l.place && eq n l.node))

  -- a node that is none of them
  lent-none : (xs : List (Lending N)) (n : N) → AllByRecursion (λ x. eq x.node n ≡ false) xs → is_lent_from eq left xs n ≡ false
  lent-none [] n h = refl
  lent-none (x ∷ xs) n h = (λ i. (nat_le left x.place && (laws.symm n x.node ∙ h.0) i) || lent-none xs n h.1 i) ∙ never (nat_le left x.place)
    where
      never : (b : Bool) → (b && false || false) ≡ false
      never true = refl
      never false = refl

  -- none are found yet
  pub slots-none : AreSlotsOf (is_lent_from eq left []) ps []
  slots-none = record {
    each = λ i m. absurd (let lt = m.1 in omega arith);
    all = λ i n kept at t. absurd (true≢false (sym t));
    apart = λ i j d less within. absurd (omega arith);
  }

  -- one more
  module _ (ls : List (Lending N)) (at : ℕ) (l : Lending N) (lt : at < length ls) (is : l ≡ get_or ls at l) (found : List ℕ)
      (are : AreSlotsOf (is_lent_from eq left (take at ls)) ps found) where
    one-more : (n : N) → is_lent_from eq left (take (at + 1) ls) n ≡ (is_lent_from eq left (take at ls) n || (nat_le left l.place && eq n l.node))
    one-more n =
        let next : take (at + 1) ls ≡ take at ls ++ l ∷ [] =
        ap (λ k. take k ls) (let e : at + 1 ≡ suc at = omega arith in e) ∙ take-suc ls at l lt ∙ ap (λ x. take at ls ++ x ∷ []) (sym is) in
        ap (λ xs. is_lent_from eq left xs n) next ∙ lent-more (take at ls) l n

    -- whose number is less
    pub slots-same : l.place < left → AreSlotsOf (is_lent_from eq left (take (at + 1) ls)) ps found
    slots-same less = record {
      each = λ i m. (let h = are.each i m in (h.0, λ n there. same n ∙ h.1 n there));
      all = λ i n kept there t. are.all i n kept there (sym (same n) ∙ t);
      apart = are.apart;
    }
      where
        same : (n : N) → is_lent_from eq left (take (at + 1) ls) n ≡ is_lent_from eq left (take at ls) n
        same n = one-more n ∙ ap (λ b. is_lent_from eq left (take at ls) n || (b && eq n l.node)) (lt-leb left l.place less)
            ∙ or-false (is_lent_from eq left (take at ls) n)

    -- whose number isn't, which is found
    pub slots-more : left ≤ l.place → AllPairs (AreTwo eq) ls → IsDistinct eq (keys_of ps) → (i : ℕ) → IsKept ps i → node_at ps i ≡ Some l.node
        → AreSlotsOf (is_lent_from eq left (take (at + 1) ls)) ps (found ++ i ∷ [])
    slots-more le apart unique i kept there = record {
      each = λ j m. each j (Contains-append_cases found (i ∷ []) j m);
      all = λ j n k here t. all j n k here (is_lent_from eq left (take at ls) n) refl (sym (whole n) ∙ t);
      apart = apart-more found i are.apart (λ m. true≢false (sym ((are.each i m).1 l.node there) ∙ lent-none (take at ls) l.node two));
    }
      where
        whole : (n : N) → is_lent_from eq left (take (at + 1) ls) n ≡ (is_lent_from eq left (take at ls) n || eq n l.node)
        whole n = one-more n ∙ ap (λ b. is_lent_from eq left (take at ls) n || (b && eq n l.node)) (le-leb left l.place le)

        two : AllByRecursion (λ x. eq x.node l.node ≡ false) (take at ls)
        two = subst (λ y. AllByRecursion (λ x. eq x.node y.node ≡ false) (take at ls)) (sym is) (before (AreTwo eq) ls at l lt apart)

        each : (j : ℕ) → Contains found j ⊎ Contains (i ∷ []) j
            → IsKept ps j × ((n : N) → node_at ps j ≡ Some n → is_lent_from eq left (take (at + 1) ls) n ≡ true)
        each j (inl m) = let h = are.each j m in (h.0, λ n here. whole n ∙ or_left (is_lent_from eq left (take at ls) n) (eq n l.node) (h.1 n here))
        each j (inr m) = let same : i ≡ j = only i j m in (
          subst (IsKept ps) same kept,
          λ n here. whole n ∙ or_right (is_lent_from eq left (take at ls) n) (eq n l.node)
              (let its : l.node ≡ n = cc in subst (λ m. eq m l.node ≡ true) its (laws.refl l.node)),
        )

        all : (j : ℕ) (n : N) → IsKept ps j → node_at ps j ≡ Some n → (b : Bool) → is_lent_from eq left (take at ls) n ≡ b → (b || eq n l.node) ≡ true
            → Contains (found ++ i ∷ []) j
        all j n k here true e t = Contains-append_left found (i ∷ []) j (are.all j n k here e)
        all j n k here false e t = Contains-append_right found (i ∷ []) j (0, omega arith, one_slot eq laws ps unique j i n l.node here there t)

-- ---- the table's entries
module _ {N V F : Type 0} (eq : N → N → Bool) (exact : (a b : N) → eq a b ≡ true → a ≡ b) (ps : List (N × Slot V F)) (l : Linked) where
  -- the slot of an entry
  slot-of : (is : List ℕ) (e : Entry N (Result V F)) → IsOneOf (entries_at ps l is) e → (i : ℕ) × (entry_at ps l i ≡ Some e)
  slot-of [] e m = absurd m
  slot-of (i ∷ is) e m = by (entry_at ps l i) refl m (slot-of is e)
    where
      by : (o : Option (Entry N (Result V F))) → entry_at ps l i ≡ o → IsOneOf (with_first o (entries_at ps l is)) e
          → (IsOneOf (entries_at ps l is) e → (j : ℕ) × (entry_at ps l j ≡ Some e)) → (j : ℕ) × (entry_at ps l j ≡ Some e)
      by None at m later = later m
      by (Some x) at (inl same) later = (i, at ∙ ap Some same)
      by (Some x) at (inr m) later = later m

  -- it is kept, and its node is the entry's
  slot-keeps : (i : ℕ) (e : Entry N (Result V F)) → entry_at ps l i ≡ Some e → IsKept ps i × (node_at ps i ≡ Some e.node)
  slot-keeps i e at = by (node_at ps i) refl (answer_at (slots_of ps) i) refl at
    where
      by : (o : Option N) → node_at ps i ≡ o → (b : Option (Result V F)) → answer_at (slots_of ps) i ≡ b
          → entry_with o b (nodes_at ps (row l.asked i)) (row l.uses i) ≡ Some e → IsKept ps i × (node_at ps i ≡ Some e.node)
      by None node b answer h = absurd (cc)
      by (Some n) node None answer h = absurd (cc)
      by (Some n) node (Some a) answer h = (ap is_some answer, (let same : n ≡ e.node = cc in node ∙ ap Some same))

  -- so nodes that the table keeps are kept in slots
  pub all-kept : (ls : List (Lending N)) → AllByRecursion (λ x. KeepsNode eq (entries_of ps l) x.node) ls → AreAllKept ps ls
  all-kept = All-map (λ x h. (let r = slot-of (numbers_from 0 (length ps)) h.0 h.1.there in
      let k = slot-keeps r.0 h.0 r.1 in
      (r.0, k.0, k.1 ∙ ap Some (sym (exact x.node h.0.node h.1.passes)))))

-- ---- counts
module _ {X : Type 0} where
  count-cons : (p : X → Bool) (x : X) (xs : List X) → count_by p (x ∷ xs) ≡ cond (p x) 1 0 + count_by p xs
  count-cons p x xs = sum_by-cons (λ y. cond (p y) 1 0) x xs

  one-counts : (p : X → Bool) (x : X) → p x ≡ true → cond {A = ℕ} (p x) 1 0 ≡ 1
  one-counts p x e = ap (λ b. cond {A = ℕ} b 1 0) e

  -- one that passes is counted
  counts-one : (p : X → Bool) (xs : List X) (x : X) → IsOneOf xs x → p x ≡ true → 1 ≤ count_by p xs
  counts-one p [] x m e = absurd m
  counts-one p (y ∷ xs) x (inl s) e = omega (arith, one-counts p y (ap p s ∙ e), count-cons p y xs)
  counts-one p (y ∷ xs) x (inr m) e = omega (arith, counts-one p xs x m e, count-cons p y xs)

  -- where one is counted, one passes
  some-counted : (p : X → Bool) (xs : List X) → 1 ≤ count_by p xs → (x : X) × IsOneOf xs x × (p x ≡ true)
  some-counted p [] h = absurd (omega arith)
  some-counted p (x ∷ xs) h = by (p x) refl (count-cons p x xs) (some-counted p xs)
    where
      by : (b : Bool) → p x ≡ b → count_by p (x ∷ xs) ≡ cond b 1 0 + count_by p xs → (1 ≤ count_by p xs → (y : X) × IsOneOf xs y × (p y ≡ true))
          → (y : X) × IsOneOf (x ∷ xs) y × (p y ≡ true)
      by true e c later = (x, inl refl, e)
      by false e c later = let r = later (omega arith) in (r.0, inr r.1, r.2)

  -- a test that two others share counts what both count
  counts-split : (p q r : X → Bool) → ((x : X) → cond {A = ℕ} (p x) 1 0 ≡ cond (q x) 1 0 + cond (r x) 1 0) → (xs : List X)
      → count_by p xs ≡ count_by q xs + count_by r xs
  counts-split p q r h [] = refl
  counts-split p q r h (x ∷ xs) = omega (arith, count-cons p x xs, count-cons q x xs, count-cons r x xs, h x, counts-split p q r h xs)

  counts-none : (p : X → Bool) (xs : List X) → AllByRecursion (λ x. p x ≡ false) xs → count_by p xs ≡ 0
  counts-none p [] h = refl
  counts-none p (x ∷ xs) h = omega (arith, count-cons p x xs, ap (λ b. cond {A = ℕ} b 1 0) h.0, counts-none p xs h.1)

  each-one : (P : X → Type 0) (xs : List X) → ((x : X) → IsOneOf xs x → P x) → AllByRecursion P xs
  each-one P [] h = tt
  each-one P (x ∷ xs) h = (h x (inl refl), each-one P xs (λ y m. h y (inr m)))

  any-one : (p : X → Bool) (xs : List X) (x : X) → IsOneOf xs x → p x ≡ true → list_any p xs ≡ true
  any-one p [] x m e = absurd m
  any-one p (y ∷ xs) x (inl s) e = or_left (p y) (list_any p xs) (ap p s ∙ e)
  any-one p (y ∷ xs) x (inr m) e = or_right (p y) (list_any p xs) (any-one p xs x m e)

-- a number is less than the next one if it is less, or the same
less-split : (x j : ℕ) → cond {A = ℕ} (nat_lt x (suc j)) 1 0 ≡ cond (nat_lt x j) 1 0 + cond (nat_eq x j) 1 0
less-split x j = grind (arith, nat_tests)

-- a node that comes once is counted once
counts-node : {N A : Type 0} (eq : N → N → Bool) → IsEquivalence eq → (es : List (Entry N A)) → IsDistinct eq (nodes_of es) → (n : N)
    → count_by (λ e. eq n e.node) es ≤ 1
counts-node eq laws [] once n = omega arith
counts-node {N} {A} eq laws (x ∷ es) once n =
    by (eq n x.node) refl (count-cons (λ (e : Entry N A). eq n e.node) x es) (counts-node eq laws es (IsDistinct-tail eq x.node (nodes_of es) once) n)
  where
    apart : (ys : List (Entry N A)) → AllByRecursion (λ y. eq x.node y ≡ false) (nodes_of ys) → eq n x.node ≡ true
        → AllByRecursion (λ e. eq n e.node ≡ false) ys
    apart [] h at = tt
    apart (y ∷ ys) h at = (laws.congr n x.node y.node at ∙ h.0, apart ys h.1 at)

    by : (b : Bool) → eq n x.node ≡ b → count_by (λ e. eq n e.node) (x ∷ es) ≡ cond b 1 0 + count_by (λ e. eq n e.node) es
        → count_by (λ e. eq n e.node) es ≤ 1 → count_by (λ e. eq n e.node) (x ∷ es) ≤ 1
    by true at c most = omega (arith, c, counts-none (λ (e : Entry N A). eq n e.node) es (apart es (IsDistinct-head eq x.node (nodes_of es) once) at))
    by false at c most = omega (arith, c, most)

-- ---- what a run lists
module _ {N A : Type 0} (eq : N → N → Bool) (laws : IsEquivalence eq) (exact : (a b : N) → eq a b ≡ true → a ≡ b) (f : Fold N A) (kept wild far : ℕ)
    (lent : List (Lending N)) (es : List (Entry N A)) (st : List (Open N A)) (run : IsRun eq f kept wild far lent es st)
    (once : IsDistinct eq (nodes_of es)) where
  -- a folded node has one number
  same-number : (i j : ℕ) → i < kept → j < kept → (f.entry i).node ≡ (f.entry j).node → i ≡ j
  same-number i j less lt same = run.laid.once i j (omega (arith, run.order, run.reach, run.in_size)) (omega (arith, run.order, run.reach, run.in_size)) same

  one-split : (j : ℕ) → j < kept → (n : N)
      → cond {A = ℕ} (is_one eq (first_of f (suc j)) n) 1 0 ≡ cond (is_one eq (first_of f j) n) 1 0 + cond (eq (f.entry j).node n) 1 0
  one-split j lt n = ap (λ b. cond {A = ℕ} b 1 0) whole ∙ by (is_one eq (first_of f j) n) refl (eq (f.entry j).node n) refl
    where
      whole : is_one eq (first_of f (suc j)) n ≡ (is_one eq (first_of f j) n || (eq (f.entry j).node n || false))
      whole = list_any-append (λ e. eq n e.node) (first_of f j) (f.entry j ∷ [])
          ∙ ap (λ b. is_one eq (first_of f j) n || (b || false)) (laws.symm n (f.entry j).node)

      by : (a : Bool) → is_one eq (first_of f j) n ≡ a → (b : Bool) → eq (f.entry j).node n ≡ b
          → cond {A = ℕ} (a || (b || false)) 1 0 ≡ cond a 1 0 + cond b 1 0
      by true e true g =
          let r = one_first f eq j n e in
          let same : (f.entry r.0).node ≡ (f.entry j).node = sym (exact n (f.entry r.0).node r.2) ∙ sym (exact (f.entry j).node n g) in
          let less : r.0 < j = r.1 in
          absurd (let no : r.0 ≡ j = same-number r.0 j (omega arith) lt same in omega arith)
      by true e false g = refl
      by false e true g = refl
      by false e false g = refl

  -- it has a slot exactly if its number is listed
  number-counts : (j : ℕ) → j < kept → count_by (λ e. eq (f.entry j).node e.node) es ≡ count_by (λ l. nat_eq l.place j) lent
  number-counts j lt = omega (
    arith,
    run.counted j (omega arith),
    run.counted (suc j) (omega arith),
    counts-split (λ (e : Entry N A). is_one eq (first_of f (suc j)) e.node) (λ e. is_one eq (first_of f j) e.node) (λ e. eq (f.entry j).node e.node)
        (λ e. one-split j lt e.node) es,
    counts-split (λ (l : Lending N). nat_lt l.place (suc j)) (λ l. nat_lt l.place j) (λ l. nat_eq l.place j) (λ l. less-split l.place j) lent,
  )

  below-kept : (l : Lending N) → IsOneOf lent l → l.place < kept
  below-kept = one_of-all (λ l. l.place < kept) lent run.below

  named-by : (l : Lending N) → IsOneOf lent l → (f.entry l.place).node ≡ l.node
  named-by = one_of-all (λ l. (f.entry l.place).node ≡ l.node) lent run.named

  -- each is kept in a slot
  pub lent-held : AllByRecursion (λ l. KeepsNode eq es l.node) lent
  lent-held = each-one (λ l. KeepsNode eq es l.node) lent (λ l m. held l m)
    where
      held : (l : Lending N) → IsOneOf lent l → KeepsNode eq es l.node
      held l m =
          let listed = counts-one (λ (x : Lending N). nat_eq x.place l.place) lent l m (eq-eqb l.place l.place refl) in
          let r = some-counted (λ (e : Entry N A). eq (f.entry l.place).node e.node) es (omega (arith, listed, number-counts l.place (below-kept l m))) in
          (r.0, record { there = r.1; passes = ap (λ n. eq n r.0.node) (sym (named-by l m)) ∙ r.2 })

  -- none is listed twice
  pub lent-apart : AllPairs (AreTwo eq) lent
  lent-apart = pairs lent run.below run.named (λ j lt. (let one = counts-node eq laws es once (f.entry j).node in omega (arith, one, number-counts j lt)))
    where
      pairs : (xs : List (Lending N)) → AllByRecursion (λ l. l.place < kept) xs → AllByRecursion (λ l. (f.entry l.place).node ≡ l.node) xs
          → ((j : ℕ) → j < kept → count_by (λ l. nat_eq l.place j) xs ≤ 1) → AllPairs (AreTwo eq) xs
      pairs [] below named most = λ i j d less within. absurd (omega arith)
      pairs (x ∷ xs) below named most =
          AllPairs-cons (AreTwo eq) x xs (All-from_recursion (AreTwo eq x) xs (each-one (AreTwo eq x) xs (λ y m. two y m (eq x.node y.node) refl)))
          (pairs xs below.1 named.1 (λ j lt. omega (arith, most j lt, count-cons (λ (l : Lending N). nat_eq l.place j) x xs)))
        where
          two : (y : Lending N) → IsOneOf xs y → (b : Bool) → eq x.node y.node ≡ b → eq x.node y.node ≡ false
          two y m false e = e
          two y m true e =
              let lt : y.place < kept = one_of-all (λ (l : Lending N). l.place < kept) xs below.1 y m in
              let its : (f.entry y.place).node ≡ y.node = one_of-all (λ (l : Lending N). (f.entry l.place).node ≡ l.node) xs named.1 y m in
              let same : x.place ≡ y.place = same-number x.place y.place below.0 lt (named.0 ∙ exact x.node y.node e ∙ sym its) in
              let p : Lending N → Bool = λ l. nat_eq l.place y.place in
              absurd (omega (
                arith,
                most y.place lt,
                count-cons p x xs,
                one-counts p x (eq-eqb x.place y.place same),
                counts-one p xs y m (eq-eqb y.place y.place refl),
              ))

  -- a folded node that has a slot is listed
  pub lent-all : (e : Entry N A) → IsOneOf es e → (j : ℕ) → j < kept → (f.entry j).node ≡ e.node → (l : Lending N) × IsOneOf lent l × (l.place ≡ j)
  lent-all e m j lt at =
      let kept_one = counts-one (λ (x : Entry N A). eq (f.entry j).node x.node) es e m (ap (λ n. eq n e.node) at ∙ laws.refl e.node) in
      let r = some-counted (λ (l : Lending N). nat_eq l.place j) lent (omega (arith, kept_one, number-counts j lt)) in
      (r.0, r.1, eqb_true r.0.place j r.2)

  -- so the test of those from a number on is that of its number
  pub lent-test : (left : ℕ) (e : Entry N A) → IsOneOf es e → (j : ℕ) → j < kept → (f.entry j).node ≡ e.node → is_lent_from eq left lent e.node ≡ nat_le left j
  lent-test left e m j lt at = by (nat_le left j) refl
    where
      by : (b : Bool) → nat_le left j ≡ b → is_lent_from eq left lent e.node ≡ b
      by true le =
          let r = lent-all e m j lt at in
          let its : e.node ≡ r.0.node = sym at ∙ ap (λ i. (f.entry i).node) (sym r.2) ∙ named-by r.0 r.1 in
          any-one (λ (l : Lending N). nat_le left l.place && eq e.node l.node) lent r.0 r.1
          ((λ i. (ap (nat_le left) r.2 ∙ le) i && (sym (ap (eq e.node) its) ∙ laws.refl e.node) i))
      by false le = none_fails (λ (l : Lending N). nat_le left l.place && eq e.node l.node) lent
          (each-one (λ l. (nat_le left l.place && eq e.node l.node) ≡ false) lent (λ l k. one l k (eq e.node l.node) refl))
        where
          one : (l : Lending N) → IsOneOf lent l → (b : Bool) → eq e.node l.node ≡ b → (nat_le left l.place && eq e.node l.node) ≡ false
          one l k true g =
              let same : l.place ≡ j = same-number l.place j (below-kept l k) lt (named-by l k ∙ sym (exact e.node l.node g) ∙ sym at) in
              ap (λ b. b && eq e.node l.node) (ap (nat_le left) same ∙ le)
          one l k false g = ap (λ b. nat_le left l.place && b) g ∙ and-false (nat_le left l.place)

  -- and no node passes it that isn't folded
  pub unlent-test : (left : ℕ) (n : N) → is_one eq (first_of f kept) n ≡ false → is_lent_from eq left lent n ≡ false
  unlent-test left n none = none_fails (λ (l : Lending N). nat_le left l.place && eq n l.node) lent
      (each-one (λ l. (nat_le left l.place && eq n l.node) ≡ false) lent (λ l m. one l m (eq n l.node) refl))
    where
      one : (l : Lending N) → IsOneOf lent l → (b : Bool) → eq n l.node ≡ b → (nat_le left l.place && eq n l.node) ≡ false
      one l m true g = absurd (true≢false (sym (first_one f eq kept l.place n (below-kept l m) (ap (eq n) (named-by l m) ∙ g)) ∙ none))
      one l m false g = ap (λ b. nat_le left l.place && b) g ∙ and-false (nat_le left l.place)
