-- What the slots have of a node is what is kept and open.
use Rattle.ksv_memo.proofs.Common.{sum_by-cons, ◌≡◌, ◌≢◌, ℕ, zero, suc, ◌+◌, ◌<◌, ◌≤◌, sum_by, count_by, cond, arith, Bool, true, false, List, [], ◌∷◌, length}
use Rattle.ksv_memo.proofs.Common.{map, take, drop, Option, Some, None, is_some, refl, sym, ◌∙◌, ap, subst, Result, inl, inr, IsEquivalence}
use Rattle.ksv_memo.proofs.Common.{AllByRecursion, list_any, IsDistinct-head, IsDistinct-tail, Use, row, numbers_from, is_kept, Linked, Slot, Frame}
use Rattle.ksv_memo.proofs.Common.{answer_at, answers_at, with_first, Entry, Open, IsOneOf, slots_of, node_at, nodes_at, IsOpen, IsKept, entry_with, entry_at}
use Rattle.ksv_memo.proofs.Common.{entries_at, entries_of, open_before, opens_in, AreLinked, or_parts, none_pass, IsDistinct}
use Rattle.std.proofs.lemmas.List.{get_or_past}
use Rattle.std.specs.Map.{keys_of}
use Rattle.std.proofs.lemmas.Bool.{or_left, or_right}
use Rattle.std.proofs.lemmas.Map.Keys.{IsDistinct-cons}
use Rattle.ksv_memo.proofs.Laying.{HasNode, kept_node, number_in}

none_distinct : {X : Type 0} (eq : X → X → Bool) → IsDistinct eq []
unfolding IsDistinct
none_distinct eq = tt

map_all : {X Y : Type 0} (f : X → Y) (P : Y → Type 0) (xs : List X) → AllByRecursion (λ x. P (f x)) xs → AllByRecursion P (map f xs)
map_all f P [] h = tt
map_all f P (x ∷ xs) h = (h.0, map_all f P xs h.1)

sum_by-same : (f g : ℕ → ℕ) → ((i : ℕ) → f i ≡ g i) → (is : List ℕ) → sum_by f is ≡ sum_by g is
sum_by-same f g h [] = refl
sum_by-same f g h (i ∷ is) = sum_by-cons f i is ∙ (λ j. h i j + sum_by-same f g h is j) ∙ sym (sum_by-cons g i is)

pub sum-shift : (f : ℕ → ℕ) (a n : ℕ) → sum_by f (numbers_from (a + 1) n) ≡ sum_by (λ i. f (suc i)) (numbers_from a n)
sum-shift f a zero = refl
sum-shift f a (suc n) =
    let e : a + 1 ≡ suc a = omega arith in
    cc (sum_by-cons f (a + 1) (numbers_from (a + 1 + 1) n), sum-shift f (a + 1) n, sum_by-cons (λ i. f (suc i)) a (numbers_from (a + 1) n))

-- the flags that are set are as many as the numbers at which one is
count_numbers : (ks : List Bool) (n : ℕ) → ((i : ℕ) → n ≤ i → is_kept ks i ≡ false)
    → sum_by (λ i. cond (is_kept ks i) 1 0) (numbers_from 0 n) ≡ count_by (λ b. b) ks
count_numbers [] n h = none (numbers_from 0 n)
  where
    none : (is : List ℕ) → sum_by (λ i. cond (is_kept [] i) 1 0) is ≡ 0
    none [] = refl
    none (i ∷ is) =
        let z : is_kept [] i ≡ false = get_or_past [] i false (omega arith) in
        sum_by-cons (λ j. cond (is_kept [] j) 1 0) i is ∙ (λ j. cond (z j) 1 0 + none is j)
count_numbers (k ∷ ks) zero h =
    let rest : 0 ≡ count_by (λ b. b) ks = count_numbers ks zero (λ i le. h (suc i) (omega arith)) in
    let c : count_by (λ b. b) (k ∷ ks) ≡ cond k 1 0 + count_by (λ b. b) ks = sum_by-cons (λ (b : Bool). cond b 1 0) k ks in
    let z : cond k 1 0 ≡ 0 = ap (λ b. cond b 1 0) (h 0 (omega arith)) in
    sym (c ∙ (λ j. z j + sym rest j))
count_numbers (k ∷ ks) (suc n) h =
    let e : 0 + 1 ≡ 1 = omega arith in
    cc (
      sum_by-cons (λ i. cond (is_kept (k ∷ ks) i) 1 0) 0 (numbers_from (0 + 1) n),
      sum-shift (λ i. cond (is_kept (k ∷ ks) i) 1 0) 0 n,
      count_numbers ks n (λ i le. h (suc i) (omega arith)),
      sum_by-cons (λ (b : Bool). cond b 1 0) k ks,
    )

module _ {N V F : Type 0} where
  past : (ps : List (N × Slot V F)) (i : ℕ) → length ps ≤ i → answer_at (slots_of ps) i ≡ None
  past [] i le = refl
  past (p ∷ ps) zero le = absurd (omega arith)
  past (p ∷ ps) (suc i) le = past ps i (omega arith)

  -- ---- an entry of a kept node
  some_entry : (ps : List (N × Slot V F)) (l : Linked) (i : ℕ) (m : N) (a : Result V F) → node_at ps i ≡ Some m → answer_at (slots_of ps) i ≡ Some a
      → entry_at ps l i ≡ Some (record { node = m; answer = a; asked = nodes_at ps (row l.asked i); uses = row l.uses i })
  some_entry ps l i m a node answer = λ j. entry_with (node j) (answer j) (nodes_at ps (row l.asked i)) (row l.uses i)

  in_first : (o : Option (Entry N (Result V F))) (es : List (Entry N (Result V F))) (e : Entry N (Result V F)) → o ≡ Some e → IsOneOf (with_first o es) e
  in_first None es e h = absurd (cc)
  in_first (Some x) es e h = let same : x ≡ e = cc in inl same

  in_later : (o : Option (Entry N (Result V F))) (es : List (Entry N (Result V F))) (e : Entry N (Result V F)) → IsOneOf es e → IsOneOf (with_first o es) e
  in_later None es e h = h
  in_later (Some x) es e h = inr h

  module _ (ps : List (N × Slot V F)) (l : Linked) where
    pub find_entry : (is : List ℕ) (i : ℕ) (e : Entry N (Result V F)) → IsOneOf is i → entry_at ps l i ≡ Some e → IsOneOf (entries_at ps l is) e
    find_entry [] i e h at = absurd h
    find_entry (j ∷ is) i e (inl same) at = in_first _ (entries_at ps l is) e (cc)
    find_entry (j ∷ is) i e (inr h) at = in_later (entry_at ps l j) (entries_at ps l is) e (find_entry is i e h at)

    pub entry_of : (i : ℕ) (m : N) (a : Result V F) → i < length ps → node_at ps i ≡ Some m → answer_at (slots_of ps) i ≡ Some a
        → (e : Entry N (Result V F)) × IsOneOf (entries_of ps l) e × (e.node ≡ m) × (e.answer ≡ a)
    entry_of i m a lt node answer =
        let e : Entry N (Result V F) = record { node = m; answer = a; asked = nodes_at ps (row l.asked i); uses = row l.uses i } in
        (e, find_entry (numbers_from 0 (length ps)) i e (number_in 0 (length ps) i (omega arith) (omega arith)) (some_entry ps l i m a node answer), refl, refl)

    -- no kept node passes a test
    no_entry_here : (t : N → Bool) (j : ℕ) (o : Option N) (b : Option (Result V F)) → (is_some b ≡ true → (m : N) → o ≡ Some m → t m ≡ false)
        → (es : List (Entry N (Result V F))) → list_any (λ e. t e.node) es ≡ false
        → list_any (λ e. t e.node) (with_first (entry_with o b (nodes_at ps (row l.asked j)) (row l.uses j)) es) ≡ false
    no_entry_here t j (Some n) (Some a) each es h = cc (each refl n refl)
    no_entry_here _ _ _ _ _ _ h = h

    none_of : (t : N → Bool) → ((j : ℕ) (m : N) → IsKept ps j → node_at ps j ≡ Some m → t m ≡ false) → (is : List ℕ)
        → list_any (λ e. t e.node) (entries_at ps l is) ≡ false
    none_of t each [] = refl
    none_of t each (j ∷ is) = no_entry_here t j (node_at ps j) (answer_at (slots_of ps) j) (λ kept m e. each j m kept e) (entries_at ps l is)
        (none_of t each is)

    pub no_entry : (t : N → Bool) → ((j : ℕ) (m : N) → IsKept ps j → node_at ps j ≡ Some m → t m ≡ false) → list_any (λ e. t e.node) (entries_of ps l) ≡ false
    no_entry t each = none_of t each (numbers_from 0 (length ps))

    none_from : (t : N → Bool) (k n : ℕ) → ((j : ℕ) (m : N) → k ≤ j → node_at ps j ≡ Some m → t m ≡ false)
        → list_any (λ e. t e.node) (entries_at ps l (numbers_from k n)) ≡ false
    none_from t k zero each = refl
    none_from t k (suc n) each = no_entry_here t k (node_at ps k) (answer_at (slots_of ps) k) (λ kept m e. each k m (omega arith) e)
        (entries_at ps l (numbers_from (k + 1) n)) (none_from t (k + 1) n (λ j m le e. each j m (omega arith) e))

    -- ---- how many are kept
    count_here : (j : ℕ) (o : Option N) (b : Option (Result V F)) → (is_some b ≡ true → is_some o ≡ true) → (es : List (Entry N (Result V F)))
        → length (with_first (entry_with o b (nodes_at ps (row l.asked j)) (row l.uses j)) es) ≡ cond (is_some b) 1 0 + length es
    count_here j None None each es = omega arith
    count_here j None (Some a) each es = let no = each refl in absurd (cc)
    count_here j (Some n) None each es = omega arith
    count_here j (Some n) (Some a) each es = omega arith

    count_of : (is : List ℕ) → length (entries_at ps l is) ≡ sum_by (λ i. cond (is_some (answer_at (slots_of ps) i)) 1 0) is
    count_of [] = refl
    count_of (j ∷ is) = cc (
      count_here j (node_at ps j) (answer_at (slots_of ps) j) (kept_node ps j) (entries_at ps l is),
      count_of is,
      sum_by-cons (λ i. cond (is_some (answer_at (slots_of ps) i)) 1 0) j is,
    )

    pub count_kept : AreLinked ps l → count_by (λ b. b) l.kept ≡ length (entries_of ps l)
    count_kept h =
        sym (count_of (numbers_from 0 (length ps))
        ∙ sum_by-same (λ i. cond (is_some (answer_at (slots_of ps) i)) 1 0) (λ i. cond (is_kept l.kept i) 1 0) (λ i. ap (λ b. cond b 1 0) (sym (h.kept i)))
        (numbers_from 0 (length ps))
        ∙ count_numbers l.kept (length ps) (λ i le. h.kept i ∙ ap is_some (past ps i le)))

  module _ (ps : List (N × Slot V F)) where
    -- no open node passes it
    no_open_here : (t : N → Bool) (o : Option N) (replies : List (Result V F)) (asked : List N) (uses : List Use) (rest : List (Open N (Result V F)))
        → ((m : N) → o ≡ Some m → t m ≡ false) → list_any (λ p. t p.node) rest ≡ false
        → list_any (λ p. t p.node) (open_before o replies asked uses rest) ≡ false
    no_open_here t None replies asked uses rest each h = h
    no_open_here t (Some n) replies asked uses rest each h = cc (each n refl)

    pub no_open : (t : N → Bool) → ((j : ℕ) (m : N) → IsOpen ps j → node_at ps j ≡ Some m → t m ≡ false)
        → (fs : List (Frame N)) (asked : List ℕ) (uses : List Use) → AllByRecursion (λ f. IsOpen ps f.slot) fs
        → list_any (λ p. t p.node) (opens_in ps fs asked uses) ≡ false
    no_open t each [] asked uses h = refl
    no_open t each (f ∷ fs) asked uses h = no_open_here t (node_at ps f.slot) (answers_at (slots_of ps) (drop f.asked asked)) (nodes_at ps (drop f.asked asked))
        (drop f.uses uses) (opens_in ps fs (take f.asked asked) (take f.uses uses)) (λ m e. each f.slot m h.0 e)
        (no_open t each fs (take f.asked asked) (take f.uses uses) h.1)

    -- an open node passes it
    some_open_here : (t : N → Bool) (o : Option N) (replies : List (Result V F)) (asked : List N) (uses : List Use) (rest : List (Open N (Result V F))) (m : N)
        → o ≡ Some m → t m ≡ true → list_any (λ p. t p.node) (open_before o replies asked uses rest) ≡ true
    some_open_here t None replies asked uses rest m e h = absurd (cc)
    some_open_here t (Some n) replies asked uses rest m e h = let same : n ≡ m =
        cc in or_left (t n) (list_any (λ (p : Open N (Result V F)). t p.node) rest) (ap t same ∙ h)

    some_open_later : (t : N → Bool) (o : Option N) (replies : List (Result V F)) (asked : List N) (uses : List Use) (rest : List (Open N (Result V F)))
        → list_any (λ p. t p.node) rest ≡ true → list_any (λ p. t p.node) (open_before o replies asked uses rest) ≡ true
    some_open_later t None replies asked uses rest h = h
    some_open_later t (Some n) replies asked uses rest h = or_right (t n) (list_any (λ (p : Open N (Result V F)). t p.node) rest) h

    pub some_open : (t : N → Bool) (fs : List (Frame N)) (asked : List ℕ) (uses : List Use) (i : ℕ) (m : N) → IsOneOf (map (λ f. f.slot) fs) i
        → node_at ps i ≡ Some m → t m ≡ true → list_any (λ p. t p.node) (opens_in ps fs asked uses) ≡ true
    some_open t [] asked uses i m h node pass = absurd h
    some_open t (f ∷ fs) asked uses i m (inl same) node pass =
        some_open_here t (node_at ps f.slot) (answers_at (slots_of ps) (drop f.asked asked)) (nodes_at ps (drop f.asked asked)) (drop f.uses uses)
        (opens_in ps fs (take f.asked asked) (take f.uses uses)) m (cc) pass
    some_open t (f ∷ fs) asked uses i m (inr h) node pass =
        some_open_later t (node_at ps f.slot) (answers_at (slots_of ps) (drop f.asked asked)) (nodes_at ps (drop f.asked asked)) (drop f.uses uses)
        (opens_in ps fs (take f.asked asked) (take f.uses uses)) (some_open t fs (take f.asked asked) (take f.uses uses) i m h node pass)

  pub opens_length : (ps : List (N × Slot V F)) (fs : List (Frame N)) (asked : List ℕ) (uses : List Use) → AllByRecursion (λ f. HasNode ps f.slot) fs
      → length (opens_in ps fs asked uses) ≡ length fs
  opens_length ps [] asked uses h = refl
  opens_length ps (f ∷ fs) asked uses h = by (node_at ps f.slot) h.0 ∙ ap suc (opens_length ps fs (take f.asked asked) (take f.uses uses) h.1)
    where
      by : (o : Option N) → is_some o ≡ true
          → length (open_before o (answers_at (slots_of ps) (drop f.asked asked)) (nodes_at ps (drop f.asked asked)) (drop f.uses uses)
          (opens_in ps fs (take f.asked asked) (take f.uses uses))) ≡ suc (length (opens_in ps fs (take f.asked asked) (take f.uses uses)))
      by None e = absurd (cc)
      by (Some m) e = refl

  -- frames of nodes stand for open nodes
  pub some-frames : (ps : List (N × Slot V F)) (fs : List (Frame N)) (asked : List ℕ) (uses : List Use) → AllByRecursion (λ f. HasNode ps f.slot) fs
      → opens_in ps fs asked uses ≡ [] → fs ≡ []
  some-frames ps [] asked uses h e = refl
  some-frames ps (f ∷ fs) asked uses h e = absurd (by (node_at ps f.slot) h.0 e)
    where
      by : (o : Option N) → is_some o ≡ true → open_before o (answers_at (slots_of ps) (drop f.asked asked)) (nodes_at ps (drop f.asked asked))
          (drop f.uses uses) (opens_in ps fs (take f.asked asked) (take f.uses uses)) ≡ [] → ⊥
      by None n e = cc
      by (Some m) n e = cc

  -- ---- a node that no slot has
  pub none_at : (t : N → Bool) (ps : List (N × Slot V F)) → list_any (λ p. t p.0) ps ≡ false → (j : ℕ) (m : N) → node_at ps j ≡ Some m → t m ≡ false
  none_at t [] h j m e = absurd (cc)
  none_at t (p ∷ ps) h zero m e = let same : p.0 ≡ m = cc in cc (or_parts (t p.0) (list_any (λ (q : N × Slot V F). t q.0) ps) h).0
  none_at t (p ∷ ps) h (suc j) m e = none_at t ps (or_parts (t p.0) (list_any (λ (q : N × Slot V F). t q.0) ps) h).1 j m e

  -- ---- a node has one slot
  key_at : (P : N → Type 0) (ps : List (N × Slot V F)) → AllByRecursion P (keys_of ps) → (j : ℕ) (m : N) → node_at ps j ≡ Some m → P m
  key_at P [] h j m e = absurd (cc)
  key_at P (p ∷ ps) h zero m e = let same : p.0 ≡ m = cc in subst P same h.0
  key_at P (p ∷ ps) h (suc j) m e = key_at P ps h.1 j m e

  pub one_slot : (eq : N → N → Bool) → IsEquivalence eq → (ps : List (N × Slot V F)) → IsDistinct eq (keys_of ps) → (i j : ℕ) (m k : N) → node_at ps i ≡ Some m
      → node_at ps j ≡ Some k → eq m k ≡ true → j ≡ i
  one_slot eq laws [] h i j m k e f same = absurd (cc)
  one_slot eq laws (p ∷ ps) h zero zero m k e f same = refl
  one_slot eq laws (p ∷ ps) h zero (suc j) m k e f same = let apart : eq p.0 k ≡ false =
      key_at (λ y. eq p.0 y ≡ false) ps (IsDistinct-head eq p.0 (keys_of ps) h) j k f in let here : p.0 ≡ m = cc in let no : eq m k ≡ false =
      cc in absurd (cc)
  one_slot eq laws (p ∷ ps) h (suc i) zero m k e f same = let apart : eq p.0 m ≡ false =
      key_at (λ y. eq p.0 y ≡ false) ps (IsDistinct-head eq p.0 (keys_of ps) h) i m e in let here : p.0 ≡ k = cc in let no : eq m k ≡ false =
      cc (laws.symm m k) in absurd (cc)
  one_slot eq laws (p ∷ ps) h (suc i) (suc j) m k e f same = ap suc (one_slot eq laws ps (IsDistinct-tail eq p.0 (keys_of ps) h) i j m k e f same)

  -- so where a node's slot is that of a number, another slot's node isn't it
  pub not_other : (eq : N → N → Bool) → IsEquivalence eq → (ps : List (N × Slot V F)) → IsDistinct eq (keys_of ps) → (n : N) (i : ℕ) (m : N)
      → node_at ps i ≡ Some m → eq n m ≡ true → (j : ℕ) (k : N) → j ≢ i → node_at ps j ≡ Some k → eq n k ≡ false
  not_other eq laws ps h n i m e same j k apart f = by (eq n k) refl
    where
      by : (b : Bool) → eq n k ≡ b → eq n k ≡ false
      by false q = q
      by true q = absurd (apart (one_slot eq laws ps h i j m k e f (sym (laws.congr n m k same) ∙ q)))

  -- no kept node comes twice
  pub kept_once : (eq : N → N → Bool) → IsEquivalence eq → (ps : List (N × Slot V F)) (l : Linked) → IsDistinct eq (keys_of ps)
      → IsDistinct eq (map (λ e. e.node) (entries_of ps l))
  kept_once eq laws ps l h = from 0 (length ps)
    where
      one : (k n : ℕ) (o : Option N) (b : Option (Result V F)) → node_at ps k ≡ o → IsDistinct eq (map (λ e. e.node) (entries_at ps l (numbers_from (k + 1) n)))
          → IsDistinct eq (map (λ e. e.node)
          (with_first (entry_with o b (nodes_at ps (row l.asked k)) (row l.uses k)) (entries_at ps l (numbers_from (k + 1) n))))
      one k n (Some m) (Some a) is rest = IsDistinct-cons eq m (map (λ e. e.node) (entries_at ps l (numbers_from (k + 1) n)))
          (map_all (λ e. e.node) (λ y. eq m y ≡ false) (entries_at ps l (numbers_from (k + 1) n)) (none_pass (λ e. eq m e.node)
          (entries_at ps l (numbers_from (k + 1) n)) (none_from ps l (eq m) (k + 1) n
          (λ j x le e. not_other eq laws ps h m k m is (laws.refl m) j x (λ same. omega arith) e)))) rest
      one k n None b is rest = rest
      one k n (Some m) None is rest = rest

      from : (k n : ℕ) → IsDistinct eq (map (λ e. e.node) (entries_at ps l (numbers_from k n)))
      from k zero = none_distinct eq
      from k (suc n) = one k n (node_at ps k) (answer_at (slots_of ps) k) refl (from (k + 1) n)
