-- What an edit takes from the kept nodes is what the pass takes from the table, and what stays is right.
use Rattle.ksv_memo.proofs.Common.{sum_by-cons, ◌≡◌, ℕ, zero, suc, ◌+◌, ◌<◌, ◌≤◌, arith, length, sum_by, count_by, get_or, nat_lt, Bool, true, false, not}
use Rattle.ksv_memo.proofs.Common.{cond, ◌||◌, ◌&&◌, nat_eq, List, [], ◌∷◌, map, filter, Contains, refl, sym, ◌∙◌, ap, inl, inr, eq-eqb, AllByRecursion}
use Rattle.ksv_memo.proofs.Common.{list_any, or_parts, Decides-ltb, IsDistinct-head, IsDistinct-tail, Use, Change, Overwrite, Insert, Delete, Append, Makes}
use Rattle.ksv_memo.proofs.Common.{is_use_touched, Meaning, Standing, IsLawful, IsSettled, on, is_among, tells, Entry, nodes_of, AreDistinct, AreExactly}
use Rattle.ksv_memo.proofs.Common.{StandsIn, IsRight, IsOneOf, pages_in, pages_to, Mark, IsMarked, entries_left, Sweeps, law_on, All-map, All-both, none_pass}
use Rattle.ksv_memo.proofs.Common.{eqb_true, AreDistinct-none, IsIn}
use Rattle.std.proofs.Common.{Any}
use Rattle.std.specs.Bool.{Decides}
use Rattle.std.proofs.Math.Bool.{and-false}
use Rattle.std.proofs.lemmas.Bool.{or_right}
use Rattle.std.proofs.lemmas.Bool.Decides.{Decides-and, Decides-not}
use Rattle.std.proofs.lemmas.List.Elements.{All-contains_itself, recursion_from_All}
use Rattle.std.proofs.lemmas.List.Folds.{Any-from_list_any, list_any-from_Any}
use Rattle.std.proofs.lemmas.Map.Keys.{IsDistinct-cons}
use Rattle.ksv_bytes.specs.Uses.{Touches}
use Rattle.ksv_bytes.proofs.Untouched.{use_touched, untouched_use}
use Rattle.ksv_memo_rules.specs.Touched.{IsTouched, is_hit, is_touched, tree, left_after}
use Rattle.ksv_memo_links.specs.Touching.{ends_in}
use Rattle.ksv_memo_links.specs.Links.{IsMove, IsOverwrite, first_page, pages_met, pages_behind, ended_by}
use Rattle.ksv_memo_links.proofs.Touches.{EndsPast, uses-meet, insert-past, delete-past, append-ends}
use Rattle.ksv_memo.specs.Near.{IsWrite, LooksNear, gone_of}
use Rattle.ksv_memo.specs.Behind.{LooksBehind}
use Rattle.ksv_memo.specs.Sweep.{AllSay, entries_with as entries_in, entries_gone}
use Rattle.ksv_memo_rules.proofs.Standins.{touched-parts, answered-by, stands-among}
use Rattle.ksv_memo.proofs.Change.{untouched-stays}
use Rattle.ksv_memo.proofs.Laying.{one_of-all}

-- ---- the tests
Any-map : {X : Type 0} (P Q : X → Type 0) → ((x : X) → P x → Q x) → (xs : List X) → Any P xs → Any Q xs
Any-map P Q f xs h = (h.0, h.1, h.2, h.3, f h.1 h.4)

-- some element passes exactly if the test's fact holds of some element
any_decides : {X : Type 0} (p : X → Bool) (P : X → Type 0) → ((x : X) → Decides (p x) (P x)) → (xs : List X) → Decides (list_any p xs) (Any P xs)
any_decides p P each xs = (
  λ e. Any-map (λ x. p x ≡ true) P (λ x h. (each x).0 h) xs (Any-from_list_any p xs e),
  λ h. list_any-from_Any p xs
      (Any-map P (λ x. p x ≡ true) (λ x k. (each x).1 k) xs h),
)

pub touched_decides : {N A : Type 0} (w : Standing N A) (change : Change) (n : N) → Decides (is_touched w change n) (IsTouched w change n)
touched_decides w change n = any_decides (is_hit w change) (λ m. Any (Touches change) (tells w [] m).uses)
    (λ m. any_decides (is_use_touched change) (Touches change) (use_touched change) (tells w [] m).uses) (tree w n)

-- what holds of each entry, should it stay, holds of those that stay
pub stay-all : {N A : Type 0} (P : Entry N A → Type 0) (ks : List (Mark N A)) → AllByRecursion (λ k. k.goes ≡ false → P k.entry) ks
    → AllByRecursion P (entries_left ks)
stay-all P [] h = tt
stay-all {N} {A} P (k ∷ ks) h = by k.goes refl (stay-all P ks h.1)
  where
    by : (b : Bool) → k.goes ≡ b → AllByRecursion P (entries_left ks)
        → AllByRecursion P (entries_in (cond (not b) (k ∷ filter (λ k. not k.goes) ks) (filter (λ k. not k.goes) ks)))
    by true e rest = rest
    by false e rest = (h.0 e, rest)

-- what holds of all entries, by their marks
pub by_mark : {N A : Type 0} (P : Entry N A → Type 0) (ks : List (Mark N A)) → AllByRecursion P (entries_in ks) → AllByRecursion (λ k. P k.entry) ks
by_mark P [] h = tt
by_mark P (k ∷ ks) h = (h.0, by_mark P ks h.1)

pub All-entries_left : {N A : Type 0} (P : Entry N A → Type 0) (ks : List (Mark N A)) → AllByRecursion P (entries_in ks) → AllByRecursion P (entries_left ks)
All-entries_left P ks h = stay-all P ks (All-map (λ k p e. p) ks (by_mark P ks h))

module _ {N A : Type 0} (w : Standing N A) where
  numbers-entries_left : (P : ℕ → Type 0) (ks : List (Mark N A)) → AllByRecursion P (map w.number (nodes_of (entries_in ks)))
      → AllByRecursion P (map w.number (nodes_of (entries_left ks)))
  numbers-entries_left P [] h = tt
  numbers-entries_left P (k ∷ ks) h = by k.goes (numbers-entries_left P ks h.1)
    where
      by : (b : Bool) → AllByRecursion P (map w.number (nodes_of (entries_left ks)))
          → AllByRecursion P (map w.number (nodes_of (entries_in (cond (not b) (k ∷ filter (λ k. not k.goes) ks) (filter (λ k. not k.goes) ks)))))
      by true rest = rest
      by false rest = (h.0, rest)

  distinct-entries_left : (ks : List (Mark N A)) → AreDistinct w (nodes_of (entries_in ks)) → AreDistinct w (nodes_of (entries_left ks))
  distinct-entries_left [] h = AreDistinct-none w
  distinct-entries_left (k ∷ ks) h =
      by k.goes (distinct-entries_left ks (IsDistinct-tail nat_eq (w.number k.entry.node) (map w.number (nodes_of (entries_in ks))) h))
    where
      by : (b : Bool) → AreDistinct w (nodes_of (entries_left ks))
          → AreDistinct w (nodes_of (entries_in (cond (not b) (k ∷ filter (λ k. not k.goes) ks) (filter (λ k. not k.goes) ks))))
      by true rest = rest
      by false rest = IsDistinct-cons nat_eq (w.number k.entry.node) (map w.number (nodes_of (entries_left ks)))
          (numbers-entries_left (λ y. nat_eq (w.number k.entry.node) y ≡ false) ks
          (IsDistinct-head nat_eq (w.number k.entry.node) (map w.number (nodes_of (entries_in ks))) h)) rest

-- what stays has no touched use
pub stays-free : {N A : Type 0} {change : Change} {all : List (Mark N A)} (k : Mark N A) → IsMarked change all k → k.goes ≡ false
    → AllByRecursion (λ u. is_use_touched change u ≡ false) k.entry.uses
stays-free {change = change} k m e = none_pass (is_use_touched change) k.entry.uses
    (or_parts (list_any (is_use_touched change) k.entry.uses) (list_any (λ b. b) m.asked) (sym m.goes ∙ e)).0

free-entries_left : {N A : Type 0} (change : Change) (before ks : List (Mark N A)) → AllByRecursion (IsMarked change before) ks
    → AllByRecursion (λ e. AllByRecursion (λ used. Touches change used → ⊥) e.uses) (entries_left ks)
free-entries_left change before ks h = stay-all (λ e. AllByRecursion (λ used. Touches change used → ⊥) e.uses) ks
    (All-map (λ k m e. All-map (untouched_use change) k.entry.uses (stays-free k m e)) ks h)

module _ {N A : Type 0} (w : Standing N A) where
  -- the mark of an entry says whether its node is touched
  abbrev pub IsTold : Change → Mark N A → Type 0
  IsTold change k = k.goes ≡ is_touched w change k.entry.node

  left_here : (change : Change) (k : Mark N A) (ks : List (Mark N A)) → IsTold change k
      → nodes_of (entries_left ks) ≡ left_after w change (nodes_of (entries_in ks))
      → nodes_of (entries_left (k ∷ ks)) ≡ left_after w change (nodes_of (entries_in (k ∷ ks)))
  left_here change k ks told rest = by k.goes (is_touched w change k.entry.node) told
    where
      by : (b c : Bool) → b ≡ c → nodes_of (entries_in (cond (not b) (k ∷ filter (λ k. not k.goes) ks) (filter (λ k. not k.goes) ks)))
          ≡ cond (not c) (k.entry.node ∷ left_after w change (nodes_of (entries_in ks))) (left_after w change (nodes_of (entries_in ks)))
      by true true e = rest
      by false false e = ap (λ ns. k.entry.node ∷ ns) rest
      by true false e = absurd (cc)
      by false true e = absurd (cc)

  -- where each does, those nodes stay that aren't touched
  left_nodes : (change : Change) (ks : List (Mark N A)) → AllByRecursion (IsTold change) ks
      → nodes_of (entries_left ks) ≡ left_after w change (nodes_of (entries_in ks))
  left_nodes change [] told = refl
  left_nodes change (k ∷ ks) told = left_here change k ks told.0 (left_nodes change ks told.1)

  gone_here : (change : Change) (k : Mark N A) (ks : List (Mark N A)) → IsTold change k → entries_gone ks ≡ gone_of w change (entries_in ks)
      → entries_gone (k ∷ ks) ≡ gone_of w change (entries_in (k ∷ ks))
  gone_here change k ks told rest = by k.goes (is_touched w change k.entry.node) told
    where
      by : (b c : Bool) → b ≡ c → entries_in (cond b (k ∷ filter (λ k. k.goes) ks) (filter (λ k. k.goes) ks))
          ≡ cond c (k.entry ∷ gone_of w change (entries_in ks)) (gone_of w change (entries_in ks))
      by true true e = ap (λ es. k.entry ∷ es) rest
      by false false e = rest
      by true false e = absurd (cc)
      by false true e = absurd (cc)

  -- and those go that are
  gone_nodes : (change : Change) (ks : List (Mark N A)) → AllByRecursion (IsTold change) ks → entries_gone ks ≡ gone_of w change (entries_in ks)
  gone_nodes change [] told = refl
  gone_nodes change (k ∷ ks) told = gone_here change k ks told.0 (gone_nodes change ks told.1)

-- ---- what goes has an ask or meets a page
write-over : (change : Change) → IsWrite change → IsOverwrite change
write-over (Overwrite at n) h = tt
write-over _ h = absurd h

pages-some : (change : Change) → IsWrite change → 1 ≤ pages_met change
pages-some (Overwrite at n) h = omega arith
pages-some _ h = absurd h

some-ask : {N A : Type 0} (all : List (Mark N A)) (ms : List N) (bs : List Bool) → AllSay all ms bs → list_any (λ b. b) bs ≡ true → 1 ≤ length ms
some-ask all [] [] h e = absurd (cc)
some-ask all [] (b ∷ bs) h e = absurd h
some-ask all (m ∷ ms) bs h e = omega arith

-- ---- what goes by another edit has an ask, or meets a page, or uses the size, or reaches after the place
count-some : (p : ℕ → Bool) (xs : List ℕ) (k x : ℕ) → k < length xs → get_or xs k x ≡ x → p x ≡ true → 1 ≤ count_by p xs
count-some p [] k x lt is e = absurd (omega arith)
count-some p (y ∷ ys) zero x lt is e =
    let s : count_by p (y ∷ ys) ≡ cond (p y) 1 0 + count_by p ys = sum_by-cons (λ z. cond (p z) 1 0) y ys in
    let one : cond {A = ℕ} (p y) 1 0 ≡ 1 = ap (λ b. cond {A = ℕ} b 1 0) (ap p is ∙ e) in
    omega arith
count-some p (y ∷ ys) (suc k) x lt is e =
    let s : count_by p (y ∷ ys) ≡ cond (p y) 1 0 + count_by p ys = sum_by-cons (λ z. cond (p z) 1 0) y ys in
    let r : 1 ≤ count_by p ys = count-some p ys k x (omega arith) is e in
    omega arith

some-past : (at : ℕ) (us : List Use) → EndsPast at us → 1 ≤ length (pages_in us) + count_by (λ l. nat_eq l 0 || nat_lt (first_page at) l) (ends_in us)
some-past at us (inl (g, c, le)) = omega arith
some-past at us (inr (l, c, inl z)) =
    omega (arith, count-some (λ l. nat_eq l 0 || nat_lt (first_page at) l) (ends_in us) c.0 l c.1 c.2 (ap (λ b. b || nat_lt (first_page at) l) (eq-eqb l 0 z)))
some-past at us (inr (l, c, inr lt)) =
    omega (
      arith,
      count-some (λ l. nat_eq l 0 || nat_lt (first_page at) l) (ends_in us) c.0 l c.1 c.2
          (or_right (nat_eq l 0) (nat_lt (first_page at) l) ((Decides-ltb (first_page at) l).1 lt)),
    )

some-behind : (change : Change) (us : List Use) → list_any (is_use_touched change) us ≡ true → 1 ≤ length (pages_in us) + ended_by change us
some-behind (Overwrite at n) us e = omega (arith, uses-meet at n us e)
some-behind (Insert at n) us e = some-past at us (insert-past at n us e)
some-behind (Delete at n) us e = some-past at us (delete-past at n us e)
some-behind Append us e = let c = append-ends us e in omega (arith, count-some (λ l. nat_eq l 0) (ends_in us) c.0 0 c.1 c.2 refl)

-- an overwrite counts no end
none-ended : {N A : Type 0} (change : Change) (es : List (Entry N A)) → IsOverwrite change → sum_by (λ e. ended_by change e.uses) es ≡ 0
none-ended change [] over = refl
none-ended {N} {A} (Overwrite at n) (e ∷ es) over = omega (arith, sum_by-cons (λ (x : Entry N A). 0) e es, none-ended (Overwrite at n) es over)
none-ended _ (e ∷ es) over = absurd over

one-behind : {N A : Type 0} (change : Change) (all : List (Mark N A)) (k : Mark N A) → IsMarked change all k → k.goes ≡ true
    → 1 ≤ length k.entry.asked + length (pages_in k.entry.uses) + ended_by change k.entry.uses
one-behind change all k mark goes = by (list_any (is_use_touched change) k.entry.uses) refl (list_any (λ b. b) mark.asked) refl
  where
    by : (a : Bool) → list_any (is_use_touched change) k.entry.uses ≡ a → (b : Bool) → list_any (λ b. b) mark.asked ≡ b
        → 1 ≤ length k.entry.asked + length (pages_in k.entry.uses) + ended_by change k.entry.uses
    by true e b f = omega (arith, some-behind change k.entry.uses e)
    by false e true f = omega (arith, some-ask all k.entry.asked mark.asked mark.say f)
    by false e false f = let no : true ≡ (false || false) = sym goes ∙ mark.goes ∙ (λ i. e i || f i) in absurd (cc)

gone-behind : {N A : Type 0} (change : Change) (all ks : List (Mark N A)) → AllByRecursion (IsMarked change all) ks
    → length (entries_gone ks) ≤ sum_by (λ e. length e.asked) (entries_gone ks) + sum_by (λ e. length (pages_in e.uses)) (entries_gone ks)
    + sum_by (λ e. ended_by change e.uses) (entries_gone ks)
gone-behind change all [] h = omega arith
gone-behind {N} {A} change all (k ∷ ks) h = by k.goes refl (gone-behind change all ks h.1)
  where
    P : List (Entry N A) → Type 0
    P es = length es ≤ sum_by (λ e. length e.asked) es + sum_by (λ e. length (pages_in e.uses)) es + sum_by (λ e. ended_by change e.uses) es

    by : (b : Bool) → k.goes ≡ b → P (entries_gone ks) → P (entries_in (cond b (k ∷ filter (λ k. k.goes) ks) (filter (λ k. k.goes) ks)))
    by false e rest = rest
    by true e rest =
        omega (
          arith,
          one-behind change all k h.0 e,
          sum_by-cons (λ (e : Entry N A). length e.asked) k.entry (entries_gone ks),
          sum_by-cons (λ (e : Entry N A). length (pages_in e.uses)) k.entry (entries_gone ks),
          sum_by-cons (λ (e : Entry N A). ended_by change e.uses) k.entry (entries_gone ks),
        )

-- a sum over what goes is no more than over all
gone-less : {N A : Type 0} (p : Entry N A → ℕ) (ks : List (Mark N A)) → sum_by p (entries_gone ks) ≤ sum_by p (entries_in ks)
gone-less p [] = omega arith
gone-less {N} {A} p (k ∷ ks) = by k.goes (gone-less p ks)
  where
    by : (b : Bool) → sum_by p (entries_gone ks) ≤ sum_by p (entries_in ks)
        → sum_by p (entries_in (cond b (k ∷ filter (λ k. k.goes) ks) (filter (λ k. k.goes) ks))) ≤ sum_by p (entries_in (k ∷ ks))
    by false rest = omega (arith, sum_by-cons p k.entry (entries_in ks))
    by true rest = omega (arith, sum_by-cons p k.entry (entries_in ks), sum_by-cons p k.entry (entries_gone ks))

module _ {N A : Type 0} (w : Standing N A) (law : IsSettled w) where
  -- ---- what is left of a list, as a set
  among_cases : (p : N → Bool) (m n : N) (ns : List N) → is_among w.number (filter p ns) n ≡ (is_among w.number ns n && p n) → (a : Bool)
      → nat_eq (w.number n) (w.number m) ≡ a → (b : Bool) → p m ≡ b
      → is_among w.number (cond b (m ∷ filter p ns) (filter p ns)) n ≡ ((a || is_among w.number ns n) && p n)
  among_cases p m n ns rest true e true f = cc (law.own_number n m (eqb_true (w.number n) (w.number m) e))
  among_cases p m n ns rest true e false f = let fails : p n ≡ false = ap p (law.own_number n m (eqb_true (w.number n) (w.number m) e)) ∙ f in
      cc (and-false (is_among w.number ns n))
  among_cases p m n ns rest false e true f = cc
  among_cases p m n ns rest false e false f = rest

  among-filter : (p : N → Bool) (ns : List N) (n : N) → is_among w.number (filter p ns) n ≡ (is_among w.number ns n && p n)
  among-filter p [] n = refl
  among-filter p (m ∷ ns) n = among_cases p m n ns (among-filter p ns n) _ refl _ refl

  pub left-decides : (change : Change) (ns : List N) (n : N)
      → Decides (is_among w.number (left_after w change ns) n) ((is_among w.number ns n ≡ true) × (IsTouched w change n → ⊥))
  left-decides change ns n =
      rw (among-filter (λ m. not (is_touched w change m)) ns n) (Decides-and (is_among w.number ns n) (not (is_touched w change n)) (λ e. e, λ e. e)
      (Decides-not (is_touched w change n) (touched_decides w change n)))

  -- lists with the same members have the same members left
  pub left_after-same : (change : Change) (ns ms : List N) → ((x : N) → is_among w.number ns x ≡ is_among w.number ms x) → (x : N)
      → is_among w.number (left_after w change ns) x ≡ is_among w.number (left_after w change ms) x
  left_after-same change ns ms same x = cc (among-filter (λ m. not (is_touched w change m)) ns x, same x, among-filter (λ m. not (is_touched w change m)) ms x)

  -- ---- the marks
  said : (change : Change) (all : List (Mark N A)) (n : ℕ) → ((k : Mark N A) → IsOneOf all k → length (tree w k.entry.node) < n → IsTold w change k)
      → (ms : List N) → AllByRecursion (λ m. length (tree w m) < n) ms → (bs : List Bool) → AllSay all ms bs
      → list_any (λ b. b) bs ≡ list_any (is_touched w change) ms
  said change all n told [] few [] h = refl
  said change all n told (m ∷ ms) few (b ∷ bs) h = let short : length (tree w h.0.mark.entry.node) < n = rw h.0.node few.0 in
      let here : b ≡ is_touched w change m = cc (told h.0.mark h.0.there short) in
      cc (said change all n told ms few.1 bs h.1)
  said _ _ _ _ _ _ _ h = absurd h

  -- each mark says whether the node is touched, by the length of its tree
  mark-told : (change : Change) (kept : List N) (all : List (Mark N A)) → AllByRecursion (IsMarked change all) all
      → AllByRecursion (λ k. StandsIn w kept k.entry) all → (n : ℕ) (k : Mark N A) → IsOneOf all k → length (tree w k.entry.node) < n → IsTold w change k
  mark-told change kept all marked right zero k m lt = absurd (omega arith)
  mark-told change kept all marked right (suc n) k m lt =
      let mark : IsMarked change all k = one_of-all (IsMarked change all) all marked k m in
      let is : StandsIn w kept k.entry = one_of-all (λ (x : Mark N A). StandsIn w kept x.entry) all right k m in
      let few : AllByRecursion (λ x. length (tree w x) < n) k.entry.asked =
      All-map (λ x le. (let short : length (tree w x) < n = omega arith in short)) k.entry.asked is.lower in
      cc (said change all n (mark-told change kept all marked right n) k.entry.asked few mark.asked mark.say, is.touched change)

  marks-told : (change : Change) (kept : List N) (ks : List (Mark N A)) → AllByRecursion (IsMarked change ks) ks
      → AllByRecursion (StandsIn w kept) (entries_in ks) → AllByRecursion (IsTold w change) ks
  marks-told change kept ks marked right = each ks (λ k m. m)
    where
      each : (xs : List (Mark N A)) → ((k : Mark N A) → IsOneOf xs k → IsOneOf ks k) → AllByRecursion (IsTold w change) xs
      each [] inside = tt
      each (k ∷ xs) inside = (
        mark-told change kept ks marked (by_mark (StandsIn w kept) ks right) (suc (length (tree w k.entry.node))) k (inside k (inl refl)) (omega arith),
        each xs
            (λ x m. inside x (inr m)),
      )

  -- ---- what the pass leaves
  -- an entry that stays isn't touched
  free : (change : Change) (ks : List (Mark N A)) → AllByRecursion (IsTold w change) ks
      → AllByRecursion (λ (e : Entry N A). is_touched w change e.node ≡ false) (entries_left ks)
  free change ks told = stay-all (λ (e : Entry N A). is_touched w change e.node ≡ false) ks (All-map (λ k t e. sym t ∙ e) ks told)

  module _ (change : Change) (ks : List (Mark N A)) (right : IsRight w (entries_in ks)) (told : AllByRecursion (IsTold w change) ks) where
    -- what isn't touched is left
    stays : (m : N) → IsIn w (nodes_of (entries_in ks)) m → is_touched w change m ≡ false → IsIn w (nodes_of (entries_left ks)) m
    stays m inside e =
        ap (λ ns. is_among w.number ns m) (left_nodes w change ks told) ∙ among-filter (λ x. not (is_touched w change x)) (nodes_of (entries_in ks)) m
        ∙ (λ j. inside j && not (e j))

    -- so is all that an untouched node asked, and what its entry names
    still : (e : Entry N A) → StandsIn w (nodes_of (entries_in ks)) e → is_touched w change e.node ≡ false → StandsIn w (nodes_of (entries_left ks)) e
    still e is untouched =
        let left : (ms : List N) → AllByRecursion (IsIn w (nodes_of (entries_in ks))) ms → list_any (is_touched w change) ms ≡ false
        → AllByRecursion (IsIn w (nodes_of (entries_left ks))) ms =
        λ ms inside none. All-both (IsIn w (nodes_of (entries_in ks))) (λ m. is_touched w change m ≡ false) (IsIn w (nodes_of (entries_left ks))) stays
        ms inside (none_pass (is_touched w change) ms none) in
        let asked = (or_parts (is_hit w change e.node) (list_any (is_touched w change) (tells w [] e.node).asked)
        (sym (touched-parts w law change e.node (answered-by w (nodes_of (entries_in ks)) e is)) ∙ untouched)).1 in
        let names = (or_parts (list_any (is_use_touched change) e.uses) (list_any (is_touched w change) e.asked) (sym (is.touched change) ∙ untouched)).1 in
        stands-among w (nodes_of (entries_in ks)) (nodes_of (entries_left ks)) e is (left (tells w [] e.node).asked is.closed asked)
        (left e.asked is.named names)

    -- what stays is right on the same bytes
    right-entries_left : IsRight w (entries_left ks)
    right-entries_left = record {
      each = All-both (StandsIn w (nodes_of (entries_in ks))) (λ (e : Entry N A). is_touched w change e.node ≡ false) (StandsIn w (nodes_of (entries_left ks)))
          still _ (All-entries_left (StandsIn w (nodes_of (entries_in ks))) ks right.each) (free change ks told);
      once = distinct-entries_left w ks right.once;
    }

  module _ (change : Change) (pages : ℕ) (es all : List (Entry N A)) (looked : ℕ) (right : IsRight w es) (sweeps : Sweeps change pages es all looked) where
    right_marks : IsRight w (entries_in sweeps.marks)
    right_marks = rw sweeps.entries right

    told : AllByRecursion (IsTold w change) sweeps.marks
    told = marks-told change (nodes_of (entries_in sweeps.marks)) sweeps.marks sweeps.marked right_marks.each

    -- those nodes stay that have no touched use in their tree, and no others
    pub forgets : IsRight w all × AreExactly w (nodes_of all) (left_after w change (nodes_of es))
    forgets =
        let stays : IsRight w all = rw sweeps.stays (right-entries_left change sweeps.marks right_marks told) in
        let same : nodes_of all ≡ left_after w change (nodes_of es) = cc (left_nodes w change sweeps.marks told) in
        (stays, record { once = stays.once; same = λ x. ap (λ ns. is_among w.number ns x) same })

    -- and the looks are near
    pub looks-near : IsWrite change → LooksNear w change es looked
    looks-near wrote =
        let gone : entries_gone sweeps.marks ≡ gone_of w change es = cc (gone_nodes w change sweeps.marks told) in
        let over : IsOverwrite change = write-over change wrote in
        let pages = pages-some change wrote in
        let few = gone-behind change sweeps.marks sweeps.marks sweeps.marked in
        let none = none-ended change (entries_gone sweeps.marks) over in
        let most = sweeps.most over in
        record {
          least = rw gone at sweeps.least;
          most = rw (← gone) (omega arith);
        }

    -- and those of another edit are after its place
    pub looks-behind : (reach : ℕ) → pages ≡ pages_to reach → IsMove change → LooksBehind w change reach es looked
    looks-behind reach is moves =
        let gone : entries_gone sweeps.marks ≡ gone_of w change es = cc (gone_nodes w change sweeps.marks told) in
        let few = gone-behind change sweeps.marks sweeps.marks sweeps.marked in
        let less = gone-less (λ e. ended_by change e.uses) sweeps.marks in
        let all_of = ap (sum_by (λ e. ended_by change e.uses)) sweeps.entries in
        let to = ap (pages_behind change) is in
        let most = sweeps.behind moves in
        record {
          least = rw gone at sweeps.least;
          most = rw (← gone) (omega arith);
        }

-- and it is right for the bytes after the edit
pub forgets-right : {N A : Type 0} (meaning : Meaning N A) → IsLawful meaning → (change : Change) (before after : List ℕ) → Makes change before after
    → (pages : ℕ) (es all : List (Entry N A)) (looked : ℕ) → Sweeps change pages es all looked → IsRight (on meaning before) es
    → IsRight (on meaning after) all
forgets-right {N} {A} meaning law change before after made pages es all looked sweeps right =
    untouched-stays _ law change before after made _ (forgets _ (law_on meaning law before) _ _ _ _ _ right sweeps).0
    (rw sweeps.stays (free-entries_left change sweeps.marks sweeps.marks sweeps.marked))

-- it was kept before
pub forgets-kept : {N A : Type 0} (change : Change) (pages : ℕ) (es all : List (Entry N A)) (looked : ℕ) → Sweeps change pages es all looked
    → AllByRecursion (Contains es) all
forgets-kept {N} {A} change pages es all looked sweeps =
    rw sweeps.stays (All-entries_left (Contains es) sweeps.marks (rw sweeps.entries (recursion_from_All (Contains es) es (All-contains_itself es))))
