-- The slots that were emptied are those of the entries that a change takes.
use Rattle.ksv_memo.proofs.Common.{◌≡◌, ◌⊎◌, inl, inr, Bool, true, false, not, cond, ◌||◌, ◌&&◌, ℕ, zero, suc, ◌+◌, ◌-◌, ◌*◌, ◌<◌, ◌≤◌, List, [], ◌∷◌, length}
use Rattle.ksv_memo.proofs.Common.{map, filter, get_or, Option, Some, None, is_some, Contains, refl, sym, ◌∙◌, ap, subst, arith, Result, sum_by, count_by}
use Rattle.ksv_memo.proofs.Common.{option_map, AllByRecursion, list_any, sum_by-cons, Use, Change, Overwrite, row, is_use_touched}
use Rattle.ksv_memo.proofs.Common.{pages_in, numbers_from, AreWithin, is_kept, Linked, Slot, answer_at, with_first, Entry, IsOneOf, slots_of, node_at, nodes_at}
use Rattle.ksv_memo.proofs.Common.{IsKept, entry_with, entry_at, entries_at, entries_of, AreLinked, Mark, entries_left}
use Rattle.std.proofs.Common.{max, All}
use Rattle.std.proofs.lemmas.Bool.{and_parts, cases_Bool, not-true}
use Rattle.std.proofs.lemmas.List.{get_or_default}
use Rattle.std.proofs.lemmas.List.Sums.{length-filter}
use Rattle.std.proofs.lemmas.List.Folds.{Any-from_list_any, list_any-from_Any}
use Rattle.std.proofs.lemmas.List.Elements.{Contains-get_or}
use Rattle.ksv_memo_links.specs.Links.{Forgets, GoesItself, Reaches, here, through, is_hit, IsMove, IsOverwrite, pages_met, met_by, pages_behind, behind_by}
use Rattle.ksv_memo_links.specs.Links.{ended_by, asks_of}
use Rattle.ksv_memo.specs.Lending.{AreSlotsOf}
use Rattle.ksv_memo.specs.Sweep.{IsMarkedBy, SweepsBy, Says, AllSay, entries_with, entries_gone}
use Rattle.ksv_memo.specs.Emptying.{IsEmptied, parts_of}
use Rattle.ksv_memo.proofs.Knowing.{sum-shift, find_entry}
use Rattle.ksv_memo.proofs.Sums.{one_of-contains, differ, numbers-differ, filter-differ, filter-passes, sum-within, sum-alike}
use Rattle.ksv_memo.proofs.Laying.{some-of, one_of-all, kept_node, no_entry_at, number_in}

any-of-map : {X : Type 0} (p : X → Bool) (xs : List X) → list_any (λ b. b) (map p xs) ≡ list_any p xs
any-of-map p [] = refl
any-of-map p (x ∷ xs) = ap (λ b. p x || b) (any-of-map p xs)

each-of : (P : ℕ → Type 0) (xs : List ℕ) → ((x : ℕ) → IsOneOf xs x → P x) → AllByRecursion P xs
each-of P [] h = tt
each-of P (x ∷ xs) h = (h x (inl refl), each-of P xs (λ y m. h y (inr m)))

one_of-back : (xs : List ℕ) (x : ℕ) → IsOneOf xs x → Contains xs x
one_of-back [] x h = absurd h
one_of-back (y ∷ xs) x (inl e) = (0, (let l : 0 < length (y ∷ xs) = omega arith in l), e)
one_of-back (y ∷ xs) x (inr h) = let c = one_of-back xs x h in (suc c.0, (let l : suc c.0 < length (y ∷ xs) = omega arith in l), c.2)

met_none : (change : Change) → met_by change [] ≡ 0
met_none (Overwrite at n) = refl
met_none _ = refl

behind_none : (change : Change) → behind_by change [] ≡ 0
behind_none (Overwrite at n) = refl
behind_none _ = refl

ended_none : (change : Change) → ended_by change [] ≡ 0
ended_none (Overwrite at n) = refl
ended_none _ = refl

-- a sum over rows is no more than one over the numbers of the rows that count
rows-numbers : (f : List Use → ℕ) (g : ℕ → ℕ) (rows : List (List Use)) (n : ℕ) → f [] ≡ 0 → ((i : ℕ) → f (row rows i) ≤ g i)
    → ((i : ℕ) → n ≤ i → f (row rows i) ≡ 0) → sum_by f rows ≤ sum_by g (numbers_from 0 n)
rows-numbers f g [] n z h k = omega arith
rows-numbers f g (x ∷ rows) zero z h k =
    let c = sum_by-cons f x rows in
    let a : f x ≡ 0 = k 0 (omega arith) in
    let rest : sum_by f rows ≤ 0 = rows-numbers f (λ i. g (suc i)) rows zero z (λ i. h (suc i)) (λ i le. k (suc i) (omega arith)) in
    omega arith
rows-numbers f g (x ∷ rows) (suc n) z h k =
    let c = sum_by-cons f x rows in
    let d = sum_by-cons g 0 (numbers_from (0 + 1) n) in
    let a : f x ≤ g 0 = h 0 in
    omega (arith, rows-numbers f (λ i. g (suc i)) rows n z (λ i. h (suc i)) (λ i le. k (suc i) (omega arith)), sum-shift g 0 n)

module _ {N V F : Type 0} where
  none_after : (ps : List (N × Slot V F)) (i : ℕ) → length ps ≤ i → answer_at (slots_of ps) i ≡ None
  none_after [] i le = refl
  none_after (p ∷ ps) zero le = absurd (omega arith)
  none_after (p ∷ ps) (suc i) le = none_after ps i (omega arith)

  -- what an entry is
  pub entry_parts : (o : Option N) (b : Option (Result V F)) (asked : List N) (uses : List Use) (e : Entry N (Result V F)) → entry_with o b asked uses ≡ Some e
      → (is_some b ≡ true) × (e.asked ≡ asked) × (e.uses ≡ uses) × (o ≡ Some e.node)
  entry_parts (Some n) (Some a) asked uses e is = let same : record { node = n; answer = a; asked = asked; uses = uses } ≡ e = cc in (
    refl,
    ap (λ x. x.asked) (sym same),
    ap (λ x. x.uses) (sym same),
    ap
        (λ (x : Entry N (Result V F)). Some x.node) same,
  )
  entry_parts _ _ asked uses e is = absurd (cc)

  nodes-alike : (ps qs : List (N × Slot V F)) → ((i : ℕ) → node_at qs i ≡ node_at ps i) → (is : List ℕ) → nodes_at qs is ≡ nodes_at ps is
  nodes-alike ps qs h [] = refl
  nodes-alike ps qs h (i ∷ is) = (λ j. with_first (h i j) (nodes-alike ps qs h is j))

  past : (ps : List (N × Slot V F)) (i : ℕ) → IsKept ps i → i < length ps
  past [] i h = absurd (cc)
  past (p ∷ ps) zero h = omega arith
  past (p ∷ ps) (suc i) h = omega (arith, past ps i h)

  -- what holds of the uses of all entries holds of those of each kept slot
  pub kept-within : (pages : ℕ) (ps : List (N × Slot V F)) (l : Linked) → AreLinked ps l → AllByRecursion (λ e. AreWithin pages e.uses) (entries_of ps l)
      → (s : ℕ) → is_kept l.kept s ≡ true → AreWithin pages (row l.uses s)
  kept-within pages ps l h all s k =
      let kept : IsKept ps s = sym (h.kept s) ∙ k in
      let node = some-of (node_at ps s) (kept_node ps s kept) in
      let answer = some-of (answer_at (slots_of ps) s) kept in
      let x : Entry N (Result V F) = record { node = node.0; answer = answer.0; asked = nodes_at ps (row l.asked s); uses = row l.uses s } in
      let at : entry_at ps l s ≡ Some x = λ j. entry_with (node.1 j) (answer.1 j) (nodes_at ps (row l.asked s)) (row l.uses s) in
      let lt = past ps s kept in
      one_of-all (λ (e : Entry N (Result V F)). AreWithin pages e.uses) (entries_of ps l) all x
      (find_entry ps l (numbers_from 0 (length ps)) s x (number_in 0 (length ps) s (omega arith) (omega arith)) at)

  -- the slots that go are there
  pub waits-in : (change : Change) (also : List ℕ) (ps : List (N × Slot V F)) (l m : Linked) → AreLinked ps l → Forgets l m change also
      → All (λ s. s < length ps) m.waits
  waits-in change also ps l m h f k d lt = past _ _
      (sym (h.kept (get_or m.waits k d)) ∙ ((f.exact (get_or m.waits k d)).0 (Contains-get_or m.waits k d lt)).was_kept)

  module _ (itself : N → Bool) (change : Change) (also : List ℕ) (ps qs : List (N × Slot V F)) (l m n : Linked) (from count : ℕ) (h : AreLinked ps l)
      (those : AreSlotsOf itself ps also) (f : Forgets l m change also) (g : IsEmptied ps qs m n from count) where
    abbrev goes : ℕ → Bool
    goes i = not (is_kept m.kept i)

    abbrev mark_of : ℕ → Entry N (Result V F) → Mark N (Result V F)
    mark_of i e = record { entry = e; goes = goes i }

    abbrev mark_at : ℕ → Option (Mark N (Result V F))
    mark_at i = option_map (mark_of i) (entry_at ps l i)

    abbrev pub marks_at : List ℕ → List (Mark N (Result V F))
    marks_at [] = []
    marks_at (i ∷ is) = with_first (mark_at i) (marks_at is)

    abbrev pub all_marks : List (Mark N (Result V F))
    all_marks = marks_at (numbers_from 0 (length ps))

    pub entries : (is : List ℕ) → entries_with (marks_at is) ≡ entries_at ps l is
    entries [] = refl
    entries (i ∷ is) = cc (by (entry_at ps l i), entries is)
      where
        by : (o : Option (Entry N (Result V F))) → entries_with (with_first (option_map (mark_of i) o) (marks_at is))
            ≡ with_first o (entries_with (marks_at is))
        by None = refl
        by (Some e) = refl

    -- ---- what goes
    was : (i : ℕ) → Contains m.waits i → is_kept l.kept i ≡ true
    was i c = ((f.exact i).0 c).was_kept

    pub taken : (i : ℕ) → IsKept ps i → is_kept m.kept i ≡ false → Contains m.waits i
    taken i k e = f.went i (h.kept i ∙ k) e

    pub out : (i : ℕ) → Contains m.waits i → is_kept m.kept i ≡ false
    out i c = elim (cases_Bool (is_kept m.kept i)) [
      | inl e ↦ absurd (((f.kept i).0 e).1 c)
      | inr e ↦ e
    ]

    stay : (i : ℕ) → is_kept m.kept i ≡ true → Contains m.waits i → ⊥
    stay i e = ((f.kept i).0 e).1

    -- an entry stays, or there is none
    now_none : (i : ℕ) → answer_at (slots_of ps) i ≡ None → answer_at (slots_of qs) i ≡ None
    now_none i e = g.taken.same i (λ c. (let yes = sym (h.kept i) ∙ was i c in let no : is_some (answer_at (slots_of ps) i) ≡ false = ap is_some e in cc)) ∙ e

    still : (i : ℕ) → is_kept m.kept i ≡ true → entry_at qs n i ≡ entry_at ps l i
    still i e =
        let not_taken = stay i e in
        (λ j. entry_with (g.taken.nodes i j) (g.taken.same i not_taken j)
        (nodes-alike ps qs g.taken.nodes ((g.taken.asked i not_taken ∙ ap (λ rows. row rows i) f.asked) j) j)
        ((g.taken.uses i not_taken ∙ ap (λ rows. row rows i) f.uses) j))

    left_one : (i : ℕ) (rest : List (Mark N (Result V F))) → with_first (entry_at qs n i) (entries_left rest) ≡ entries_left (with_first (mark_at i) rest)
    left_one i rest = by (entry_at ps l i) refl (answer_at (slots_of ps) i) refl (cases_Bool (is_kept m.kept i))
      where
        stays : (o : Option (Entry N (Result V F))) (b : Bool) → b ≡ true
            → with_first o (entries_left rest) ≡ entries_left
            (with_first (option_map (λ (e : Entry N (Result V F)). record { entry = e; goes = not b }) o) rest)
        stays None b e = refl
        stays (Some x) true e = refl
        stays (Some x) false e = absurd (cc)

        gone : (o : Option (Entry N (Result V F))) (b : Bool) → b ≡ false
            → entries_left rest ≡ entries_left (with_first (option_map (λ (e : Entry N (Result V F)). record { entry = e; goes = not b }) o) rest)
        gone None b e = refl
        gone (Some x) false e = refl
        gone (Some x) true e = absurd (cc)

        by : (o : Option (Entry N (Result V F))) → entry_at ps l i ≡ o → (a : Option (Result V F)) → answer_at (slots_of ps) i ≡ a
            → (is_kept m.kept i ≡ true) ⊎ (is_kept m.kept i ≡ false)
            → with_first (entry_at qs n i) (entries_left rest) ≡ entries_left (with_first (mark_at i) rest)
        by o is a at (inl e) = cc (still i e, stays (entry_at ps l i) (is_kept m.kept i) e)
        by o is None at (inr e) = cc (no_entry_at qs n i (now_none i at), gone (entry_at ps l i) (is_kept m.kept i) e)
        by o is (Some r) at (inr e) = cc (no_entry_at qs n i (g.taken.out i (taken i (ap is_some at) e)), gone (entry_at ps l i) (is_kept m.kept i) e)

    pub stays : (is : List ℕ) → entries_at qs n is ≡ entries_left (marks_at is)
    stays [] = refl
    stays (i ∷ is) = cc (stays is, left_one i (marks_at is))

    -- ---- each mark is right
    first_in : (o : Option (Mark N (Result V F))) (ks : List (Mark N (Result V F))) (k : Mark N (Result V F)) → o ≡ Some k → IsOneOf (with_first o ks) k
    first_in None ks k e = absurd (cc)
    first_in (Some x) ks k e = let same : x ≡ k = cc in inl same

    later_in : (o : Option (Mark N (Result V F))) (ks : List (Mark N (Result V F))) (k : Mark N (Result V F)) → IsOneOf ks k → IsOneOf (with_first o ks) k
    later_in None ks k m = m
    later_in (Some x) ks k m = inr m

    find_mark : (is : List ℕ) (i : ℕ) (k : Mark N (Result V F)) → IsOneOf is i → mark_at i ≡ Some k → IsOneOf (marks_at is) k
    find_mark [] i k c e = absurd c
    find_mark (j ∷ is) i k (inl same) e = first_in _ (marks_at is) k (cc)
    find_mark (j ∷ is) i k (inr c) e = later_in (mark_at j) (marks_at is) k (find_mark is i k c e)

    say-all : (is : List ℕ) → AllByRecursion (IsKept ps) is → AllSay all_marks (nodes_at ps is) (map goes is)
    say-all [] all = tt
    say-all (i ∷ is) all =
        let one = some-of (answer_at (slots_of ps) i) all.0 in
        let node = some-of (node_at ps i) (kept_node ps i all.0) in
        let e : Entry N (Result V F) = record { node = node.0; answer = one.0; asked = nodes_at ps (row l.asked i); uses = row l.uses i } in
        let at : entry_at ps l i ≡ Some e = λ j. entry_with (node.1 j) (one.1 j) (nodes_at ps (row l.asked i)) (row l.uses i) in
        let lt = past ps i all.0 in
        let says : Says all_marks node.0 (goes i) = record {
          mark = mark_of i e;
          there = find_mark (numbers_from 0 (length ps)) i (mark_of i e) (number_in 0 (length ps) i (omega arith) (omega arith))
              (ap (option_map (mark_of i)) at);
          node = refl;
          goes = refl;
        } in
        rw node.1 (says, say-all is all.1)

    at_index : (is : List ℕ) (k : ℕ) (j : ℕ) → k < length is → get_or is k 0 ≡ j → goes j ≡ true → list_any goes is ≡ true
    at_index is k j lt e t = list_any-from_Any goes is (k, j, lt, get_or_default is k j 0 lt ∙ e, t)

    kept_at : (is : List ℕ) (k : ℕ) → AllByRecursion (IsKept ps) is → k < length is → IsKept ps (get_or is k 0)
    kept_at [] k all lt = absurd (omega arith)
    kept_at (i ∷ is) zero all lt = all.0
    kept_at (i ∷ is) (suc k) all lt = kept_at is k all.1 (omega arith)

    -- why slots go
    abbrev Going : ℕ → Type 0
    Going = GoesItself change also l.kept l.uses

    goes-is : (i : ℕ) (o : N) → node_at ps i ≡ Some o → IsKept ps i → goes i ≡ (itself o || (is_hit change l.uses i || list_any goes (row l.asked i)))
    goes-is i o at k = by (cases_Bool (is_kept m.kept i)) (itself o) refl (is_hit change l.uses i) refl (list_any goes (row l.asked i)) refl
      where
        kept_now : is_kept l.kept i ≡ true
        kept_now = h.kept i ∙ k

        all : AllByRecursion (IsKept ps) (row l.asked i)
        all = h.asked i k

        reached : (s : ℕ) → s ≡ i → Reaches l.asked Going s → itself o ≡ false → is_hit change l.uses i ≡ false → list_any goes (row l.asked i) ≡ false → ⊥
        reached _ e (here s (inl hit)) w x y = let t = ap (is_hit change l.uses) (sym e) ∙ hit.touched in cc
        reached _ e (here s (inr one)) w x y =
            let t : itself o ≡ true = (those.each i (subst (Contains also) e one)).1 o at in cc
        reached _ e (through s a lt r) w x y =
            let lt2 : a < length (row l.asked i) = rw e at lt in
            let j = get_or (row l.asked i) a 0 in
            let kj = kept_at (row l.asked i) a all lt2 in
            let r2 = rw e at r in
            let c : Contains m.waits j = (f.exact j).1 (record { was_kept = h.kept j ∙ kj; reaches = r2 }) in
            let t : goes j ≡ true = ap not (out j c) in
            let yes = at_index (row l.asked i) a j lt2 refl t in cc

        gone_by : is_kept m.kept i ≡ true → list_any goes (row l.asked i) ≡ true → ⊥
        gone_by e y =
            let a = Any-from_list_any goes (row l.asked i) y in
            let j : get_or (row l.asked i) a.0 0 ≡ a.1 = get_or_default (row l.asked i) a.0 0 a.1 a.2 ∙ a.3 in
            let kj : IsKept ps a.1 = subst (IsKept ps) j (kept_at (row l.asked i) a.0 all a.2) in
            let c = taken a.1 kj (not-true (is_kept m.kept a.1) a.4) in
            let r = ((f.exact a.1).0 c).reaches in
            stay i e ((f.exact i).1 (record { was_kept = kept_now; reaches = through i a.0 a.2 (subst (Reaches l.asked Going) (sym j) r) }))

        goes_here : is_kept m.kept i ≡ true → Going i → ⊥
        goes_here e why = stay i e ((f.exact i).1 (record { was_kept = kept_now; reaches = here i why }))

        by : (is_kept m.kept i ≡ true) ⊎ (is_kept m.kept i ≡ false) → (w : Bool) → itself o ≡ w → (x : Bool) → is_hit change l.uses i ≡ x → (y : Bool)
            → list_any goes (row l.asked i) ≡ y → goes i ≡ (w || (x || y))
        by (inl e) true w x x' y y' = absurd (goes_here e (inr (those.all i o k at w)))
        by (inl e) false w true x y y' = absurd (goes_here e (inl (record { was_kept = kept_now; touched = x })))
        by (inl e) false w false x true y = absurd (gone_by e y)
        by (inl e) false w false x false y = ap not e
        by (inr e) true w x x' y y' = ap not e
        by (inr e) false w true x y y' = ap not e
        by (inr e) false w false x true y = ap not e
        by (inr e) false w false x false y = absurd (reached i refl ((f.exact i).0 (taken i k e)).reaches w x y)

    mark-right : (i : ℕ) (e : Entry N (Result V F)) → entry_at ps l i ≡ Some e → IsMarkedBy itself change all_marks (mark_of i e)
    mark-right i e at =
        let p = entry_parts (node_at ps i) (answer_at (slots_of ps) i) (nodes_at ps (row l.asked i)) (row l.uses i) e at in
        record {
          asked = map goes (row l.asked i);
          say = rw p.1 (say-all (row l.asked i) (h.asked i p.0));
          goes = goes-is i e.node p.3 p.0
              ∙ (λ j. itself e.node || (list_any (is_use_touched change) (sym p.2 j) || sym (any-of-map goes (row l.asked i)) j));
        }

    pub marked : (is : List ℕ) → AllByRecursion (IsMarkedBy itself change all_marks) (marks_at is)
    marked [] = tt
    marked (i ∷ is) = by (entry_at ps l i) refl (marked is)
      where
        by : (o : Option (Entry N (Result V F))) → entry_at ps l i ≡ o → AllByRecursion (IsMarkedBy itself change all_marks) (marks_at is)
            → AllByRecursion (IsMarkedBy itself change all_marks) (with_first (option_map (mark_of i) o) (marks_at is))
        by None e rest = rest
        by (Some x) e rest = (mark-right i x e, rest)

    -- ---- the table after it
    kept_was : (i : ℕ) → IsKept qs i → (is_kept m.kept i ≡ true) × IsKept ps i
    kept_was i k = by (answer_at (slots_of ps) i) refl (cases_Bool (is_kept m.kept i))
      where
        by : (a : Option (Result V F)) → answer_at (slots_of ps) i ≡ a → (is_kept m.kept i ≡ true) ⊎ (is_kept m.kept i ≡ false)
            → (is_kept m.kept i ≡ true) × IsKept ps i
        by None e c = let no : is_some (answer_at (slots_of qs) i) ≡ false = ap is_some (now_none i e) in absurd (cc)
        by (Some r) e (inl c) = (c, ap is_some e)
        by (Some r) e (inr c) = let no : is_some (answer_at (slots_of qs) i) ≡ false = ap is_some (g.taken.out i (taken i (ap is_some e) c)) in absurd (cc)

    still_kept : (i : ℕ) → is_kept m.kept i ≡ true → IsKept ps i → IsKept qs i
    still_kept i e k = ap is_some (g.taken.same i (stay i e)) ∙ k

    each_kept : (i : ℕ) → is_kept m.kept i ≡ is_some (answer_at (slots_of qs) i)
    each_kept i = by (answer_at (slots_of ps) i) refl (cases_Bool (is_kept m.kept i))
      where
        by : (a : Option (Result V F)) → answer_at (slots_of ps) i ≡ a → (is_kept m.kept i ≡ true) ⊎ (is_kept m.kept i ≡ false)
            → is_kept m.kept i ≡ is_some (answer_at (slots_of qs) i)
        by (Some r) e (inl c) = c ∙ sym (still_kept i c (ap is_some e))
        by (Some r) e (inr c) = cc (g.taken.out i (taken i (ap is_some e) c))
        by None e (inr c) = cc (now_none i e)
        by None e (inl c) = let yes = sym (h.kept i) ∙ ((f.kept i).0 c).0 in let no : is_some (answer_at (slots_of ps) i) ≡ false = ap is_some e in absurd (cc)

    asks_stay : (i : ℕ) → is_kept m.kept i ≡ true → IsKept ps i → (js : List ℕ)
        → ((k : ℕ) → k < length js → (a : ℕ) × (a < length (row l.asked i)) × (get_or (row l.asked i) a 0 ≡ get_or js k 0)) → AllByRecursion (IsKept ps) js
        → AllByRecursion (IsKept qs) js
    asks_stay i e k [] from all = tt
    asks_stay i e k (j ∷ js) from all = (
      elim (cases_Bool (is_kept m.kept j)) [
        | inl c ↦ still_kept j c all.0
        | inr c ↦ let at = from 0 (omega arith) in
            let r = ((f.exact j).0 (taken j all.0 c)).reaches in
            absurd (stay i e ((f.exact i).1
            (record { was_kept = h.kept i ∙ k; reaches = through i at.0 at.1 (subst (Reaches l.asked Going) (sym at.2) r) })))
      ],
      asks_stay i e k js (λ x lt. from (suc x) (omega arith)) all.1,
    )

    pub swept-links : AreLinked qs n
    swept-links = record {
      kept = λ i. cc (each_kept i);
      asked = λ i k. (let c = kept_was i k in
          let same : row n.asked i ≡ row l.asked i = cc (g.taken.asked i (stay i c.0)) in
          subst (AllByRecursion (IsKept qs)) (sym same) (asks_stay i c.0 c.1 (row l.asked i) (λ x lt. (x, lt, refl)) (h.asked i c.1)));
      idle = g.done;
      slots = omega (arith, ap length g.taken.kept);
    }

    -- ---- the looks
    abbrev is_gone : ℕ → Bool
    is_gone i = is_kept l.kept i && goes i

    gone-sum : (p : Entry N (Result V F) → ℕ) (q : ℕ → ℕ) → ((i : ℕ) (e : Entry N (Result V F)) → entry_at ps l i ≡ Some e → p e ≡ q i) → (is : List ℕ)
        → sum_by p (entries_gone (marks_at is)) ≡ sum_by (λ i. cond (is_gone i) (q i) 0) is
    gone-sum p q same [] = refl
    gone-sum p q same (i ∷ is) = by (gone-sum p q same is) (answer_at (slots_of ps) i) refl ∙ sym (sum_by-cons (λ i. cond (is_gone i) (q i) 0) i is)
      where
        rest : List (Mark N (Result V F))
        rest = marks_at is

        with_mark : (e : Entry N (Result V F)) (b : Bool) → p e ≡ q i
            → sum_by p (entries_gone (record { entry = e; goes = b } ∷ rest)) ≡ cond b (q i) 0 + sum_by p (entries_gone rest)
        with_mark e true same = cc (sum_by-cons p e (entries_gone rest))
        with_mark e false same = omega arith

        by : sum_by p (entries_gone rest) ≡ sum_by (λ i. cond (is_gone i) (q i) 0) is → (a : Option (Result V F)) → answer_at (slots_of ps) i ≡ a
            → sum_by p (entries_gone (with_first (mark_at i) rest)) ≡ cond (is_gone i) (q i) 0 + sum_by (λ i. cond (is_gone i) (q i) 0) is
        by ih None e =
            let none : is_kept l.kept i ≡ false = h.kept i ∙ ap is_some e in
            ap (λ o. sum_by p (entries_gone (with_first (option_map (mark_of i) o) rest))) (no_entry_at ps l i e) ∙ ih
            ∙ (let z : cond (is_gone i) (q i) 0 ≡ 0 = ap (λ b. cond (b && goes i) (q i) 0) none in omega arith)
        by ih (Some a) e =
            let yes : is_kept l.kept i ≡ true = h.kept i ∙ ap is_some e in
            let node = some-of (node_at ps i) (kept_node ps i (ap is_some e)) in
            let x : Entry N (Result V F) = record { node = node.0; answer = a; asked = nodes_at ps (row l.asked i); uses = row l.uses i } in
            let at : entry_at ps l i ≡ Some x = λ j. entry_with (node.1 j) (e j) (nodes_at ps (row l.asked i)) (row l.uses i) in
            ap (λ o. sum_by p (entries_gone (with_first (option_map (mark_of i) o) rest))) at ∙ with_mark x (goes i) (same i x at)
            ∙ (λ j. cond (sym yes j && goes i) (q i) 0 + ih j)

    entry-sum : (p : Entry N (Result V F) → ℕ) (q : ℕ → ℕ) → ((i : ℕ) (e : Entry N (Result V F)) → entry_at ps l i ≡ Some e → p e ≡ q i) → (is : List ℕ)
        → sum_by p (entries_at ps l is) ≡ sum_by (λ i. cond (is_kept l.kept i) (q i) 0) is
    entry-sum p q same [] = refl
    entry-sum p q same (i ∷ is) = by (entry-sum p q same is) (answer_at (slots_of ps) i) refl ∙ sym (sum_by-cons (λ i. cond (is_kept l.kept i) (q i) 0) i is)
      where
        by : sum_by p (entries_at ps l is) ≡ sum_by (λ i. cond (is_kept l.kept i) (q i) 0) is → (a : Option (Result V F)) → answer_at (slots_of ps) i ≡ a
            → sum_by p (with_first (entry_at ps l i) (entries_at ps l is)) ≡ cond (is_kept l.kept i) (q i) 0
            + sum_by (λ i. cond (is_kept l.kept i) (q i) 0) is
        by ih None e =
            let none : is_kept l.kept i ≡ false = h.kept i ∙ ap is_some e in
            ap (λ o. sum_by p (with_first o (entries_at ps l is))) (no_entry_at ps l i e) ∙ ih
            ∙ (let z : cond (is_kept l.kept i) (q i) 0 ≡ 0 = ap (λ b. cond b (q i) 0) none in omega arith)
        by ih (Some a) e =
            let yes : is_kept l.kept i ≡ true = h.kept i ∙ ap is_some e in
            let node = some-of (node_at ps i) (kept_node ps i (ap is_some e)) in
            let x : Entry N (Result V F) = record { node = node.0; answer = a; asked = nodes_at ps (row l.asked i); uses = row l.uses i } in
            let at : entry_at ps l i ≡ Some x = λ j. entry_with (node.1 j) (e j) (nodes_at ps (row l.asked i)) (row l.uses i) in
            ap (λ o. sum_by p (with_first o (entries_at ps l is))) at ∙ sum_by-cons p x (entries_at ps l is) ∙ (λ j. same i x at j + ih j)
            ∙ (λ j. cond (sym yes j) (q i) 0 + sum_by (λ i. cond (is_kept l.kept i) (q i) 0) is)

    abbrev nums : List ℕ
    nums = numbers_from 0 (length ps)

    waiting : (i : ℕ) → IsOneOf m.waits i → Contains m.waits i
    waiting i c = one_of-back m.waits i c

    wait_gone : (i : ℕ) → IsOneOf m.waits i → is_gone i ≡ true
    wait_gone i c = λ j. was i (waiting i c) j && not (out i (waiting i c) j)

    wait_in : (i : ℕ) → IsOneOf m.waits i → IsOneOf nums i
    wait_in i c = let lt = past ps i (sym (h.kept i) ∙ was i (waiting i c)) in number_in 0 (length ps) i (omega arith) (omega arith)

    -- what the slots that go have is what their entries have
    waits-sum : (p : Entry N (Result V F) → ℕ) (q : ℕ → ℕ) → ((i : ℕ) (e : Entry N (Result V F)) → entry_at ps l i ≡ Some e → p e ≡ q i)
        → sum_by q m.waits ≤ sum_by p (entries_gone all_marks)
    waits-sum p q same =
        let a : sum_by q m.waits ≡ sum_by (λ i. cond (is_gone i) (q i) 0) m.waits =
        sum-alike q (λ i. cond (is_gone i) (q i) 0) m.waits
        (each-of (λ i. q i ≡ cond (is_gone i) (q i) 0) m.waits (λ i c. (λ j. cond (sym (wait_gone i c) j) (q i) 0))) in
        omega (arith, sum-within (λ i. cond (is_gone i) (q i) 0) m.waits nums (differ m.waits f.apart) wait_in, gone-sum p q same nums)

    ones : (is : List ℕ) → sum_by (λ i. 1) is ≡ length is
    ones [] = refl
    ones (i ∷ is) = omega (arith, sum_by-cons (λ (j : ℕ). 1) i is, ones is)

    entry-ones : (es : List (Entry N (Result V F))) → sum_by (λ e. 1) es ≡ length es
    entry-ones [] = refl
    entry-ones (e ∷ es) = omega (arith, sum_by-cons (λ (x : Entry N (Result V F)). 1) e es, entry-ones es)

    pub gone-most : length m.waits ≤ length (entries_gone all_marks)
    gone-most = omega (arith, waits-sum (λ e. 1) (λ i. 1) (λ i e at. refl), ones m.waits, entry-ones (entries_gone all_marks))

    gone_wait : (i : ℕ) → IsOneOf (filter is_gone nums) i → IsOneOf m.waits i
    gone_wait i c =
        let e = and_parts (is_kept l.kept i) (goes i) (filter-passes is_gone nums i c) in
        one_of-contains m.waits i (f.went i e.0 (not-true (is_kept m.kept i) e.1))

    pub gone-least : length (entries_gone all_marks) ≤ length m.waits
    gone-least =
        let a : sum_by (λ e. 1) (entries_gone all_marks) ≡ count_by is_gone nums = gone-sum (λ e. 1) (λ i. 1) (λ i e at. refl) nums in
        omega (
          arith,
          length-filter is_gone nums,
          sum-within (λ i. 1) (filter is_gone nums) m.waits
              (filter-differ is_gone nums (numbers-differ 0 (length ps))) gone_wait,
          ones (filter is_gone nums),
          ones m.waits,
          entry-ones (entries_gone all_marks),
        )

    nodes_count : (is : List ℕ) → AllByRecursion (IsKept ps) is → length (nodes_at ps is) ≡ length is
    nodes_count [] all = refl
    nodes_count (i ∷ is) all = let node = some-of (node_at ps i) (kept_node ps i all.0) in ap (λ o. length (with_first o (nodes_at ps is))) node.1
        ∙ ap suc (nodes_count is all.1)

    asked_count : (i : ℕ) (e : Entry N (Result V F)) → entry_at ps l i ≡ Some e → length e.asked ≡ length (row l.asked i)
    asked_count i e at = let p = entry_parts (node_at ps i) (answer_at (slots_of ps) i) (nodes_at ps (row l.asked i)) (row l.uses i) e at in ap length p.1
        ∙ nodes_count (row l.asked i) (h.asked i p.0)

    uses_same : (i : ℕ) (e : Entry N (Result V F)) → entry_at ps l i ≡ Some e → e.uses ≡ row l.uses i
    uses_same i e at = (entry_parts (node_at ps i) (answer_at (slots_of ps) i) (nodes_at ps (row l.asked i)) (row l.uses i) e at).2

    two_sums : (a b : ℕ → ℕ) (ss : List ℕ) → sum_by (λ s. 4 * a s + 4 * b s) ss ≡ 4 * sum_by a ss + 4 * sum_by b ss
    two_sums a b [] = omega arith
    two_sums a b (s ∷ ss) =
        omega (arith, sum_by-cons (λ s. 4 * a s + 4 * b s) s ss, sum_by-cons a s ss, sum_by-cons b s ss, two_sums a b ss)

    same_parts : parts_of m m.waits ≡ parts_of l m.waits
    same_parts = λ j. sum_by (λ s. 4 * length (row (f.asked j) s) + 4 * length (pages_in (row (f.uses j) s))) m.waits

    -- the uses of all slots are those of the kept ones
    uses-all : (of : List Use → ℕ) → of [] ≡ 0 → ((s : ℕ) → is_kept l.kept s ≡ false → row l.uses s ≡ [])
        → sum_by of l.uses ≤ sum_by (λ e. of e.uses) (entries_of ps l)
    uses-all of none vacant =
        let a = rows-numbers of (λ i. cond (is_kept l.kept i) (of (row l.uses i)) 0) l.uses (length ps) none (λ i. elim (cases_Bool (is_kept l.kept i)) [
          | inl e ↦ let k = ap (λ b. cond b (of (row l.uses i)) 0) e in omega arith
          | inr e ↦ let k = ap of (vacant i e) ∙ none in omega arith
        ])
        (λ i le. ap of (vacant i (h.kept i ∙ ap is_some (none_after ps i le))) ∙ none) in
        omega (arith, entry-sum (λ e. of e.uses) (λ i. of (row l.uses i)) (λ i e at. ap of (uses_same i e at)) nums)

    -- those that go by themselves are no more than those that go
    also-few : length also ≤ length m.waits
    also-few = omega (
      arith,
      sum-within (λ i. 1) also m.waits (differ also those.apart) (λ i c. one_of-contains m.waits i (goes-also i (one_of-back also i c))),
      ones also,
      ones m.waits,
    )
      where
        goes-also : (i : ℕ) → Contains also i → Contains m.waits i
        goes-also i c = (f.exact i).1 (record { was_kept = h.kept i ∙ (those.each i c).0; reaches = here i (inr c) })

    pub looks-most : ((s : ℕ) → is_kept l.kept s ≡ false → row l.uses s ≡ [])
        → (IsOverwrite change → m.looks ≤ l.looks + pages_met change + 3 * sum_by (met_by change) l.uses + 1 + 4 * length m.waits
        + 2 * asks_of l.asked m.waits) → (first looked : ℕ) → from ≤ first + length also → looked ≤ max (n.looks + count - (l.looks + first)) (length m.waits)
        → IsOverwrite change
        → looked ≤ pages_met change + 3 * sum_by (λ e. met_by change e.uses) (entries_of ps l) + 10 * length (entries_gone all_marks)
        + 6 * sum_by (λ e. length e.asked) (entries_gone all_marks) + 4 * sum_by (λ e. length (pages_in e.uses)) (entries_gone all_marks) + 2
    looks-most vacant most first looked found le over =
        omega (
          arith,
          most over,
          uses-all (met_by change) (met_none change) vacant,
          waits-sum (λ e. length e.asked) (λ i. length (row l.asked i)) asked_count,
          waits-sum (λ e. length (pages_in e.uses)) (λ i. length (pages_in (row l.uses i))) (λ i e at. ap (λ us. length (pages_in us)) (uses_same i e at)),
          same_parts,
          two_sums (λ s. length (row l.asked s)) (λ s. length (pages_in (row l.uses s))) m.waits,
          gone-most,
          also-few,
        )

    pub looks-behind : (pages : ℕ) → ((s : ℕ) → is_kept l.kept s ≡ false → row l.uses s ≡ [])
        → (IsMove change → m.looks ≤ l.looks + 2 * pages_behind change pages + 3 * sum_by (behind_by change) l.uses + 3 * sum_by (ended_by change) l.uses + 2
        + 4 * length m.waits + 2 * asks_of l.asked m.waits) → (first looked : ℕ) → from ≤ first + length also
        → looked ≤ max (n.looks + count - (l.looks + first)) (length m.waits) → IsMove change
        → looked ≤ 2 * pages_behind change pages + 3 * sum_by (λ e. behind_by change e.uses) (entries_of ps l)
        + 3 * sum_by (λ e. ended_by change e.uses) (entries_of ps l) + 10 * length (entries_gone all_marks)
        + 6 * sum_by (λ e. length e.asked) (entries_gone all_marks) + 4 * sum_by (λ e. length (pages_in e.uses)) (entries_gone all_marks) + 3
    looks-behind pages vacant most first looked found le moves =
        omega (
          arith,
          most moves,
          uses-all (behind_by change) (behind_none change) vacant,
          uses-all (ended_by change) (ended_none change) vacant,
          waits-sum (λ e. length e.asked) (λ i. length (row l.asked i)) asked_count,
          waits-sum (λ e. length (pages_in e.uses)) (λ i. length (pages_in (row l.uses i)))
              (λ i e at. ap (λ us. length (pages_in us)) (uses_same i e at)),
          same_parts,
          two_sums (λ s. length (row l.asked s)) (λ s. length (pages_in (row l.uses s))) m.waits,
          gone-most,
          also-few,
        )

    -- what the pass leaves, if at most two looks more are told than were made
    pub swept : (pages : ℕ) → ((s : ℕ) → is_kept l.kept s ≡ false → row l.uses s ≡ [])
        → (IsOverwrite change → m.looks ≤ l.looks + pages_met change + 3 * sum_by (met_by change) l.uses + 1 + 4 * length m.waits
        + 2 * asks_of l.asked m.waits)
        → (IsMove change → m.looks ≤ l.looks + 2 * pages_behind change pages + 3 * sum_by (behind_by change) l.uses + 3 * sum_by (ended_by change) l.uses + 2
        + 4 * length m.waits + 2 * asks_of l.asked m.waits) → (first looked : ℕ) → from ≤ first + length also → length m.waits ≤ looked
        → looked ≤ max (n.looks + count - (l.looks + first)) (length m.waits) → (told : ℕ) → looked ≤ told → told ≤ looked + 2
        → SweepsBy itself change pages (entries_of ps l) (entries_of qs n) told
    swept pages vacant most behind first looked found all le told less more = record {
      marks = all_marks;
      entries = entries (numbers_from 0 (length ps));
      marked = marked (numbers_from 0 (length ps));
      stays = ap (λ k. entries_at qs n (numbers_from 0 k)) g.taken.slots ∙ stays (numbers_from 0 (length ps));
      least = omega (arith, gone-least);
      most = λ over. omega (arith, looks-most vacant most first looked found le over);
      behind = λ moves. omega (arith, looks-behind pages vacant behind first looked found le moves);
    }

-- no slots are those of no node
pub none-also : {N V F : Type 0} (ps : List (N × Slot V F)) → AreSlotsOf (λ (n : N). false) ps []
none-also ps = record {
  each = λ i c. (let lt = c.1 in absurd (omega arith));
  all = λ i n k at is. absurd (cc);
  apart = λ i j d less in_none. absurd (omega arith);
}
