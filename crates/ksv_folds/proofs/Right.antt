-- The sequence of a plain list is as it says.
use Rattle.std.proofs.Common.{◌≤◌, nat_eq, if◌then◌else◌}
use Rattle.ksv_memo_rules.proofs.Keeping.{is_among-append}
use Rattle.ksv_memo_rules.specs.Entry.{Entry}
use Rattle.ksv_memo_rules.specs.Right.{StandsIn, cost}
use Rattle.ksv_memo_rules.specs.Right as right
use Rattle.ksv_memo_rules.specs.Touched.{tree}
use Rattle.ksv_list_laws.proofs.Common.{◌≡◌, ◌∙◌, ℕ, zero, suc, ◌+◌, ◌-◌, ◌<◌, Bool, true, List, [], ◌∷◌, ◌++◌, length, Option, Some, None, Result}
use Rattle.ksv_list_laws.proofs.Common.{Ok, inl, inr, ◌⊎◌, refl, sym, ap, subst, arith, nat_tests, cases_lt, AllByRecursion, flat_map, Use, Fault, Description}
use Rattle.ksv_list_laws.proofs.Common.{is_among, Standing, on, with_first, node_number, head_node, Given, Node, described, Listing, Which, node_at, nodes_of}
use Rattle.ksv_list_laws.proofs.Common.{asked_by, uses_at, IsPlain}
use Rattle.ksv_nodes.specs.declared.given.Given.TheVariants as givens
use Rattle.ksv_nodes.specs.declared.given.Head.TheVariants as heads
use Rattle.ksv_list_laws.proofs.Entries.{Known, known, entries_are_right}
use Rattle.ksv_folds.proofs.Laid.{sizer_is}
use Rattle.ksv_list_laws.proofs.Folding.{folded_stand_in}
use Rattle.ksv_list_laws.proofs.Rising.{AnyOf}
use Rattle.ksv_list_laws.proofs.Telling as telling
use Rattle.ksv_list_laws.proofs.Truth.{or_true}
use Rattle.ksv_list_laws.specs.Laws.{is_folded}
use Rattle.std.specs.Prelude.{IfSome}
use Rattle.ksv_list_laws.specs.Nodes.{answer_at}
use Rattle.ksv_list_laws.specs.Nodes as nodes
use Rattle.ksv_folds.proofs.Asked.IsBehind.{next, value, last}
use Rattle.ksv_folds.proofs.Asked.{IsEarlier, asked_earlier, asks_are, Asks, behind}
use Rattle.ksv_folds.proofs.Covered.{spot_low, before, before_known, before_room, every, every_known, every_room, all, all_known}
use Rattle.ksv_folds.proofs.Told.{which_of, IsTold, IsKnown, there, found, answer_is, reach_is, value_uses, guard_is}
use Rattle.ksv_folds.specs.Lemmas.Numbers.{elements_some, fields_some, prior_in, prior_of, element_at, number_is, numbered_is, first_is, value_number}
use Rattle.ksv_folds.specs.Lemmas.Numbers.{sizer_end}
use Rattle.ksv_folds.specs.Lemmas.Numbers.{last_number}
use Rattle.ksv_folds.specs.Lemmas.Once.{sequence_laid}
use Rattle.ksv_memo_rules.specs.Folds.{Fold, IsFold, first_of}
use Rattle.ksv_folds.specs.Laws.{Describes, OpenSequencesAreRight, SequencesAreRight, WholeSequencesAreRight}
use Rattle.ksv_folds.specs.Sequence.{says_sizes, sizer, index_of, guard_of, guard_node, entry_of, uses_in, whole_in}
use Rattle.ksv_folds.specs.Sequence.{number_of, numbered_at, node_in, answer_in, fold_of, elements_size, size_of}
use Rattle.ksv_folds.specs.Sequence as sequence
use Rattle.ksv_folds.specs.declared.plain_list.PlainList.{PlainList}
use Rattle.ksv_folds.specs.declared.spot.Numbered.{Numbered}
use Rattle.ksv_folds.specs.declared.spot.Numbered.TheVariants.{Of, Rest, MissingHead, MissingEnd}
use Rattle.ksv_folds.specs.declared.spot.Spot.TheVariants.{ElementHead, ElementEnd, FieldHead, FieldEnd, Value}

-- ---- the first entries

itself : (n : Node) → is_among node_number (n ∷ []) n ≡ true
itself n = grind (arith, nat_tests)

nodes-append : {N A : Type 0} (es fs : List (Entry N A)) → right.nodes_of (es ++ fs) ≡ right.nodes_of es ++ right.nodes_of fs
nodes-append [] fs = refl
nodes-append (e ∷ es) fs = ap (λ ns. e.node ∷ ns) (nodes-append es fs)

is_first : (f : Fold Node (Result Given Fault)) (i j : ℕ) → i < j → is_among node_number (right.nodes_of (first_of f j)) (f.entry i).node ≡ true
is_first f i zero low = absurd (omega (arith, low))
is_first f i (suc j) low =
    ap (λ ns. is_among node_number ns (f.entry i).node) (nodes-append (first_of f j) (f.entry j ∷ []))
    ∙ is_among-append node_number (right.nodes_of (first_of f j)) ((f.entry j).node ∷ []) (f.entry i).node
    ∙ or_true (is_among node_number (right.nodes_of (first_of f j)) (f.entry i).node) (is_among node_number ((f.entry j).node ∷ []) (f.entry i).node)
    (elim (cases_lt i j) [
      | inl less ↦ inl (is_first f i j less)
      | inr more ↦ inr (let same : i ≡ j = omega (arith, low, more) in
          subst (λ k. is_among node_number ((f.entry k).node ∷ []) (f.entry i).node ≡ true) same (itself (f.entry i).node))
    ])

-- a node is folded, or a value
folded_or_value : (s : Numbered) → (is_folded (which_of s) ≡ true) ⊎ ((i : ℕ) × (s ≡ Of (Value i)))
folded_or_value (Of (ElementHead i)) = inl refl
folded_or_value (Of (ElementEnd i)) = inl refl
folded_or_value (Of (FieldHead i f)) = inl refl
folded_or_value (Of (FieldEnd i f)) = inl refl
folded_or_value (Of (Value i)) = inr (i, refl)
folded_or_value (Rest i) = inl refl
folded_or_value (MissingHead k) = inl refl
folded_or_value (MissingEnd k) = inl refl

-- the first nodes of a sequence, which are all told
module _ (p : PlainList) (d : Description) (bytes : List ℕ) (x : Listing) (plain : IsPlain d bytes x) (is : Describes p x) (m : ℕ) (told : IsTold p bytes x m)
    (count : ℕ) (low_count : count ≤ size_of p)
    (at : (j : ℕ) → j < count → IsKnown p d bytes x plain is m told (numbered_at p j))
  where
    abbrev w : Standing Node (Result Given Fault)
    w = on (described d) bytes

    abbrev One : Numbered → Type 0
    One s = IsKnown p d bytes x plain is m told s

    own : (s : Numbered) → One s
        → Known d bytes (node_in p s) (answer_at bytes x (which_of s)) (nodes_of x (asked_by x (which_of s))) (uses_at bytes x (which_of s))
    own s low = known d bytes (node_in p s) _ _ _
        (telling.tells d bytes x plain (which_of s) (there p d bytes x plain is m told s low) (node_in p s) (found p d bytes x plain is m told s low))

    -- ---- trees

    abbrev has : Node → Node → Bool
    has m n = is_among node_number (tree w m) n

    abbrev among : List Node → Node → Bool
    among ms n = is_among node_number (flat_map (tree w) ms) n

    has_itself : (n : Node) (g : Result Given Fault) (ns : List Node) (us : List Use) → Known d bytes n g ns us → has n n ≡ true
    has_itself n g ns us h =
        ap (λ ms. is_among node_number ms n) h.whole ∙ is_among-append node_number (flat_map (tree w) ns) (n ∷ []) n
        ∙ or_true (among ns n) (is_among node_number (n ∷ []) n) (inr (itself n))

    has_asked : (n : Node) (g : Result Given Fault) (ns : List Node) (us : List Use) → Known d bytes n g ns us → (q : Node) → among ns q ≡ true → has n q ≡ true
    has_asked n g ns us h q e =
        ap (λ ms. is_among node_number ms q) h.whole ∙ is_among-append node_number (flat_map (tree w) ns) (n ∷ []) q
        ∙ or_true (among ns q) (is_among node_number (n ∷ []) q) (inl e)

    among_first : (q m : Node) (ms : List Node) → (has m q ≡ true) ⊎ (among ms q ≡ true) → among (m ∷ ms) q ≡ true
    among_first q m ms h = is_among-append node_number (tree w m) (flat_map (tree w) ms) q ∙ or_true (has m q) (among ms q) h

    among_asked : (q m : Node) (k : Which) (ks : List (Option Which)) → AnyOf (λ o. o ≡ Some k) ks → node_at x k ≡ Some m → has m q ≡ true
        → among (nodes_of x ks) q ≡ true
    among_asked q m k [] h e t = absurd h
    among_asked q m k (o ∷ ks) (inl h) e t =
        ap (λ z. among (nodes_of x (z ∷ ks)) q) h ∙ ap (λ z. among (with_first z (nodes_of x ks)) q) e ∙ among_first q m (nodes_of x ks) (inl t)
    among_asked q m k (None ∷ ks) (inr h) e t = among_first q (head_node x.path) (nodes_of x ks) (inr (among_asked q m k ks h e t))
    among_asked q m k (Some j ∷ ks) (inr h) e t = by (node_at x j) (among_asked q m k ks h e t)
      where
        by : (o : Option Node) → among (nodes_of x ks) q ≡ true → among (with_first o (nodes_of x ks)) q ≡ true
        by None a = a
        by (Some n) a = among_first q n (nodes_of x ks) (inr a)

    -- a known node has a number
    known_there : (s : Numbered) → One s → sequence.IsThere p s
    known_there (Of s) low = spot_low (says_sizes p) (length p.parts.items) m p.most told.few s low
    known_there (Rest i) low = low.0
    known_there (MissingHead k) low = low.0
    known_there (MissingEnd k) low = low.0

    -- what a node completes, one that asks it does
    lifts : (t s : Numbered) → One t → One s → Asks p d bytes x plain is m told t s → (q : Node) → has (node_in p t) q ≡ true → has (node_in p s) q ≡ true
    lifts t s known one asks q e =
        has_asked (node_in p s) _ _ _ (own s one) q
        (among_asked q (node_in p t) (which_of t) (asked_by x (which_of s)) asks (found p d bytes x plain is m told t known) e)

    own_has : (s : Numbered) → One s → has (node_in p s) (node_in p s) ≡ true
    own_has s one = has_itself (node_in p s) _ _ _ (own s one)

    -- the node of a number among these
    One_at : (j : ℕ) → j < count → One (numbered_at p j)
    One_at j low = at j low

    known_at : (s : Numbered) → number_of p s < count → sequence.IsThere p s → One s
    known_at s low there = subst One (numbered_is p s there) (at (number_of p s) low)

    -- what a node before completes, one that asks that does
    abbrev Has : ℕ → ℕ → Type 0
    Has j i = has (node_in p (numbered_at p j)) (node_in p (numbered_at p i)) ≡ true

    abbrev Covers : ℕ → Type 0
    Covers j = (i : ℕ) → i < whole_in j (numbered_at p j) → Has j i

    -- by a folded node g that is asked, all up to it
    through : (j : ℕ) (t : Numbered) → j < count → number_of p t < j → sequence.IsThere p t → ((g : ℕ) → whole_in g t ≡ suc g)
        → Asks p d bytes x plain is m told t (numbered_at p j) → Covers (number_of p t) → (i : ℕ) → i ≤ number_of p t → Has j i
    through j t low less there whole asks covers i le =
        let same = numbered_is p t there in
        let known = known_at t (omega (arith, less, low)) there in
        lifts t (numbered_at p j) known (at j low) asks (node_in p (numbered_at p i))
        (subst (λ s. has (node_in p s) (node_in p (numbered_at p i)) ≡ true) same
        (covers i (let w = ap (whole_in (number_of p t)) same ∙ whole (number_of p t) in omega (arith, w, le))))

    number_at : (j : ℕ) → j < count → number_of p (numbered_at p j) ≡ j
    number_at j low = number_is p j (omega (arith, low, low_count))

    -- the node of this number asks one earlier, folded node, up to which it so completes all; and the others it asks or is
    module _ (j : ℕ) (low : suc j < count) (earlier : (g : ℕ) → g < suc j → Covers g) where
      s : Numbered
      s = numbered_at p (suc j)

      numbered : number_of p (numbered_at p (suc j)) ≡ suc j
      numbered = number_at (suc j) low

      itself_too : ((i : ℕ) → i ≤ j → Has (suc j) i) → Covers (suc j)
      itself_too all i less = elim (cases_lt i (suc j)) [
        | inl le ↦ all i (omega (arith, le))
        | inr more ↦ (
            let w = whole_most (suc j) (numbered_at p (suc j)) in
            let same : suc j ≡ i = omega (arith, more, less, w) in
            subst (λ k. Has (suc j) k) same (own_has (numbered_at p (suc j)) (at (suc j) low)))
      ]
        where
          whole_most : (k : ℕ) (t : Numbered) → whole_in k t ≤ suc k
          whole_most k (Of (ElementHead i)) = omega arith
          whole_most k (Of (ElementEnd i)) = omega arith
          whole_most k (Of (FieldHead i f)) = omega arith
          whole_most k (Of (FieldEnd i f)) = omega arith
          whole_most k (Of (Value i)) = omega arith
          whole_most k (Rest i) = omega arith
          whole_most k (MissingHead i) = omega arith
          whole_most k (MissingEnd i) = omega arith

      by_next : (t : Numbered) → prior_in p (numbered_at p (suc j)) ≡ t → Asks p d bytes x plain is m told t (numbered_at p (suc j))
          → ((g : ℕ) → whole_in g t ≡ suc g) → Covers (suc j)
      by_next t e asks whole =
          let z = prior_of p j (omega (arith, low, low_count)) ∙ e in
          let there = subst (sequence.IsThere p) z (known_there (numbered_at p j) (at j (omega (arith, low)))) in
          let number : number_of p t ≡ j = ap (number_of p) (sym z) ∙ number_at j (omega (arith, low)) in
          itself_too (λ i le. through (suc j) t low (omega (arith, number)) there whole asks (earlier (number_of p t) (omega (arith, number))) i
          (omega (arith, number, le)))

      value_there : (i : ℕ) → numbered_at p (suc j) ≡ Of (Value i) → (i < p.most) × (says_sizes p ≡ true)
      value_there i e = subst (sequence.IsThere p) e (known_there (numbered_at p (suc j)) (at (suc j) low))

      by_value : (i : ℕ) → numbered_at p (suc j) ≡ Of (Value i) → Asks p d bytes x plain is m told (Of (FieldHead i (sizer p))) (Of (Value i)) → Covers (suc j)
      by_value i e asks n less =
          let there = value_there i e in
          let some = (fields_some p there.1).0 in
          let number = ap (number_of p) (sym e) ∙ numbered in
          let next = value_number p i there.1 in
          let w = ap (whole_in (suc j)) e in
          through (suc j) (Of (FieldHead i (sizer p))) low (omega (arith, number, next)) (there.0, omega (arith, some)) (λ g. refl)
          (subst (Asks p d bytes x plain is m told (Of (FieldHead i (sizer p)))) (sym e) asks)
          (earlier (number_of p (Of (FieldHead i (sizer p)))) (omega (arith, number, next))) n (omega (arith, number, next, less, w))

      by_last : (i f : ℕ) → numbered_at p (suc j) ≡ Of (FieldHead i f) → suc f ≡ length p.parts.items → says_sizes p ≡ true
          → Asks p d bytes x plain is m told (Of (FieldEnd i (sizer p))) (Of (FieldHead i f))
          → Asks p d bytes x plain is m told (Of (Value i)) (Of (FieldHead i f)) → Covers (suc j)
      by_last i f e end says asks_end asks_value =
          let there = subst (sequence.IsThere p) e (known_there (numbered_at p (suc j)) (at (suc j) low)) in
          let some = (fields_some p says).0 in
          let number = ap (number_of p) (sym e) ∙ numbered in
          let next = last_number p i f says end in
          let before = sizer_end p i says in
          itself_too (λ n le. elim (cases_lt n j) [
            | inl less ↦ through (suc j) (Of (FieldEnd i (sizer p))) low (omega (arith, number, next, before)) (there.0, omega (arith, some)) (λ g. refl)
                (subst (Asks p d bytes x plain is m told (Of (FieldEnd i (sizer p)))) (sym e) asks_end)
                (earlier (number_of p (Of (FieldEnd i (sizer p)))) (omega (arith, number, next, before))) n (omega (arith, number, next, before, less))
            | inr more ↦ (
                let same : n ≡ j = omega (arith, more, le) in
                let value_is : numbered_at p n ≡ Of (Value i) =
                ap (numbered_at p) (same ∙ (let at_value : j ≡ number_of p (Of (Value i)) = omega (arith, number, next) in at_value))
                ∙ numbered_is p (Of (Value i)) (there.0, says) in
                let known = subst One value_is (at n (omega (arith, same, low))) in
                lifts (Of (Value i)) (numbered_at p (suc j)) known (at (suc j) low)
                (subst (Asks p d bytes x plain is m told (Of (Value i))) (sym e) asks_value) (node_in p (numbered_at p n))
                (subst (λ r. has (node_in p (Of (Value i))) (node_in p r) ≡ true) (sym value_is) (own_has (Of (Value i)) known)))
          ])

      step : Covers (suc j)
      step = elim (behind p d bytes x plain is m told (numbered_at p (suc j)) (at (suc j) low) (let n = numbered in omega (arith, n))) [
        | next t e asks whole ↦ by_next t e asks whole
        | value i e asks ↦ by_value i e asks
        | last i f e end says asks_end asks_value ↦ by_last i f e end says asks_end asks_value
      ]

    -- so for all
    covers : (n j : ℕ) → j < n → j < count → Covers j
    covers zero j few low = absurd (omega (arith, few))
    covers (suc n) zero few low = λ i less. (let w = first_whole in let same : 0 ≡ i = omega (arith, less, w) in
        subst (λ k. Has 0 k) same (own_has (numbered_at p 0) (at 0 low)))
      where
        first_whole : whole_in 0 (numbered_at p 0) ≤ 1
        first_whole = by (numbered_at p 0)
          where
            by : (t : Numbered) → whole_in 0 t ≤ 1
            by (Of (ElementHead i)) = omega arith
            by (Of (ElementEnd i)) = omega arith
            by (Of (FieldHead i f)) = omega arith
            by (Of (FieldEnd i f)) = omega arith
            by (Of (Value i)) = omega arith
            by (Rest i) = omega arith
            by (MissingHead k) = omega arith
            by (MissingEnd k) = omega arith
    covers (suc n) (suc j) few low = step j low (λ g le. covers n g (omega (arith, few, le)) (omega (arith, le, low)))

    -- the first node is the head of the first element
    first_at : numbered_at p 0 ≡ Of (ElementHead 0)
    first_at = element_at p 0 (elements_some p) ∙ ap Of (first_is p p.most p.any)

    first_root : 0 < count → has (node_in p (numbered_at p 0)) p.root ≡ true
    first_root low =
        let root_is : has p.root p.root ≡ true = subst (λ n. has n n ≡ true) (sym is.root)
        (has_itself (head_node x.path) _ _ _ (known d bytes (head_node x.path) (Ok (givens.Head (heads.List x.list))) _ _
        (record { answer = plain.listed; asked = refl; used = refl }))) in
        subst (λ s. has (node_in p s) p.root ≡ true) (sym first_at)
        (has_asked (node_in p (Of (ElementHead 0))) _ _ _ (own (Of (ElementHead 0)) (subst One first_at (at 0 low))) p.root
        (among_first p.root (head_node x.path) [] (inl (subst (λ n. has n p.root ≡ true) is.root root_is))))

    -- each other asks a node before it
    root_by : (t : Numbered) (j : ℕ) → suc j < count → number_of p t < suc j → sequence.IsThere p t → Asks p d bytes x plain is m told t (numbered_at p (suc j))
        → ((g : ℕ) → g < suc j → has (node_in p (numbered_at p g)) p.root ≡ true) → has (node_in p (numbered_at p (suc j))) p.root ≡ true
    root_by t j low less there asks earlier =
        lifts t (numbered_at p (suc j)) (known_at t (omega (arith, less, low)) there) (at (suc j) low) asks p.root
        (subst (λ s. has (node_in p s) p.root ≡ true) (numbered_is p t there) (earlier (number_of p t) less))

    root_step : (j : ℕ) → suc j < count → ((g : ℕ) → g < suc j → has (node_in p (numbered_at p g)) p.root ≡ true)
        → has (node_in p (numbered_at p (suc j))) p.root ≡ true
    root_step j low earlier =
        elim (behind p d bytes x plain is m told (numbered_at p (suc j)) (at (suc j) low) (let n = number_at (suc j) low in omega (arith, n))) [
          | next t e asks whole ↦ (
              let z = prior_of p j (omega (arith, low, low_count)) ∙ e in
              let there = subst (sequence.IsThere p) z (known_there (numbered_at p j) (at j (omega (arith, low)))) in
              let number : number_of p t ≡ j = ap (number_of p) (sym z) ∙ number_at j (omega (arith, low)) in
              root_by t j low (omega (arith, number)) there asks earlier)
          | value i e asks ↦ (
              let there : (i < p.most) × (says_sizes p ≡ true) = subst (sequence.IsThere p) e (known_there (numbered_at p (suc j)) (at (suc j) low)) in
              let some = (fields_some p there.1).0 in
              let number = ap (number_of p) (sym e) ∙ number_at (suc j) low in
              let next = value_number p i there.1 in
              root_by (Of (FieldHead i (sizer p))) j low (omega (arith, number, next)) (there.0, omega (arith, some))
              (subst (Asks p d bytes x plain is m told (Of (FieldHead i (sizer p)))) (sym e) asks) earlier)
          | last i f e end says asks_end asks_value ↦ (
              let there : (i < p.most) × (f < length p.parts.items) = subst (sequence.IsThere p) e (known_there (numbered_at p (suc j)) (at (suc j) low)) in
              let number = ap (number_of p) (sym e) ∙ number_at (suc j) low in
              let next = last_number p i f says end in
              root_by (Of (Value i)) j low (omega (arith, number, next)) (there.0, says)
              (subst (Asks p d bytes x plain is m told (Of (Value i))) (sym e) asks_value) earlier)
        ]

    has_root_to : (n j : ℕ) → j < n → j < count → has (node_in p (numbered_at p j)) p.root ≡ true
    has_root_to zero j few low = absurd (omega (arith, few))
    has_root_to (suc n) zero few low = first_root low
    has_root_to (suc n) (suc j) few low = root_step j low (λ g le. has_root_to n g (omega (arith, few, le)) (omega (arith, le, low)))

    has_root : (j : ℕ) → j < count → has (node_in p (numbered_at p j)) p.root ≡ true
    has_root j low = has_root_to (suc j) j (omega arith) low

    -- ---- entries

    abbrev kept : ℕ → List Node
    kept j = p.root ∷ right.nodes_of (first_of (fold_of p) j)

    root_kept : (j : ℕ) → is_among node_number (kept j) p.root ≡ true
    root_kept j = or_true (nat_eq (node_number p.root) (node_number p.root)) (is_among node_number (right.nodes_of (first_of (fold_of p) j)) p.root)
        (inl (grind (arith, nat_tests)))

    asked_kept : (j : ℕ) (ks : List (Option Which)) → AllByRecursion (IsEarlier p d bytes x plain is m told j) ks
        → AllByRecursion (λ o. is_among node_number (kept j) o ≡ true) (nodes_of x ks)
    asked_kept j [] h = tt
    asked_kept j (None ∷ ks) h = (subst (λ n. is_among node_number (kept j) n ≡ true) is.root (root_kept j), asked_kept j ks h.1)
    asked_kept j (Some k ∷ ks) h =
        let s = h.0.0 in
        let one = h.0.2 in
        let same : numbered_at p (number_of p s) ≡ s = numbered_is p s (known_there s one) in
        let node : node_at x k ≡ Some (node_in p s) = ap (node_at x) (sym h.0.1) ∙ found p d bytes x plain is m told s one in
        let first : is_among node_number (right.nodes_of (first_of (fold_of p) j)) (node_in p s) ≡ true =
        subst (λ r. is_among node_number (right.nodes_of (first_of (fold_of p) j)) (node_in p r) ≡ true) same
        (is_first (fold_of p) (number_of p s) j h.0.3) in
        subst (λ o. AllByRecursion (λ n. is_among node_number (kept j) n ≡ true) (with_first o (nodes_of x ks))) (sym node) (
          or_true (nat_eq (node_number (node_in p s)) (node_number p.root)) (is_among node_number (right.nodes_of (first_of (fold_of p) j)) (node_in p s))
              (inr first),
          asked_kept j ks h.1,
        )

    all_kept : (j : ℕ) → j < count → AllByRecursion (λ o. is_among node_number (kept j) o ≡ true) (nodes_of x (asked_by x (which_of (numbered_at p j))))
    all_kept j low =
        let s = numbered_at p j in
        asked_kept j (asked_by x (which_of s))
        (subst (λ i. AllByRecursion (IsEarlier p d bytes x plain is m told i) (asked_by x (which_of s))) (number_at j low)
        (asked_earlier p d bytes x plain is m told s (at j low)))

    -- what an entry names is kept
    guard_kept : (j : ℕ) → j < count → is_among node_number (kept j) (guard_node p (guard_of p (numbered_at p j))) ≡ true
    guard_kept j low = by (guard_of p (numbered_at p j)) ((sequence_laid p).earlier j (omega (arith, low, low_count)))
      where
        by : (o : Option ℕ) → IfSome o (λ i. i < j) → is_among node_number (kept j) (guard_node p o) ≡ true
        by None h = root_kept j
        by (Some i) h =
            or_true (nat_eq (node_number (node_in p (numbered_at p i))) (node_number p.root))
            (is_among node_number (right.nodes_of (first_of (fold_of p) j)) (node_in p (numbered_at p i))) (inr (is_first (fold_of p) i j h))

    stands_folded : (j : ℕ) → j < count → is_folded (which_of (numbered_at p j)) ≡ true → StandsIn w (kept j) ((fold_of p).entry j)
    stands_folded j low folded =
        let s = numbered_at p j in
        let one = at j low in
        let n = node_in p s in
        let g = guard_node p (guard_of p s) in
        subst (λ us. StandsIn w (kept j) (record { node = n; answer = answer_in p s; asked = g ∷ []; uses = us }))
        (reach_is p d bytes x plain is m told s one folded)
        (subst (λ a. StandsIn w (kept j) (record { node = n; answer = a; asked = g ∷ []; uses = nodes.reach_of bytes x (which_of s) }))
        (answer_is p d bytes x plain is m told s one)
        (folded_stand_in d bytes x plain (which_of s) (there p d bytes x plain is m told s one) folded n g (found p d bytes x plain is m told s one)
        (guard_is p d bytes x plain is m told s one folded) (kept j) (all_kept j low) (guard_kept j low)))

    -- a value names its field's head
    value_guard : (i : ℕ) → One (Of (Value i)) → nodes_of x (asked_by x (nodes.SizeValue i)) ≡ guard_node p (guard_of p (Of (Value i))) ∷ []
    value_guard i low =
        let few = (fields_some p low.1).0 in
        let head : One (Of (FieldHead i (sizer p))) = (low.0, omega (arith, few)) in
        ap (λ f. nodes_of x (Some (nodes.FieldHead i f) ∷ [])) (sizer_is p x is low.1)
        ∙ ap (λ o. with_first o []) (found p d bytes x plain is m told (Of (FieldHead i (sizer p))) head)
        ∙ ap (λ s. node_in p s ∷ []) (sym (numbered_is p (Of (FieldHead i (sizer p))) (known_there (Of (FieldHead i (sizer p))) head)))
        ∙ ap (λ b. guard_node p (if b then Some (index_of p (FieldHead i (sizer p))) else None) ∷ []) (sym low.1)

    stands_value : (i j : ℕ) → j < count → numbered_at p j ≡ Of (Value i) → StandsIn w (kept j) ((fold_of p).entry j)
    stands_value i j low e =
        let s = Of (Value i) in
        let one = subst One e (at j low) in
        let n = node_in p s in
        let tells = telling.tells d bytes x plain (nodes.SizeValue i) (there p d bytes x plain is m told s one) n (found p d bytes x plain is m told s one) in
        let all = subst (λ t. AllByRecursion (λ o. is_among node_number (kept j) o ≡ true) (nodes_of x (asked_by x (which_of t)))) e (all_kept j low) in
        subst (λ t. StandsIn w (kept j) (entry_of p t)) (sym e)
        (subst (λ ns. StandsIn w (kept j) (record { node = n; answer = answer_in p s; asked = ns; uses = uses_in p s })) (value_guard i one)
        (subst (λ us. StandsIn w (kept j) (record { node = n; answer = answer_in p s; asked = nodes_of x (asked_by x (nodes.SizeValue i)); uses = us }))
        (value_uses p d bytes x plain is m told i one)
        (subst (λ a. StandsIn w (kept j) (record {
          node = n;
          answer = a;
          asked = nodes_of x (asked_by x (nodes.SizeValue i));
          uses = uses_at bytes x (nodes.SizeValue i);
        }))
        (answer_is p d bytes x plain is m told s one)
        (entries_are_right d bytes (kept j) n (answer_at bytes x (nodes.SizeValue i)) (nodes_of x (asked_by x (nodes.SizeValue i)))
        (uses_at bytes x (nodes.SizeValue i))
        tells tt all))))

    stands : (j : ℕ) → j < count → StandsIn w (kept j) ((fold_of p).entry j)
    stands j low = elim (folded_or_value (numbered_at p j)) [
      | inl folded ↦ stands_folded j low folded
      | inr z ↦ stands_value z.0 j low z.1
    ]

    calls : (j : ℕ) → j < count → cost w ((fold_of p).entry j).node ≡ (fold_of p).calls j
    calls j low =
        let s = numbered_at p j in
        let one = at j low in
        ap (λ ms. length ms + 1) (Known.asked (own s one)) ∙ ap (λ n. n + 1) (asks_are p d bytes x plain is m told s one)

    are_right : IsFold w (fold_of p) count
    are_right = record {
      in_size = low_count;
      stands = stands;
      calls = calls;
      rooted = has_root;
      within = λ i j le h. covers (suc j) j (omega arith) h i le;
    }

pub sequences_are_right : SequencesAreRight
sequences_are_right p d bytes x plain is few count low =
    are_right p d bytes x plain is (x.count - 1) (before p d bytes x plain is few) count (before_room p d bytes x plain is few count low)
    (before_known p d bytes x plain is few count low)

pub open_sequences_are_right : OpenSequencesAreRight
open_sequences_are_right p d bytes x plain is few goes_on unended count low =
    are_right p d bytes x plain is x.count (every p d bytes x plain is few goes_on unended) count
    (every_room p d bytes x plain is few goes_on unended count low)
    (every_known p d bytes x plain is few goes_on unended count low)

pub whole_sequences_are_right : WholeSequencesAreRight
whole_sequences_are_right p d bytes x plain is ends =
    are_right p d bytes x plain is p.most (all p d bytes x plain is ends) (size_of p) (omega arith) (all_known p d bytes x plain is ends)
