-- What links and frames are once one slot changed.
use Rattle.ksv_memo.proofs.Common.{◌≡◌, ◌≢◌, ℕ, zero, suc, ◌+◌, ◌-◌, ◌<◌, ◌≤◌, true, false, List, [], ◌∷◌, ◌++◌, length, map, take, drop, reverse, Option, Some}
use Rattle.ksv_memo.proofs.Common.{None, is_some, refl, sym, ◌∙◌, ap, subst, Result, slice_get, slice_set, ◌⊎◌, inl, inr, arith, length-append, option_map}
use Rattle.ksv_memo.proofs.Common.{AllByRecursion, length-set, append-nil, slice_get-map, slice_get_within, Use, row, numbers_from, Linked, Slot}
use Rattle.ksv_memo.proofs.Common.{Frame, Frames, answer_in, answer_of, answer_at, answers_at, with_first, Open, newly, IsOneOf, AllDiffer, slots_of, node_at}
use Rattle.ksv_memo.proofs.Common.{nodes_at, IsOpen, IsKept, entry_with, entry_at, entries_at, entries_of, open_before, opens_in, opens_of, AreNested}
use Rattle.ksv_memo.proofs.Common.{AreLinked, AreFrames, with_slot, IsVacant, Heard, Framed, All-map, All-both, All-++}
use Rattle.std.proofs.lemmas.List.{get_or-set_same, get_or-set_other, take-append-le, drop-append-le, length-take-le, reverse-append}
use Rattle.std.proofs.Math.Seq.{take-length, drop-length}
use Rattle.ksv_memo_links.specs.Links.{Keeps as LinksKeep}
use Rattle.ksv_memo_rules.specs.declared.replies.Slot.TheVariants.{Empty as emptied, Open as opened}
use Rattle.ksv_memo.specs.Open.{heard}
use Rattle.ksv_memo.specs.Moves.{Popped}
use Rattle.ksv_memo.specs.Nodes.{IsPut}
use Rattle.ksv_memo.proofs.Finding.{slot_there, node_there, answer_there}
use Rattle.ksv_memo.proofs.Laying.{All-take, same_or, nodes_at-append, answers_at-append, Keeps, IsUsed, HasNode, slot_has_node, stays_kept, same_nodes}
use Rattle.ksv_memo.proofs.Laying.{same_entry, same_opens, no_entry_at, entries_at-append, entries_at-same, All-numbers, numbers-split}

pub map_all : {X Y : Type 0} (f : X → Y) (P : Y → Type 0) (xs : List X) → AllByRecursion (λ x. P (f x)) xs → AllByRecursion P (map f xs)
map_all f P [] h = tt
map_all f P (x ∷ xs) h = (h.0, map_all f P xs h.1)

pub all_map : {X Y : Type 0} (f : X → Y) (P : Y → Type 0) (xs : List X) → AllByRecursion P (map f xs) → AllByRecursion (λ x. P (f x)) xs
all_map f P [] h = tt
all_map f P (x ∷ xs) h = (h.0, all_map f P xs h.1)

pub grown : {N : Type 0} (fs : List (Frame N)) (a b u v : ℕ) → a ≤ b → u ≤ v → AreNested fs a u → AreNested fs b v
grown [] a b u v h k n = tt
grown (f ∷ fs) a b u v h k n = (let le : f.asked ≤ a = n.0 in omega arith, let le : f.uses ≤ u = n.1 in omega arith, n.2)

module _ {N V F : Type 0} where
  -- the slot of a number has changed, and no other; its node is the same, if something was in it
  pub record ChangesAt (ps qs : List (N × Slot V F)) (i : ℕ) (n : N) (s : Slot V F) : Type 0 where
    pub here : slice_get qs i ≡ Some (n, s)
    pub other : (j : ℕ) → j ≢ i → slice_get qs j ≡ slice_get ps j
    pub before : (m : N) → IsUsed ps i → node_at ps i ≡ Some m → m ≡ n

  get_past : (ps : List (N × Slot V F)) (p : N × Slot V F) → slice_get (ps ++ p ∷ []) (length ps) ≡ Some p
  get_past [] p = refl
  get_past (q ∷ ps) p = get_past ps p

  get_other : (ps : List (N × Slot V F)) (p : N × Slot V F) (j : ℕ) → j ≢ length ps → slice_get (ps ++ p ∷ []) j ≡ slice_get ps j
  get_other [] p zero h = absurd (h refl)
  get_other (q ∷ ps) p (suc j) h = get_other ps p j (λ e. h (ap suc e))
  get_other _ _ _ _ = refl

  pub none_past : (ps : List (N × Slot V F)) → slice_get ps (length ps) ≡ None
  none_past [] = refl
  none_past (p ∷ ps) = none_past ps

  pub appended : (ps qs : List (N × Slot V F)) (n : N) (s : Slot V F) → qs ≡ ps ++ (n, s) ∷ [] → ChangesAt ps qs (length ps) n s
  appended ps qs n s is = record {
    here = cc (get_past ps (n, s));
    other = λ j h. cc (get_other ps (n, s) j h);
    before = λ m used e. let none : node_at ps (length ps) ≡ None = ap (option_map (λ p. p.0)) (none_past ps) in absurd (cc);
  }

  set_here : (ps : List (N × Slot V F)) (i : ℕ) (n : N) (t s : Slot V F) → slice_get ps i ≡ Some (n, t) → slice_get (with_slot ps i s) i ≡ Some (n, s)
  set_here [] i n t s e = absurd (cc)
  set_here (p ∷ ps) zero n t s e = let same : p ≡ (n, t) = cc in ap (λ q. Some (q.0, s)) same
  set_here (p ∷ ps) (suc i) n t s e = set_here ps i n t s e

  pub set_other : (ps : List (N × Slot V F)) (i j : ℕ) (s : Slot V F) → j ≢ i → slice_get (with_slot ps i s) j ≡ slice_get ps j
  set_other (p ∷ ps) zero zero s h = absurd (h refl)
  set_other (p ∷ ps) (suc i) (suc j) s h = set_other ps i j s (λ e. h (ap suc e))
  set_other _ _ _ _ _ = refl

  pub set_at : (ps qs : List (N × Slot V F)) (i : ℕ) (n : N) (t s : Slot V F) → slice_get ps i ≡ Some (n, t) → qs ≡ with_slot ps i s → ChangesAt ps qs i n s
  set_at ps qs i n t s there is = record {
    here = cc (set_here ps i n t s there);
    other = λ j h. cc (set_other ps i j s h);
    before = λ m used e. let was : node_at ps i ≡ Some n = node_there ps i n t there in let same : m ≡ n = cc in same;
  }

  pair_here : (ps : List (N × Slot V F)) (i : ℕ) (p : N × Slot V F) → i < length ps → slice_get (slice_set ps i p) i ≡ Some p
  pair_here [] i p lt = absurd (omega arith)
  pair_here (q ∷ ps) zero p lt = refl
  pair_here (q ∷ ps) (suc i) p lt = pair_here ps i p (omega arith)

  pair_other : (ps : List (N × Slot V F)) (i j : ℕ) (p : N × Slot V F) → j ≢ i → slice_get (slice_set ps i p) j ≡ slice_get ps j
  pair_other (q ∷ ps) zero zero p h = absurd (h refl)
  pair_other (q ∷ ps) (suc i) (suc j) p h = pair_other ps i j p (λ e. h (ap suc e))
  pair_other _ _ _ _ _ = refl

  -- a slot with nothing in it is another node's
  pub given : (ps qs : List (N × Slot V F)) (i : ℕ) (n : N) (s : Slot V F) → IsVacant ps i → qs ≡ slice_set ps i (n, s) → ChangesAt ps qs i n s
  given ps qs i n s vacant is = record {
    here = cc (pair_here ps i (n, s) (slice_get_within ps i (vacant.0, emptied) vacant.1));
    other = λ j h. cc (pair_other ps i j (n, s) h);
    before = λ m used e. absurd (unused used);
  }
    where
      slot : slice_get (slots_of ps) i ≡ Some emptied
      slot = slot_there ps i vacant.0 emptied vacant.1

      unused : IsUsed ps i → ⊥
      unused (inl kept) = let none : answer_at (slots_of ps) i ≡ None =
          answer_there ps i vacant.0 emptied vacant.1 in let no : is_some (answer_at (slots_of ps) i) ≡ false = ap is_some none in cc
      unused (inr waits) = let now : Some emptied ≡ Some opened = sym slot ∙ waits in cc

  length_set : (ps : List (N × Slot V F)) (i : ℕ) (s : Slot V F) → length (with_slot ps i s) ≡ length ps
  length_set (p ∷ ps) (suc i) s = ap suc (length_set ps i s)
  length_set _ _ _ = refl

  pub set_count : (ps : List (N × Slot V F)) (i : ℕ) (s : Slot V F) (qs : List (N × Slot V F)) → qs ≡ with_slot ps i s → length qs ≡ length ps
  set_count ps i s qs is = ap length is ∙ length_set ps i s

  module _ (ps qs : List (N × Slot V F)) (i : ℕ) (n : N) (s : Slot V F) (changes : ChangesAt ps qs i n s) where
    other_slot : (j : ℕ) → j ≢ i → slice_get (slots_of qs) j ≡ slice_get (slots_of ps) j
    other_slot j h = cc (slice_get-map (λ p. p.1) qs j, changes.other j h, slice_get-map (λ p. p.1) ps j)

    other_answer : (j : ℕ) → j ≢ i → answer_at (slots_of qs) j ≡ answer_at (slots_of ps) j
    other_answer j h = ap answer_of (other_slot j h)

    -- where the slot kept nothing, all that is kept stays
    pub keeps : answer_at (slots_of ps) i ≡ None → Keeps ps qs
    keeps none = record {
      nodes = λ j m used e. elim (same_or j i) [
        | inl same ↦ cc (node_there qs i n s changes.here, changes.before m (subst (IsUsed ps) same used) (ap (node_at ps) (sym same) ∙ e))
        | inr apart ↦ cc (changes.other j apart)
      ];
      answers = λ j a e. elim (same_or j i) [
        | inl same ↦ let here : answer_at (slots_of ps) i ≡ Some a = cc in absurd (cc)
        | inr apart ↦ other_answer j apart ∙ e
      ];
    }

  -- ---- the links
  module _ (ps qs : List (N × Slot V F)) (i : ℕ) (n : N) (s : Slot V F) (changes : ChangesAt ps qs i n s) (none : answer_at (slots_of ps) i ≡ None) where
    stays : Keeps ps qs
    stays = keeps ps qs i n s changes none

    -- an entry of another slot is the same
    other_entry : (l m : Linked) → AreLinked ps l → (j : ℕ) → j ≢ i → row m.asked j ≡ row l.asked j → row m.uses j ≡ row l.uses j
        → entry_at qs m j ≡ entry_at ps l j
    other_entry l m h j apart asked uses = by (answer_at (slots_of ps) j) refl
      where
        by : (o : Option (Result V F)) → answer_at (slots_of ps) j ≡ o → entry_at qs m j ≡ entry_at ps l j
        by None e = no_entry_at qs m j (other_answer ps qs i n s changes j apart ∙ e) ∙ sym (no_entry_at ps l j e)
        by (Some a) e = let kept : IsKept ps j = ap is_some e in same_entry ps qs stays l m j kept (h.asked j kept) asked uses

    -- they stay, where the slot keeps nothing now either
    pub links-stay : answer_in s ≡ None → (l : Linked) → AreLinked ps l → length qs ≤ length l.kept → AreLinked qs l
    links-stay empty l h le = record {
      kept = λ j. elim (same_or j i) [
        | inl same ↦ cc (h.kept i, now)
        | inr apart ↦ cc (h.kept j, other_answer ps qs i n s changes j apart)
      ];
      asked = λ j k. All-map (stays_kept ps qs stays) (row l.asked j) (h.asked j (elim (same_or j i) [
        | inl same ↦ let no : is_some (answer_at (slots_of qs) j) ≡ false = cc now in absurd (cc)
        | inr apart ↦ cc (other_answer ps qs i n s changes j apart)
      ]));
      idle = h.idle;
      slots = le;
    }
      where
        now : answer_at (slots_of qs) i ≡ None
        now = answer_there qs i n s changes.here ∙ empty

    same_at : (l : Linked) → AreLinked ps l → answer_in s ≡ None → (j : ℕ) → (j ≡ i) ⊎ (j ≢ i) → entry_at qs l j ≡ entry_at ps l j
    same_at l h empty j (inl same) = no_entry_at qs l j (cc (answer_there qs i n s changes.here))
        ∙ sym (no_entry_at ps l j (cc))
    same_at l h empty j (inr apart) = other_entry l l h j apart refl refl

    -- the same nodes are kept
    pub entries-stay : answer_in s ≡ None → (l : Linked) → AreLinked ps l → (more : ℕ) → length qs ≡ length ps + more
        → AllByRecursion (λ j. entry_at qs l j ≡ None) (numbers_from (length ps) more) → entries_of qs l ≡ entries_of ps l
    entries-stay empty l h more count new =
        ap (λ k. entries_at qs l (numbers_from 0 k)) count
        ∙ ap (entries_at qs l) (numbers-split 0 (length ps) more)
        ∙ entries_at-append qs l (numbers_from 0 (length ps)) (numbers_from (0 + length ps) more)
        ∙ (let e : 0 + length ps ≡ length ps = omega arith in ap (λ k. entries_at qs l (numbers_from 0 (length ps)) ++ entries_at qs l (numbers_from k more)) e)
        ∙ ap (λ xs. entries_at qs l (numbers_from 0 (length ps)) ++ xs) (nothing (numbers_from (length ps) more) new)
        ∙ append-nil (entries_at qs l (numbers_from 0 (length ps)))
        ∙ entries_at-same ps qs l l (numbers_from 0 (length ps))
        (All-numbers (λ j. entry_at qs l j ≡ entry_at ps l j) 0 (length ps) (λ j le lt. same_at l h empty j (same_or j i)))
      where
        nothing : (is : List ℕ) → AllByRecursion (λ j. entry_at qs l j ≡ None) is → entries_at qs l is ≡ []
        nothing [] k = refl
        nothing (j ∷ is) k = cc (nothing is k.1)

    -- a slot more is kept
    pub links-keep : (a : Result V F) → answer_in s ≡ Some a → (l m : Linked) (slots : List ℕ) (once : List Use) → AreLinked ps l
        → AllByRecursion (IsKept ps) slots → i < length l.kept → i < length l.asked → length qs ≤ length l.kept → LinksKeep l m i slots once → AreLinked qs m
    links-keep a is l m slots once h all lt in_asked le k = record {
      kept = λ j. elim (same_or j i) [
        | inl same ↦ cc (get_or-set_same l.kept i true false lt, here)
        | inr apart ↦ cc (get_or-set_other l.kept i j true false apart, h.kept j, other_answer ps qs i n s changes j apart)
      ];
      asked = λ j q. elim (same_or j i) [
        | inl same ↦ subst (AllByRecursion (IsKept qs))
            (sym (ap (row m.asked) same ∙ ap (λ rs. row rs i) k.asked ∙ get_or-set_same l.asked i slots [] in_asked))
            (All-map (stays_kept ps qs stays) slots all)
        | inr apart ↦ subst (AllByRecursion (IsKept qs)) (sym (ap (λ rs. row rs j) k.asked ∙ get_or-set_other l.asked i j slots [] apart))
            (All-map (stays_kept ps qs stays) (row l.asked j) (h.asked j (cc (other_answer ps qs i n s changes j apart))))
      ];
      idle = k.waits ∙ h.idle;
      slots = omega (arith, ap length k.kept, length-set l.kept i true);
    }
      where
        here : answer_at (slots_of qs) i ≡ Some a
        here = answer_there qs i n s changes.here ∙ is

    -- the kept nodes are one more, in its place
    pub entries-keep : (a : Result V F) → answer_in s ≡ Some a → (l m : Linked) (slots : List ℕ) (once : List Use) → AreLinked ps l
        → AllByRecursion (IsKept ps) slots → i < length l.asked → i < length l.uses → i < length ps → length qs ≡ length ps → LinksKeep l m i slots once
        → IsPut (record { node = n; answer = a; asked = nodes_at ps slots; uses = once }) (entries_of ps l) (entries_of qs m)
    entries-keep a is l m slots once h all in_asked in_uses lt count k =
        let rest : ℕ = length ps - (i + 1) in
        let e : length ps ≡ i + suc rest = omega arith in
        let before : List ℕ = numbers_from 0 i in
        let after : List ℕ = numbers_from (i + 1) rest in
        let cut : numbers_from 0 (length ps) ≡ before ++ i ∷ after = ap (numbers_from 0) e ∙ numbers-split 0 i (suc rest)
        ∙ (let z : 0 + i ≡ i = omega arith in ap (λ x. before ++ numbers_from x (suc rest)) z) in
        let same : (j : ℕ) → j ≢ i → entry_at qs m j ≡ entry_at ps l j =
        λ j apart. other_entry l m h j apart (ap (λ rs. row rs j) k.asked ∙ get_or-set_other l.asked i j slots [] apart)
        (ap (λ rs. row rs j) k.uses ∙ get_or-set_other l.uses i j once [] apart) in
        let now : entry_at qs m i ≡ Some (record { node = n; answer = a; asked = nodes_at ps slots; uses = once }) =
        (λ j. entry_with (node_there qs i n s changes.here j) ((answer_there qs i n s changes.here ∙ is) j)
        (nodes_at qs ((ap (λ rs. row rs i) k.asked ∙ get_or-set_same l.asked i slots [] in_asked) j))
        ((ap (λ rs. row rs i) k.uses ∙ get_or-set_same l.uses i once [] in_uses) j))
        ∙ ap (λ ns. Some (record { node = n; answer = a; asked = ns; uses = once })) (same_nodes ps qs stays slots all) in
        record {
          front = entries_at ps l before;
          back = entries_at ps l after;
          was = ap (entries_at ps l) cut ∙ entries_at-append ps l before (i ∷ after)
              ∙ ap (λ o. entries_at ps l before ++ with_first o (entries_at ps l after)) (no_entry_at ps l i none);
          now = ap (λ x. entries_at qs m (numbers_from 0 x)) count ∙ ap (entries_at qs m) cut ∙ entries_at-append qs m before (i ∷ after)
              ∙ (λ j. entries_at-same ps qs l m before (All-numbers (λ x. entry_at qs m x ≡ entry_at ps l x) 0 i (λ x le lt. same x (omega arith))) j
              ++ with_first (now j)
              (entries_at-same ps qs l m after (All-numbers (λ x. entry_at qs m x ≡ entry_at ps l x) (i + 1) rest (λ x le lt. same x (omega arith)))
              j));
        }

  -- ---- frames
  HasNode-opened : (ps : List (N × Slot V F)) (fs : List (Frame N)) → AllByRecursion (λ f. IsOpen ps f.slot) fs → AllByRecursion (λ f. HasNode ps f.slot) fs
  HasNode-opened ps fs h = All-map (λ f o. slot_has_node ps f.slot opened o) fs h

  pub frames_nodes : (ps : List (N × Slot V F)) (frames : Frames N) → AreFrames ps frames
      → AllByRecursion (λ f. HasNode ps f.slot) (reverse frames.frames.items)
  frames_nodes ps frames h = HasNode-opened ps (reverse frames.frames.items) h.waits

  module _ (ps qs : List (N × Slot V F)) (i : ℕ) (n : N) (s : Slot V F) (changes : ChangesAt ps qs i n s) (none : answer_at (slots_of ps) i ≡ None) where
    open_or : (j : ℕ) → IsOpen qs j → (j ≡ i) ⊎ IsOpen ps j
    open_or j h = elim (same_or j i) [
      | inl same ↦ inl same
      | inr apart ↦ inr (sym (other_slot ps qs i n s changes j apart) ∙ h)
    ]

    other_node : (j : ℕ) → j ≢ i → node_at qs j ≡ node_at ps j
    other_node j apart = ap (option_map (λ p. p.0)) (changes.other j apart)

    stays_open : (j : ℕ) → j ≢ i → IsOpen ps j → IsOpen qs j
    stays_open j apart h = other_slot ps qs i n s changes j apart ∙ h

    -- a node was opened
    pub frames-push : s ≡ opened → (IsOpen ps i → ⊥) → (old new : Frames N) → AreFrames ps old → Framed i n old new → AreFrames qs new
    frames-push is free old new h framed =
        let fs : List (Frame N) = reverse old.frames.items in
        let f : Frame N = framed.frame in
        let now : reverse new.frames.items ≡ f ∷ fs = cc (reverse-append old.frames.items (f ∷ [])) in
        let slot : f.slot ≡ i = framed.is_new.slot in
        let here : IsOpen qs f.slot = cc (slot, slot_there qs i n s changes.here) in
        let named : node_at qs f.slot ≡ Some f.node = cc (slot, node_there qs i n s changes.here) in
        let apart : (j : ℕ) → IsOpen ps j → j ≢ i = λ j o same. free (subst (IsOpen ps) same o) in
        let member : (j : ℕ) → IsOpen qs j → IsOneOf (map (λ f. f.slot) (f ∷ fs)) j = λ j o. by_one fs f slot h.all j (open_or j o) in
        record {
          waits = subst (AllByRecursion (λ f. IsOpen qs f.slot)) (sym now) (here, All-map (λ f o. stays_open f.slot (apart f.slot o) o) fs h.waits);
          nodes = subst (AllByRecursion (λ f. node_at qs f.slot ≡ Some f.node)) (sym now) (
            named,
            All-both (λ (g : Frame N). IsOpen ps g.slot) (λ (g : Frame N). node_at ps g.slot ≡ Some g.node)
                (λ (g : Frame N). node_at qs g.slot ≡ Some g.node) (λ g o e. other_node g.slot (apart g.slot o) ∙ e) fs h.waits h.nodes,
          );
          all = λ j o. rw now (member j o);
          once = rw now (map_all (λ (f : Frame N). f.slot) (λ j. f.slot ≢ j) fs (All-map (λ g o same. apart g.slot o (sym same ∙ slot)) fs h.waits), h.once);
          asked = subst (AllByRecursion (IsKept qs)) (sym framed.asked) (All-map (stays_kept ps qs (keeps ps qs i n s changes none)) old.asked.items h.asked);
          nested = rw now (let a : f.asked ≤ length new.asked.items =
              (let e : f.asked ≡ length new.asked.items = cc in omega arith) in
              let u : f.uses ≤ length new.uses.items =
              (let e : f.uses ≡ length new.uses.items = cc in omega arith) in (
                a,
                u,
                rw framed.is_new.asked (subst (AreNested fs (length old.asked.items)) (sym framed.is_new.uses) h.nested),
              ));
        }
      where
        by_one : (fs : List (Frame N)) (f : Frame N) → f.slot ≡ i → ((j : ℕ) → IsOpen ps j → IsOneOf (map (λ f. f.slot) fs) j) → (j : ℕ) → (j ≡ i) ⊎ IsOpen ps j
            → IsOneOf (map (λ f. f.slot) (f ∷ fs)) j
        by_one fs f slot all j (inl same) = inl (slot ∙ sym same)
        by_one fs f slot all j (inr o) = inr (all j o)

    pub opens-push : (old new : Frames N) → AreFrames ps old → Framed i n old new → opens_of qs new ≡ newly n ∷ opens_of ps old
    opens-push old new h framed =
        let fs : List (Frame N) = reverse old.frames.items in
        let f : Frame N = framed.frame in
        let now : reverse new.frames.items ≡ f ∷ fs = cc (reverse-append old.frames.items (f ∷ [])) in
        let node : node_at qs f.slot ≡ Some n = cc (node_there qs i n s changes.here) in
        let no_asks : drop f.asked old.asked.items ≡ [] = cc (drop-length old.asked.items) in
        let no_uses : drop f.uses old.uses.items ≡ [] = cc (drop-length old.uses.items) in
        let all_asks : take f.asked old.asked.items ≡ old.asked.items = cc (take-length old.asked.items) in
        let each_use : take f.uses old.uses.items ≡ old.uses.items = cc (take-length old.uses.items) in
        (λ j. opens_in qs (now j) (framed.asked j) (framed.uses j))
        ∙ (λ j. open_before (node j) (answers_at (slots_of qs) (no_asks j)) (nodes_at qs (no_asks j)) (no_uses j) (opens_in qs fs (all_asks j) (each_use j)))
        ∙ ap (λ st. newly n ∷ st) (same_opens ps qs (keeps ps qs i n s changes none) fs old.asked.items old.uses.items h.waits h.asked)

    -- the last open node was taken out
    pub frames-pop : (s ≡ opened → ⊥) → (f : Frame N) → f.slot ≡ i → (old new : Frames N) → AreFrames ps old → Popped f old new → AreFrames qs new
    frames-pop closed f slot old new h popped =
        let fs : List (Frame N) = reverse new.frames.items in
        let was : reverse old.frames.items ≡ f ∷ fs = cc (reverse-append new.frames.items (f ∷ [])) in
        let waits : AllByRecursion (λ f. IsOpen ps f.slot) (f ∷ fs) = subst (AllByRecursion (λ f. IsOpen ps f.slot)) was h.waits in
        let nodes : AllByRecursion (λ f. node_at ps f.slot ≡ Some f.node) (f ∷ fs) =
        subst (AllByRecursion (λ f. node_at ps f.slot ≡ Some f.node)) was h.nodes in
        let once : AllDiffer (map (λ f. f.slot) (f ∷ fs)) = rw was at h.once in
        let all : (j : ℕ) → IsOpen ps j → IsOneOf (map (λ f. f.slot) (f ∷ fs)) j =
        λ j o. rw was at (h.all j o) in
        let nested : AreNested (f ∷ fs) (length old.asked.items) (length old.uses.items) =
        rw was at h.nested in
        let asked : length new.asked.items ≡ f.asked = cc (length-take-le f.asked old.asked.items nested.0) in
        let uses : length new.uses.items ≡ f.uses = cc (length-take-le f.uses old.uses.items nested.1) in
        let not_here : (j : ℕ) → IsOpen qs j → j ≢ i = λ j o same. closed
        (some_same s opened (cc (slot_there qs i n s changes.here))) in
        record {
          waits = All-both (λ (g : Frame N). IsOpen ps g.slot) (λ (g : Frame N). f.slot ≢ g.slot) (λ (g : Frame N). IsOpen qs g.slot)
              (λ g o apart. stays_open g.slot (λ same. apart (slot ∙ sym same)) o) fs waits.1 (all_map (λ (g : Frame N). g.slot) (λ j. f.slot ≢ j) fs once.0);
          nodes = All-both (λ (g : Frame N). node_at ps g.slot ≡ Some g.node) (λ (g : Frame N). f.slot ≢ g.slot)
              (λ (g : Frame N). node_at qs g.slot ≡ Some g.node) (λ g e apart. other_node g.slot (λ same. apart (slot ∙ sym same)) ∙ e) fs nodes.1
              (all_map (λ (g : Frame N). g.slot) (λ j. f.slot ≢ j) fs once.0);
          all = λ j o. by_one fs f slot j (not_here j o) (open_or j o) all;
          once = once.1;
          asked = subst (AllByRecursion (IsKept qs)) (sym popped.asked)
              (All-take (IsKept qs) f.asked old.asked.items (All-map (stays_kept ps qs (keeps ps qs i n s changes none)) old.asked.items h.asked));
          nested = rw asked (subst (AreNested fs f.asked) (sym uses) nested.2);
        }
      where
        some_same : (a b : Slot V F) → Some a ≡ Some b → a ≡ b
        some_same a b e = let same : a ≡ b = cc in same

        tail_of : (fs : List (Frame N)) (f : Frame N) → f.slot ≡ i → (j : ℕ) → j ≢ i → IsOneOf (map (λ f. f.slot) (f ∷ fs)) j → IsOneOf (map (λ f. f.slot) fs) j
        tail_of fs f slot j apart (inl e) = absurd (apart (sym e ∙ slot))
        tail_of fs f slot j apart (inr m) = m

        by_one : (fs : List (Frame N)) (f : Frame N) → f.slot ≡ i → (j : ℕ) → j ≢ i → (j ≡ i) ⊎ IsOpen ps j
            → ((j : ℕ) → IsOpen ps j → IsOneOf (map (λ f. f.slot) (f ∷ fs)) j) → IsOneOf (map (λ f. f.slot) fs) j
        by_one fs f slot j apart (inl same) all = absurd (apart same)
        by_one fs f slot j apart (inr o) all = tail_of fs f slot j apart (all j o)

    -- the others are the same
    pub opens-pop : (f : Frame N) (old new : Frames N) → AreFrames ps old → Popped f old new
        → opens_of qs new ≡ opens_in ps (reverse new.frames.items) (take f.asked old.asked.items) (take f.uses old.uses.items)
    opens-pop f old new h popped =
        let fs : List (Frame N) = reverse new.frames.items in
        let was : reverse old.frames.items ≡ f ∷ fs = cc (reverse-append new.frames.items (f ∷ [])) in
        let nodes : AllByRecursion (λ f. IsOpen ps f.slot) (f ∷ fs) = subst (AllByRecursion (λ f. IsOpen ps f.slot)) was h.waits in
        (λ j. opens_in qs fs (popped.asked j) (popped.uses j))
        ∙ same_opens ps qs (keeps ps qs i n s changes none) fs (take f.asked old.asked.items) (take f.uses old.uses.items) nodes.1
        (All-take (IsKept ps) f.asked old.asked.items h.asked)

  -- ---- the last open node
  -- it gets a reply more
  pub frames-hear : (ps : List (N × Slot V F)) (j : ℕ) → IsKept ps j → (old new : Frames N) → AreFrames ps old → Heard j old new → AreFrames ps new
  frames-hear ps j kept old new h heard_it =
      let now : reverse new.frames.items ≡ reverse old.frames.items = ap reverse heard_it.frames in
      let more : length new.asked.items ≡ length old.asked.items + 1 = cc (length-append old.asked.items (j ∷ [])) in
      record {
        waits = subst (AllByRecursion (λ f. IsOpen ps f.slot)) (sym now) h.waits;
        nodes = subst (AllByRecursion (λ f. node_at ps f.slot ≡ Some f.node)) (sym now) h.nodes;
        all = λ k o. rw now (h.all k o);
        once = rw now h.once;
        asked = subst (AllByRecursion (IsKept ps)) (sym heard_it.asked) (All-++ (IsKept ps) old.asked.items (j ∷ []) h.asked (kept, tt));
        nested = rw now (grown (reverse old.frames.items) _ _ _ _ (omega arith)
            (let same : length new.uses.items ≡ length old.uses.items = ap length heard_it.uses in omega arith) h.nested);
      }

  pub opens-hear : (ps : List (N × Slot V F)) (j : ℕ) (m : N) (a : Result V F) → node_at ps j ≡ Some m → answer_at (slots_of ps) j ≡ Some a
      → (old new : Frames N) → AreFrames ps old → Heard j old new → opens_of ps new ≡ heard m a (opens_of ps old)
  opens-hear ps j m a node answer old new h heard_it =
      (λ k. opens_in ps (reverse (heard_it.frames k)) (heard_it.asked k) (heard_it.uses k))
      ∙ by (reverse old.frames.items) old.asked.items old.uses.items (frames_nodes _ _ h) h.nested
    where
      of_node : (o : Option N) → is_some o ≡ true → (replies : List (Result V F)) (asked : List N) (uses : List Use) (rest : List (Open N (Result V F)))
          → open_before o (replies ++ a ∷ []) (asked ++ m ∷ []) uses rest ≡ heard m a (open_before o replies asked uses rest)
      of_node None e replies asked uses rest = absurd (cc)
      of_node (Some n) e replies asked uses rest = refl

      by : (fs : List (Frame N)) (asked : List ℕ) (uses : List Use) → AllByRecursion (λ f. HasNode ps f.slot) fs → AreNested fs (length asked) (length uses)
          → opens_in ps fs (asked ++ j ∷ []) uses ≡ heard m a (opens_in ps fs asked uses)
      by [] asked uses nodes nested = refl
      by (f ∷ fs) asked uses nodes nested =
          let part : drop f.asked (asked ++ j ∷ []) ≡ drop f.asked asked ++ j ∷ [] = drop-append-le f.asked asked (j ∷ []) nested.0 in
          let below : take f.asked (asked ++ j ∷ []) ≡ take f.asked asked = take-append-le f.asked asked (j ∷ []) nested.0 in
          (λ k. open_before (node_at ps f.slot) (answers_at (slots_of ps) (part k)) (nodes_at ps (part k)) (drop f.uses uses)
          (opens_in ps fs (below k) (take f.uses uses)))
          ∙ (λ k. open_before (node_at ps f.slot) (answers_at-append (slots_of ps) (drop f.asked asked) (j ∷ []) k)
          (nodes_at-append ps (drop f.asked asked) (j ∷ []) k) (drop f.uses uses) (opens_in ps fs (take f.asked asked) (take f.uses uses)))
          ∙ (λ k. open_before (node_at ps f.slot) (answers_at (slots_of ps) (drop f.asked asked) ++ with_first (answer k) [])
          (nodes_at ps (drop f.asked asked) ++ with_first (node k) []) (drop f.uses uses) (opens_in ps fs (take f.asked asked) (take f.uses uses)))
          ∙ of_node (node_at ps f.slot) nodes.0 (answers_at (slots_of ps) (drop f.asked asked)) (nodes_at ps (drop f.asked asked)) (drop f.uses uses)
          (opens_in ps fs (take f.asked asked) (take f.uses uses))
