-- Why the marks of the code are right, one upon another.
use Rattle.ksv_memo_links.proofs.Common.{◌≡◌, inl, inr, Bool, true, false, ℕ, suc, ◌+◌, ◌*◌, ◌<◌, ◌≤◌, max, min, List, [], ◌∷◌, length, map}
use Rattle.ksv_memo_links.proofs.Common.{get_or, refl, sym, ◌∙◌, ap, subst, arith, eqb_tells, Use, Change, Cause, Item, Parts, row, lists_of_uses, end_lists}
use Rattle.ksv_memo_links.proofs.Common.{page_lists, at, first_page, is_kept, Chained, IsListed, item_at, SameLinks, looks, Why, MarksMore, HitsRow, HitsRows}
use Rattle.ksv_memo_links.proofs.Common.{sizes}
use Rattle.ksv_memo_links.specs.Placed.{Used}
use Rattle.ksv_memo_links.specs.Links.{is_hit, here, through}
use Rattle.ksv_memo_links.specs.Marking.{IsCounted}
use Rattle.ksv_memo_links.specs.Forgetting.{IsEdit, HitsSlot, HitsBehind}
use Rattle.ksv_memo_links.proofs.Mark.{stays-out}
use Rattle.ksv_memo_links.proofs.More.{more-trans, no-mark, mark-none, MarksOne, one-mark, one-out, below-more}
use Rattle.ksv_memo_links.proofs.Turns.{row_of}
use Rattle.ksv_memo_links.proofs.Edits.{row_there}
use Rattle.ksv_memo_links.proofs.Tallies.{sizes-up}

-- a slot of a list has a use
pub listed-in : (rows : List (List Use)) (lists : List (List Item)) (l i : ℕ) → IsListed lists (map lists_of_uses rows) → i < length (row lists l)
    → 0 < length (row rows (item_at lists l i).owner)
listed-in rows lists l i h lt =
    let k = h.owners l i lt in
    let e = ap length (row_of lists_of_uses rows (item_at lists l i).owner refl) in
    by (row rows (item_at lists l i).owner) (omega arith)
  where
    by : (us : List Use) → 0 < length (lists_of_uses us) → 0 < length us
    by [] lt = absurd (omega arith)
    by (u ∷ us) lt = omega arith

-- who asked a slot that goes, goes
pub user-why : (p : Parts) (slot i : ℕ) → IsListed p.asks.lists p.asks.named → i < length (row p.asks.lists slot) → (first : List Bool) (x : Cause)
    → Why p first x slot → Why p first x (item_at p.asks.lists slot i).owner
user-why p slot i l lt first x w =
    let k = l.owners slot i lt in
    through (item_at p.asks.lists slot i).owner k.0 k.1 (let P : ℕ → Type 0 = λ s. Why p first x s in subst P (sym k.2) w)

-- a slot with a touched use was marked
pub hit-marked : (p q : Parts) (change : Change) (slot : ℕ) → MarksOne p q slot → is_hit change p.uses.rows slot ≡ true
    → looks q + 2 * length p.marks.work ≤ looks p + 2 + 2 * length q.marks.work → HitsSlot p q change slot
hit-marked p q change slot one t few = record {
  more = one-mark _ _ _ _ one (λ first x e k. here slot (inl (record { was_kept = k; touched = cc })));
  out = λ _. one-out _ _ _ one;
  looks = few;
}

-- a call that marks nothing
pub record Peeks (q q1 : Parts) : Type 0 where
  pub same : SameLinks q q1
  pub kept : q1.marks.kept ≡ q.marks.kept
  pub work : q1.marks.work ≡ q.marks.work
  pub rises : looks q ≤ looks q1
  pub looks : looks q1 ≤ looks q + 1
  pub least : (from : ℕ) → IsCounted from q.marks → IsCounted from q1.marks

-- one look at the asks, or at the uses
pub peek-asks : (q : Parts) (asks : Chained) → asks.named ≡ q.asks.named → asks.lists ≡ q.asks.lists → asks.looks ≤ q.asks.looks + 1 → q.asks.looks ≤ asks.looks
    → Peeks q (record { asks = asks; uses = q.uses; marks = q.marks })
peek-asks q asks named lists most least = record {
  same = record { asks = named; ask_lists = lists; uses = refl; use_lists = refl };
  kept = refl;
  work = refl;
  rises = omega arith;
  looks = omega arith;
  least = λ from h. h;
}

pub peek-uses : (q : Parts) (uses : Used) → uses.rows ≡ q.uses.rows → uses.lists ≡ q.uses.lists → uses.looks ≤ q.uses.looks + 1 → q.uses.looks ≤ uses.looks
    → Peeks q (record { asks = q.asks; uses = uses; marks = q.marks })
peek-uses q uses rows lists most least = record {
  same = record { asks = refl; ask_lists = refl; uses = rows; use_lists = lists };
  kept = refl;
  work = refl;
  rises = omega arith;
  looks = omega arith;
  least = λ from h. h;
}

pub row-none : (p : Parts) (change : Change) (items : List Item) → HitsRow p p change items 0 0
row-none p change items = record {
  more = mark-none;
  out = λ s lt. absurd (omega arith);
  within = omega arith;
  looks = omega arith;
}

pub peek-more : {p q q1 : Parts} {P : List Bool → Cause → Type 0} → MarksMore p q P → Peeks q q1 → MarksMore p q1 P
peek-more {p} {q} {q1} {P} h k = more-trans h (no-mark _ _ (λ first x. Unit {0}) k.same k.kept k.work k.least k.rises)
    (λ first x w m. tt)

pub row-more : {p q q1 r : Parts} {change : Change} {items : List Item} {i slot : ℕ} → HitsRow p q change items i 0 → Peeks q q1 → i < length items
    → slot ≡ (get_or items i (at 0 0)).owner → HitsSlot q1 r change slot → HitsRow p r change items (i + 1) 0
row-more {p} {q} {q1} {r} {change} {items} {i} {slot} h k lt e u = record {
  more = more-trans to_q1 u.more (λ first x w m. w);
  out = below-more _ _
      (λ j lj t. stays-out _ _ _ fewer (h.out j lj t)) last;
  within = omega arith;
  looks = omega (arith, ap length k.work);
}
  where
    to_q1 : MarksMore p q1 (IsEdit change)
    to_q1 = peek-more h.more k

    fewer : (s : ℕ) → is_kept r.marks.kept s ≡ true → is_kept q.marks.kept s ≡ true
    fewer s f = cc (u.more.fewer s f)

    last : is_hit change p.uses.rows (get_or items i (at 0 0)).owner ≡ true → is_kept r.marks.kept (get_or items i (at 0 0)).owner ≡ false
    last t = cc (u.out (ap (λ rows. is_hit change rows slot) to_q1.same.uses ∙ ap (is_hit change p.uses.rows) e ∙ t))

-- there is no item more, which took no look
pub row-end : {p q q1 : Parts} {change : Change} {items : List Item} {i : ℕ} → HitsRow p q change items i 0 → Peeks q q1 → looks q1 ≡ looks q
    → length items ≤ i → HitsRow p q1 change items (length items) 0
row-end {p} {q} {q1} {change} {items} {i} h k idle le =
    let w = h.within in
    let same : i ≡ length items = omega arith in
    rw (← same) (record {
      more = peek-more h.more k;
      out = λ j lj t. cc (h.out j lj t);
      within = w;
      looks = omega (arith, ap length k.work);
    })

-- the first item was looked for before the others
pub row-from : {p p1 r : Parts} {change : Change} {items : List Item} {n : ℕ} → Peeks p p1 → HitsRow p1 r change items n 0 → HitsRow p r change items n 1
row-from {p} {p1} {r} {change} {items} k h = record {
  more = more-trans to_p1 h.more (λ first x e m. e);
  out = λ i lt t. h.out i lt (cc);
  within = h.within;
  looks = omega (arith, ap length k.work);
}
  where
    to_p1 : MarksMore p p1 (IsEdit change)
    to_p1 = peek-more (row-none p change items).more k

-- the same items, found otherwise
pub row-as : {p q : Parts} {change : Change} {xs ys : List Item} → xs ≡ ys → HitsRow p q change xs (length xs) 1 → HitsRow p q change ys (length ys) 1
row-as e h = rw e at h

pub rows-none : (p : Parts) (change : Change) (lists : List (List Item)) (a : ℕ) → HitsRows p p change lists a a
rows-none p change lists a = record {
  more = mark-none;
  out = λ g i le lt k t. absurd (omega arith);
  looks = let m : max a a ≡ a = omega arith in omega (arith, ap (sizes lists) m);
}

pub rows-more : {p q r : Parts} {change : Change} {lists : List (List Item)} {a g : ℕ} → a ≤ g → HitsRows p q change lists a g
    → HitsRow q r change (row lists g) (length (row lists g)) 1 → HitsRows p r change lists a (g + 1)
rows-more {p} {q} {r} {change} {lists} {a} {g} le h k = record {
  more = more-trans h.more k.more (λ first x e n. e);
  out = λ f i l lt. elim (eqb_tells f g) [
    | inl e ↦ rw e.1 (here_it i)
    | inr e ↦ λ n t. stays-out _ _ _ k.more.fewer (h.out f i l (omega arith) n t)
  ];
  looks =
      let m : max a g ≡ g = omega arith in
      let m1 : max a (g + 1) ≡ suc g = omega arith in
      omega (arith, ap (sizes lists) m, ap (sizes lists) m1);
}
  where
    P : ℕ → ℕ → Type 0
    P f i = i < length (row lists f) → is_hit change p.uses.rows (item_at lists f i).owner ≡ true → is_kept r.marks.kept (item_at lists f i).owner ≡ false

    here_it : (i : ℕ) → P g i
    here_it i =
        rw h.more.same.uses at (k.out i)

-- the size, the ends after a place and the pages there, one after the other
pub hits-behind : (p q1 q2 r : Parts) (change : Change) (place pages : ℕ)
    → HitsRows p q1 change (end_lists p.uses.lists) 0 (min 1 (length (end_lists p.uses.lists)))
    → HitsRows q1 q2 change (end_lists p.uses.lists) (first_page place + 1) (min (pages + 1) (length (end_lists p.uses.lists)))
    → HitsRows q2 r change (page_lists p.uses.lists) (first_page place) (min pages (length (page_lists p.uses.lists)))
    → HitsBehind p r change place pages
hits-behind p q1 q2 r change place pages a b c = record {
  more = more-trans to_q2 c.more (λ first x e n. e);
  sized = λ i lt t. stays-out _ _ _ fewer
      (a.out 0 i (omega arith) (omega (arith, row_there (end_lists p.uses.lists) 0 i lt)) lt t);
  ended = λ l i le lp lt t. stays-out _ _ _ c.more.fewer
      (b.out l i (omega arith) (omega (arith, row_there (end_lists p.uses.lists) l i lt)) lt
      (cc));
  met = λ g i le lp lt t. c.out g i le (omega (arith, row_there (page_lists p.uses.lists) g i lt)) lt
      (cc to_q2.same.uses);
  looks =
      let f = first_page place in
      omega (
        arith,
        sizes-up (end_lists p.uses.lists) (max 0 (min 1 (length (end_lists p.uses.lists)))) 1 (omega arith),
        sizes-up (end_lists p.uses.lists) (max (f + 1) (min (pages + 1) (length (end_lists p.uses.lists)))) (max (f + 1) (pages + 1)) (omega arith),
        sizes-up (page_lists p.uses.lists) (max f (min pages (length (page_lists p.uses.lists)))) (max f pages) (omega arith),
      );
}
  where
    to_q2 : MarksMore p q2 (IsEdit change)
    to_q2 = more-trans a.more b.more (λ first x e n. e)

    fewer : (s : ℕ) → is_kept r.marks.kept s ≡ true → is_kept q1.marks.kept s ≡ true
    fewer s e = b.more.fewer s (c.more.fewer s e)
