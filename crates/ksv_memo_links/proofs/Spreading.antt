-- The users of marked slots, one slot upon another.
use Rattle.ksv_memo_links.proofs.Common.{◌≡◌, inl, inr, Bool, true, false, ℕ, ◌+◌, ◌*◌, ◌<◌, ◌≤◌, List, ◌++◌, length, take, get_or, sym}
use Rattle.ksv_memo_links.proofs.Common.{◌∙◌, ap, subst, arith, length-append, get_or_append_left, get_or_read, eqb_tells, Item, Parts, row, IsListed, is_kept}
use Rattle.ksv_memo_links.proofs.Common.{item_at, looks, IsShaped, SameLinks, Why, MarksMore, HitsUsers, Spreads}
use Rattle.std.proofs.lemmas.List.{take-append-le}
use Rattle.std.proofs.lemmas.List.Sums.{sum_by_more}
use Rattle.ksv_memo_links.specs.Forgetting.{lengths}
use Rattle.ksv_memo_links.proofs.Mark.{stays-out}
use Rattle.ksv_memo_links.proofs.More.{more-trans, mark-none, why-along, MarksOne, one-mark, one-out, below-more}
use Rattle.ksv_memo_links.proofs.Hits.{Peeks, peek-more, user-why}

pub users-none : (p : Parts) (slot : ℕ) → HitsUsers p p slot 0 0
users-none p slot = record {
  more = mark-none;
  out = λ s lt. absurd (omega arith);
  within = omega arith;
  looks = omega arith;
}

-- the users of a slot are those that asked it still
asked-along : (p q : Parts) → IsListed p.asks.lists p.asks.named → SameLinks p q → IsListed q.asks.lists q.asks.named
asked-along p q h s = rw s.ask_lists (subst (IsListed p.asks.lists) (sym s.asks) h)

-- a user is one of the slots
pub user-there : (p : Parts) (slot i : ℕ) → IsShaped p → IsListed p.asks.lists p.asks.named → i < length (row p.asks.lists slot)
    → (item_at p.asks.lists slot i).owner < length p.marks.kept
user-there p slot i w h lt =
    let k = h.owners slot i lt in
    let some = k.1 in
    w.asked_in (item_at p.asks.lists slot i).owner (omega arith)

-- the first user was looked for
pub users-first : (p p1 : Parts) (slot : ℕ) → Peeks p p1 → HitsUsers p p1 slot 0 1
users-first p p1 slot k =
    let h = users-none p slot in
    record {
      more = peek-more h.more k;
      out = λ s lt. absurd (omega arith);
      within = omega arith;
      looks = let len = ap (λ (ws : List ℕ). length ws) k.work in let b = k.looks in omega arith;
    }

pub users-more : (p q q1 r : Parts) (slot i user : ℕ) → HitsUsers p q slot i 1 → Peeks q q1 → IsListed p.asks.lists p.asks.named
    → i < length (row p.asks.lists slot) → user ≡ (item_at p.asks.lists slot i).owner → MarksOne q1 r user
    → looks r + 2 * length q1.marks.work ≤ looks q1 + 1 + 2 * length r.marks.work → HitsUsers p r slot (i + 1) 1
users-more p q q1 r slot i user h k l lt e one few = record {
  more = more-trans to_q1
      (one-mark q1 r (λ first x. Why q first x slot) user one
      (λ first x w f. why-along first x (λ why. why user) k.same
      (let P : ℕ → Type 0 = λ s. Why q first x s in subst P now (user-why q slot i (asked-along p q l h.more.same) there first x w))))
      (λ first x w m. why-along first x (λ why. why slot) h.more.same w);
  out = below-more (λ j. is_kept r.marks.kept (item_at p.asks.lists slot j).owner ≡ false) i
      (λ j lj. stays-out q.marks.kept r.marks.kept (item_at p.asks.lists slot j).owner fewer (h.out j lj))
      (ap (λ s. is_kept r.marks.kept s) (sym e) ∙ one-out q1 r user one);
  within = omega arith;
  looks = let len = ap (λ (ws : List ℕ). length ws) k.work in let a = h.looks in let b = k.looks in omega arith;
}
  where
    to_q1 : MarksMore p q1 (λ first x. Why p first x slot)
    to_q1 = peek-more h.more k

    there : i < length (row q.asks.lists slot)
    there = let n = ap (λ (rows : List (List Item)). length (row rows slot)) h.more.same.ask_lists in omega arith

    now : (item_at q.asks.lists slot i).owner ≡ user
    now = ap (λ rows. (item_at rows slot i).owner) h.more.same.ask_lists ∙ sym e

    marks : MarksMore q1 r (λ first x. Unit {0} → Why q1 first x user)
    marks = one-mark q1 r (λ first x. Unit {0} → Why q1 first x user) user one (λ first x w f. w tt)

    fewer : (s : ℕ) → is_kept r.marks.kept s ≡ true → is_kept q.marks.kept s ≡ true
    fewer s f = ap (λ (ks : List Bool). is_kept ks s) (sym k.kept) ∙ marks.fewer s f

-- there is no user more, which took no look
pub users-end : (p q q1 : Parts) (slot i : ℕ) → HitsUsers p q slot i 1 → Peeks q q1 → looks q1 ≡ looks q → length (row p.asks.lists slot) ≤ i
    → HitsUsers p q1 slot (length (row p.asks.lists slot)) 1
users-end p q q1 slot i h k idle le =
    let w = h.within in
    let same : i ≡ length (row p.asks.lists slot) = omega arith in
    subst (λ m. HitsUsers p q1 slot m 1) same (record {
      more = peek-more h.more k;
      out = λ j lj. ap (λ (ks : List Bool). is_kept ks (item_at p.asks.lists slot j).owner) k.kept ∙ h.out j lj;
      within = w;
      looks = let len = ap (λ (ws : List ℕ). length ws) k.work in let a = h.looks in omega arith;
    })

pub spread-none : (p : Parts) → Spreads p p 0 0
spread-none p = record {
  more = mark-none;
  within = omega arith;
  out = λ j i lt k. absurd (omega arith);
  looks = omega arith;
}

pub spread-end : {p q q1 : Parts} {i : ℕ} → Spreads p q i 0 → Peeks q q1 → length q.marks.work ≤ i → Spreads p q1 (length q1.marks.work) 1
spread-end {p} {q} {q1} {i} h k le =
    let n = ap length k.work in
    let same : i ≡ length q1.marks.work = omega arith in
    let c : Spreads p q1 i 1 = record {
      more = peek-more h.more k;
      within = omega arith;
      out = λ j l lt. (rw k.kept (rw k.work (h.out j l lt)));
      looks = omega (arith, ap (λ ws. lengths p.asks.lists (take i ws)) k.work);
    } in
    rw same at c

pub spread-more : {p q q1 r : Parts} {i slot : ℕ} → Spreads p q i 0 → Peeks q q1 → i < length q.marks.work → slot ≡ get_or q.marks.work i slot
    → HitsUsers q1 r slot (length (row q1.asks.lists slot)) 1 → Spreads p r (i + 1) 0
spread-more {p} {q} {q1} {r} {i} {slot} h k lt is u = record {
  more = more-trans to_q1 u.more
      (λ first x w m. why-along first x (λ why. why slot) to_q1.same (rw there at (m.gone i lt1).2));
  within = omega (arith, ap length grown, length-append q.marks.work u.more.grows.0);
  out = λ j l lt2. elim (eqb_tells j i) [
    | inl e ↦ rw (ap (λ n. get_or r.marks.work n 0) e.1 ∙ early i lt ∙ at_i) (new l)
    | inr e ↦
        let lj : j < i = omega arith in
        rw (early j (omega arith)) (λ m. stays-out _ _ _ fewer (h.out j l lj m))
  ];
  looks =
      omega (arith, ap (λ rows. length (row rows slot)) to_q1.same.ask_lists, ap length k.work, sums);
}
  where
    to_q1 : MarksMore p q1 (λ first x. Unit {0})
    to_q1 = peek-more h.more k

    lt1 : i < length q1.marks.work
    lt1 = omega (arith, ap length k.work)

    at_i : get_or q.marks.work i 0 ≡ slot
    at_i = sym (get_or_read q.marks.work i slot lt is 0)

    there : get_or q1.marks.work i 0 ≡ slot
    there = cc at_i

    grown : r.marks.work ≡ q.marks.work ++ u.more.grows.0
    grown = cc

    early : (j : ℕ) → j < length q.marks.work → get_or r.marks.work j 0 ≡ get_or q.marks.work j 0
    early j l = cc (grown, get_or_append_left q.marks.work u.more.grows.0 0 j l)

    sums : lengths p.asks.lists (take (i + 1) r.marks.work) ≡ lengths p.asks.lists (take i q.marks.work) + length (row p.asks.lists slot)
    sums = cc (
      grown,
      take-append-le (i + 1) q.marks.work u.more.grows.0 (omega arith),
      sum_by_more (λ s. length (row p.asks.lists s)) q.marks.work i 0 lt,
      at_i,
    )

    P : ℕ → ℕ → Type 0
    P s l = l < length (row p.asks.lists s) → is_kept r.marks.kept (item_at p.asks.lists s l).owner ≡ false

    new : (l : ℕ) → P slot l
    new l = rw to_q1.same.ask_lists at (u.out l)

    fewer : (s : ℕ) → is_kept r.marks.kept s ≡ true → is_kept q.marks.kept s ≡ true
    fewer s e = cc (u.more.fewer s e)
