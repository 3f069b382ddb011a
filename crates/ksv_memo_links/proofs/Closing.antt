-- What was marked is what has to go.
use Rattle.ksv_memo_links.proofs.Common.{◌≡◌, ◌⊎◌, inl, inr, Bool, true, false, cond, ℕ, suc, ◌+◌, ◌-◌, ◌*◌, ◌<◌, ◌≤◌, max, min, List, [], ◌∷◌}
use Rattle.ksv_memo_links.proofs.Common.{length, map, take, get_or, Contains, refl, sym, ◌∙◌, ap, subst, arith, true≢false, sum_by, count_by, nat_lt}
use Rattle.ksv_memo_links.proofs.Common.{sum_by-cons, cases_lt, eqb_tells, take_all, get_or_default, Change, Cause, Item, Parts, row, pages_in, ends_in}
use Rattle.ksv_memo_links.proofs.Common.{lists_of_uses, end_lists, page_lists, one_if, first_page, end_page, is_kept, IsMarking, IsListed, item_at, SameLinks}
use Rattle.ksv_memo_links.proofs.Common.{MarksMore, Why, HitsRows, Spreads, looks, sizes}
use Rattle.std.proofs.Common.{nat_eq, nat_le, ◌||◌}
use Rattle.std.proofs.lemmas.Bool.{cases_Bool}
use Rattle.ksv_bytes.specs.declared.uses.Change.TheVariants.{Overwrite, Insert, Delete, Append}
use Rattle.ksv_memo_links.specs.Links.{is_hit, IsHit, here, through, Forgets, pages_met, met_by, asks_of}
use Rattle.ksv_memo_links.specs.Forgetting.{IsEdit, AreAlso, AreAllWithin, HitsBehind, HitsTouched, IsWhole, IsNear, IsBehind, linked_of, lengths}
use Rattle.ksv_memo_links.proofs.Edits.{row_there}
use Rattle.ksv_memo_links.proofs.Turns.{row_of, few-pages, few-ends, page-item, end-item}
use Rattle.ksv_memo_links.proofs.Mark.{stays-out}
use Rattle.ksv_memo_links.proofs.Also.{Begins}
use Rattle.ksv_memo_links.proofs.More.{same-trans, more-trans, shaped-more}
use Rattle.ksv_memo_links.proofs.Touches.{uses-meet, EndsPast, insert-past, delete-past, append-ends}
use Rattle.ksv_memo_links.proofs.Tallies.{within, tally, sizes-few, sizes-grow, sizes-up, rows-le, tally-behind, tally-ends, tally-size}
use Rattle.ksv_memo_links.proofs.Counting.{users_few, tally as tally_of}

pub marking-none : (first : List Bool) (why : ℕ → Type 0) (work : List ℕ) → work ≡ [] → IsMarking first why first work
marking-none first why work e =
    let n = ap length e in
    record {
      same_length = refl;
      less = λ s h. h;
      gone = λ j lt. absurd (omega arith);
      out = λ s h k. absurd (true≢false (sym h ∙ k));
      apart = λ i j d lt l. absurd (omega arith);
    }

-- each slot that the overwrite touches is marked
pages-hit : (p q : Parts) (place n s : ℕ) → IsListed p.uses.lists (map lists_of_uses p.uses.rows)
    → HitsRows p q (Overwrite place n) (page_lists p.uses.lists) (first_page place) (min (end_page place n) (length (page_lists p.uses.lists)))
    → IsHit (Overwrite place n) p.marks.kept p.uses.rows s → is_kept q.marks.kept s ≡ false
pages-hit p q place n s l h hit =
    let m = uses-meet place n (row p.uses.rows s) hit.touched in
    let i = page-item p.uses.rows l s m.page m.there in
    let there = row_there (page_lists p.uses.lists) m.page i.0 i.1 in
    (rw i.2 at (h.out m.page i.0 (omega arith) (omega arith) i.1)) hit.touched

pages-near : (p q : Parts) (place n : ℕ) → IsListed p.uses.lists (map lists_of_uses p.uses.rows)
    → HitsRows p q (Overwrite place n) (page_lists p.uses.lists) (first_page place) (min (end_page place n) (length (page_lists p.uses.lists)))
    → looks q + 2 * length p.marks.work ≤ looks p + pages_met (Overwrite place n) + 3 * sum_by (met_by (Overwrite place n)) p.uses.rows
    + 2 * length q.marks.work
pages-near p q place n b h =
    let first = first_page place in
    let end = end_page place n in
    let L = page_lists p.uses.lists in
    let N = map pages_in p.uses.rows in
    let last = max first (min end (length L)) in
    let le : first ≤ end = omega arith in
    let a = sizes-few L N first (end - first) (few-pages p.uses.rows b) in
    let g = sizes-grow L last (end - last) in
    let e1 : end - first + first ≡ end = omega arith in
    let e2 : end - last + last ≡ end = omega arith in
    let t : tally first end N ≤ sum_by (met_by (Overwrite place n)) p.uses.rows =
    rows-le (λ ns. count_by (within first end) ns) (met_by (Overwrite place n)) N p.uses.rows refl refl
    (λ r. ap (count_by (within first end)) (row_of pages_in p.uses.rows r refl)) in
    omega (arith, ap (sizes L) e1, ap (sizes L) e2, ap (λ k. tally first k N) e1)

pub pages-touched : (p q : Parts) (place n pages : ℕ) → IsListed p.uses.lists (map lists_of_uses p.uses.rows)
    → HitsRows p q (Overwrite place n) (page_lists p.uses.lists) (first_page place) (min (end_page place n) (length (page_lists p.uses.lists)))
    → HitsTouched p q (Overwrite place n) pages
pages-touched p q place n pages b h = record {
  more = h.more;
  hits = λ s hit. pages-hit _ _ _ _ _ b h hit;
  near = λ o. pages-near _ _ _ _ b h;
  behind = λ o. absurd o;
}

-- ---- an insert or a delete
module _ {p q : Parts} {change : Change} {place pages : ℕ} (all : AreAllWithin pages p) (b : IsListed p.uses.lists (map lists_of_uses p.uses.rows))
    (h : HitsBehind p q change place pages) where
  -- each slot that it touches is marked
  past-hit : (s : ℕ) → is_kept p.marks.kept s ≡ true → is_hit change p.uses.rows s ≡ true → EndsPast place (row p.uses.rows s) → is_kept q.marks.kept s ≡ false
  past-hit s k t (inl (g, c, le)) =
      let i = page-item p.uses.rows b s g c in
      (rw i.2 at (h.met g i.0 le ((all s k).met g c) i.1)) t
  past-hit s k t (inr (l, c, inl z)) =
      let i = end-item p.uses.rows b s 0 (subst (Contains (ends_in (row p.uses.rows s))) z c) in
      (rw i.2 at (h.sized i.0 i.1)) t
  past-hit s k t (inr (l, c, inr lt)) =
      let i = end-item p.uses.rows b s l c in
      (rw i.2 at (h.ended l i.0 lt ((all s k).ends l c) i.1)) t

  past-near : looks q + 2 * length p.marks.work ≤ looks p + 1 + 2 * (pages - first_page place)
      + 3 * sum_by (λ us. count_by (nat_le (first_page place)) (pages_in us)) p.uses.rows
      + 3 * sum_by (λ us. count_by (λ l. nat_eq l 0 || nat_lt (first_page place) l) (ends_in us)) p.uses.rows + 2 * length q.marks.work
  past-near =
      let f = first_page place in
      let E = end_lists p.uses.lists in let L = page_lists p.uses.lists in
      let N = map pages_in p.uses.rows in let M = map ends_in p.uses.rows in
      let m = max f pages in
      let a = sizes-few L N f (m - f) (few-pages p.uses.rows b) in
      let a1 : m - f + f ≡ m = omega arith in
      let a2 = ap (sizes L) a1 in
      let a3 = ap (λ k. tally f k N) a1 in
      let a4 = tally-behind f m N in
      let a5 : sum_by (λ ns. count_by (nat_le f) ns) N ≤ sum_by (λ us. count_by (nat_le f) (pages_in us)) p.uses.rows =
      rows-le (λ ns. count_by (nat_le f) ns) (λ us. count_by (nat_le f) (pages_in us)) N p.uses.rows refl refl
      (λ r. ap (count_by (nat_le f)) (row_of pages_in p.uses.rows r refl)) in
      let n = max (f + 1) (pages + 1) in
      let d = sizes-few E M (f + 1) (n - (f + 1)) (few-ends p.uses.rows b) in
      let d1 : n - (f + 1) + (f + 1) ≡ n = omega arith in
      let d5 : sum_by (λ ns. count_by (λ l. nat_eq l 0 || nat_lt f l) ns) M ≤ sum_by (λ us. count_by (λ l. nat_eq l 0 || nat_lt f l) (ends_in us)) p.uses.rows =
      rows-le (λ ns. count_by (λ l. nat_eq l 0 || nat_lt f l) ns) (λ us. count_by (λ l. nat_eq l 0 || nat_lt f l) (ends_in us)) M p.uses.rows refl refl
      (λ r. ap (count_by (λ l. nat_eq l 0 || nat_lt f l)) (row_of ends_in p.uses.rows r refl)) in
      omega (arith, ap (sizes E) d1, ap (λ k. tally (f + 1) k M) d1, sizes-few E M 0 1 (few-ends p.uses.rows b), tally-ends f n M)

pub insert-touched : {p q : Parts} {place : ℕ} (n : ℕ) {pages : ℕ} → AreAllWithin pages p → IsListed p.uses.lists (map lists_of_uses p.uses.rows)
    → HitsBehind p q (Insert place n) place pages → HitsTouched p q (Insert place n) pages
insert-touched {p} {q} {place} n {pages} all b h = record {
  more = h.more;
  hits = λ s hit. past-hit all b h s hit.was_kept hit.touched (insert-past place n (row p.uses.rows s) hit.touched);
  near = λ o. absurd o;
  behind = λ o. past-near all b h;
}

pub delete-touched : {p q : Parts} {place : ℕ} (n : ℕ) {pages : ℕ} → AreAllWithin pages p → IsListed p.uses.lists (map lists_of_uses p.uses.rows)
    → HitsBehind p q (Delete place n) place pages → HitsTouched p q (Delete place n) pages
delete-touched {p} {q} {place} n {pages} all b h = record {
  more = h.more;
  hits = λ s hit. past-hit all b h s hit.was_kept hit.touched (delete-past place n (row p.uses.rows s) hit.touched);
  near = λ o. absurd o;
  behind = λ o. past-near all b h;
}

-- ---- an append
sized-hit : (p q : Parts) (s : ℕ) → IsListed p.uses.lists (map lists_of_uses p.uses.rows)
    → HitsRows p q Append (end_lists p.uses.lists) 0 (min 1 (length (end_lists p.uses.lists))) → IsHit Append p.marks.kept p.uses.rows s
    → is_kept q.marks.kept s ≡ false
sized-hit p q s e h hit =
    let c = append-ends (row p.uses.rows s) hit.touched in
    let i = end-item p.uses.rows e s 0 c in
    let there = row_there (end_lists p.uses.lists) 0 i.0 i.1 in
    (rw i.2 at (h.out 0 i.0 (omega arith) (omega arith) i.1)) hit.touched

sized-near : (p q : Parts) → IsListed p.uses.lists (map lists_of_uses p.uses.rows)
    → HitsRows p q Append (end_lists p.uses.lists) 0 (min 1 (length (end_lists p.uses.lists)))
    → looks q + 2 * length p.marks.work ≤ looks p + 1 + 3 * sum_by (λ us. count_by (λ l. nat_eq l 0) (ends_in us)) p.uses.rows + 2 * length q.marks.work
sized-near p q e h =
    let E = end_lists p.uses.lists in
    let M = map ends_in p.uses.rows in
    let d5 : sum_by (λ ns. count_by (λ l. nat_eq l 0) ns) M ≤ sum_by (λ us. count_by (λ l. nat_eq l 0) (ends_in us)) p.uses.rows =
    rows-le (λ ns. count_by (λ l. nat_eq l 0) ns) (λ us. count_by (λ l. nat_eq l 0) (ends_in us)) M p.uses.rows refl refl
    (λ r. ap (count_by (λ l. nat_eq l 0)) (row_of ends_in p.uses.rows r refl)) in
    omega (arith, sizes-few E M 0 1 (few-ends p.uses.rows e), sizes-up E (max 0 (min 1 (length E))) 1 (omega arith), tally-size M)

pub append-touched : (p q : Parts) (pages : ℕ) → IsListed p.uses.lists (map lists_of_uses p.uses.rows)
    → HitsRows p q Append (end_lists p.uses.lists) 0 (min 1 (length (end_lists p.uses.lists))) → HitsTouched p q Append pages
append-touched p q pages e h = record {
  more = h.more;
  hits = λ s hit. sized-hit p q s e h hit;
  near = λ o. absurd o;
  behind = λ o. omega (arith, sized-near p q e h);
}

user-reached : (p q r : Parts) (s i asked : ℕ) → IsListed p.asks.lists p.asks.named → i < length (row p.asks.named s) → get_or (row p.asks.named s) i 0 ≡ asked
    → SameLinks p q → Spreads q r (length r.marks.work) 1 → Contains r.marks.work asked → is_kept r.marks.kept s ≡ false
user-reached p q r s i asked l lt e same spread c =
    let a = subst (λ m. (n : ℕ) × (n < length (row p.asks.lists m)) × ((item_at p.asks.lists m n).owner ≡ s)) e (l.found s i lt) in
    let j : get_or r.marks.work c.0 0 ≡ asked = get_or_default r.marks.work c.0 0 asked c.1 ∙ c.2 in
    let P : ℕ → Type 0 = λ n. a.0 < length (row q.asks.lists n) → is_kept r.marks.kept (item_at q.asks.lists n a.0).owner ≡ false in
    let Q : List (List Item) → Type 0 = λ lists. a.0 < length (row lists asked) → is_kept r.marks.kept (item_at lists asked a.0).owner ≡ false in
    let out = subst Q same.ask_lists (subst P j (spread.out c.0 a.0 c.1)) a.1 in
    ap (λ n. is_kept r.marks.kept n) (sym a.2) ∙ out

-- and each slot from which a marked one is reached
all-reached : {p q r : Parts} {cause : Cause} {pages : ℕ} → IsWhole p → IsListed p.asks.lists p.asks.named → Begins p q cause pages
    → Spreads q r (length r.marks.work) 1 → IsMarking p.marks.kept (Why p p.marks.kept cause) r.marks.kept r.marks.work → (s : ℕ)
    → is_kept p.marks.kept s ≡ true → Why p p.marks.kept cause s → is_kept r.marks.kept s ≡ false
all-reached {q} {r} w l h spread m _ k (here s hit) = stays-out _ _ _ spread.more.fewer (h.hits s hit)
all-reached {p} {q} {r} w l h spread m _ k (through s i lt why) =
    let asked = get_or (row p.asks.named s) i 0 in
    let was = w.asked_kept s i k lt in
    user-reached p q r s i asked l lt refl h.more.same spread (m.out asked was (all-reached w l h spread m _ was why))

-- a positive sum has a positive part
cases_sum : (f : ℕ → ℕ) (xs : List ℕ) → 0 < sum_by f xs → (k : ℕ) × (k < length xs) × (0 < f (get_or xs k 0))
cases_sum f [] lt = absurd (omega arith)
cases_sum f (x ∷ xs) lt = by (cases_lt 0 (f x)) (cases_sum f xs)
  where
    by : (0 < f x) ⊎ (f x ≤ 0) → (0 < sum_by f xs → (k : ℕ) × (k < length xs) × (0 < f (get_or xs k 0)))
        → (k : ℕ) × (k < length (x ∷ xs)) × (0 < f (get_or (x ∷ xs) k 0))
    by (inl h) later = (0, omega arith, h)
    by (inr h) later =
        let c = sum_by-cons f x xs in
        let rest = later (omega arith) in
        (suc rest.0, omega arith, rest.2)

one-is : (a b : ℕ) → 0 < one_if a b → b ≡ a
one-is a b lt = elim (eqb_tells a b) [
  | inl e ↦ sym e.1
  | inr e ↦ let z : one_if a b ≡ 0 = ap (λ x. cond x 1 0) e.0 in absurd (omega arith)
]

positive : (f : ℕ → ℕ) (xs : List ℕ) → 0 < sum_by f xs → (x : ℕ) × Contains xs x × (0 < f x)
positive f xs lt = by (cases_sum f xs lt)
  where
    by : (k : ℕ) × (k < length xs) × (0 < f (get_or xs k 0)) → (x : ℕ) × Contains xs x × (0 < f x)
    by (k, l, h) = (get_or xs k 0, (k, l, get_or_default _ _ _ _ l), h)

module _ (p q r : Parts) (cause : Cause) (pages : ℕ) (w : IsWhole p) (idle : p.marks.work ≡ []) (asks : IsListed p.asks.lists p.asks.named)
    (h : Begins p q cause pages) (spread : Spreads q r (length r.marks.work) 1) where
  same : SameLinks p r
  same = same-trans p q r h.more.same spread.more.same

  to_r : MarksMore p r (λ first x. IsEdit cause.change first x × AreAlso cause.also first x)
  to_r = more-trans h.more spread.more (λ first x e m. tt)

  marking : IsMarking p.marks.kept (Why p p.marks.kept cause) r.marks.kept r.marks.work
  marking = to_r.marking p.marks.kept cause (refl, refl) (marking-none _ _ _ idle)

  reached : (s : ℕ) → is_kept p.marks.kept s ≡ true → Why p p.marks.kept cause s → is_kept r.marks.kept s ≡ false
  reached s k y = all-reached w asks h spread marking s k y

  out : (s : ℕ) → Contains r.marks.work s → (is_kept p.marks.kept s ≡ true) × (is_kept r.marks.kept s ≡ false) × Why p p.marks.kept cause s
  out s c =
      let g = marking.gone c.0 c.1 in
      rw (get_or_default r.marks.work c.0 0 s c.1 ∙ c.2) at g

  left : (s : ℕ) → is_kept p.marks.kept s ≡ true → (Contains r.marks.work s → ⊥) → (is_kept r.marks.kept s ≡ true) ⊎ (is_kept r.marks.kept s ≡ false)
      → is_kept r.marks.kept s ≡ true
  left s k non (inl e) = e
  left s k non (inr e) = absurd (non (marking.out s k e))

  pub forgets : Forgets (linked_of p) (linked_of r) cause.change cause.also
  forgets = record {
    asked = same.asks;
    uses = same.uses;
    exact = λ s. (λ c. (let g = out s c in record { was_kept = g.0; reaches = g.2 }), λ g. marking.out s g.was_kept (reached s g.was_kept g.reaches));
    apart = marking.apart;
    slots = to_r.same_length;
    went = marking.out;
    kept = λ s. (λ k. (marking.less s k, λ c. true≢false (sym k ∙ (out s c).1)), λ k. left s k.0 k.1 (cases_Bool (is_kept r.marks.kept s)));
  }

  asked_still : (s k : ℕ) → is_kept r.marks.kept s ≡ true → k < length (row p.asks.named s) → is_kept r.marks.kept (get_or (row p.asks.named s) k 0) ≡ true
  asked_still s k e lt =
      let m = get_or (row p.asks.named s) k 0 in
      let was = w.asked_kept s k (marking.less s e) lt in
      left m was (λ c. true≢false (sym e ∙ reached s (marking.less s e) (through s k lt (out m c).2))) (cases_Bool (is_kept r.marks.kept m))

  vacant_still : (s : ℕ) → is_kept r.marks.kept s ≡ false → (Contains r.marks.work s → ⊥) → (is_kept p.marks.kept s ≡ true) ⊎ (is_kept p.marks.kept s ≡ false)
      → (row p.asks.named s ≡ []) × (row p.uses.rows s ≡ [])
  vacant_still s e non (inl k) = absurd (non (marking.out s k e))
  vacant_still s e non (inr k) = w.vacant s k (λ c. (let z = ap length idle in absurd (omega arith)))

  pub whole-after : IsWhole r
  whole-after = record {
    shaped = shaped-more p r w.shaped same to_r.same_length;
    asked_kept = λ s k e.
        (rw same.asks (asked_still s k e));
    vacant = λ s e non. (let v = vacant_still s e non (cases_Bool (is_kept p.marks.kept s)) in
        (cc same.asks, cc same.uses));
    waits = λ s c. (out s c).1;
    apart = marking.apart;
  }

  -- who asked a slot that goes, goes
  closed : (o : ℕ) → 0 < tally_of r.marks.work (row p.asks.named o) → Contains r.marks.work o
  closed o lt =
      let a = positive (λ s. sum_by (one_if s) (row p.asks.named o)) r.marks.work lt in
      let b = positive (one_if a.0) (row p.asks.named o) a.2 in
      let same_slot : b.0 ≡ a.0 = one-is _ _ b.2 in
      let k = b.1.0 in
      let name : get_or (row p.asks.named o) k 0 ≡ a.0 = get_or_default (row p.asks.named o) k 0 b.0 b.1.1 ∙ b.1.2 ∙ same_slot in
      marking.out o (elim (cases_Bool (is_kept p.marks.kept o)) [
        | inl e ↦ e
        | inr e ↦ let v = w.vacant o e (λ c. (let z = ap length idle in absurd (omega arith))) in
            let n = ap length v.0 in absurd (omega arith)
      ]) (user-reached p q r o k a.0 asks b.1.1 name h.more.same spread a.1)

  in_all : (n : ℕ) → looks q + 2 * length p.marks.work ≤ n + 2 * length q.marks.work
      → looks r ≤ n + 1 + 4 * length r.marks.work + 2 * asks_of p.asks.named r.marks.work
  in_all n a =
      omega (
        arith,
        spread.looks,
        users_few p.asks.lists p.asks.named r.marks.work marking.apart asks.few closed,
        ap (λ rows. lengths rows (take (length r.marks.work) r.marks.work)) h.more.same.ask_lists,
        ap (lengths p.asks.lists) (take_all (length r.marks.work) r.marks.work (omega arith)),
        ap length idle,
      )

  pub near : IsNear cause.change p r
  near o = omega (arith, in_all _ (h.near o))

  pub behind : IsBehind cause.change pages p r
  behind o = omega (arith, in_all _ (h.behind o))

  pub rises : looks p ≤ looks r
  rises = to_r.rises
