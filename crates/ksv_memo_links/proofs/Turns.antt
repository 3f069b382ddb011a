-- Lists that take turns: those of ends, and those of pages.
use Rattle.ksv_memo_links.proofs.Common.{◌≡◌, ◌≢◌, inl, inr, true, false, cond, ℕ, zero, suc, ◌+◌, ◌*◌, ◌/◌, ◌<◌, ◌≤◌, List, [], ◌∷◌, length, map}
use Rattle.ksv_memo_links.proofs.Common.{get_or, Contains, refl, sym, ◌∙◌, ap, arith, sum_by, cases_lt, eqb_tells, get_or-map, get_or_past, get_or_read}
use Rattle.ksv_memo_links.proofs.Common.{length-map, Contains-append_left, Contains-append_right, sum_by-cons, Use, Item, row, pages_in, ends_in, at, item_at}
use Rattle.ksv_memo_links.proofs.Common.{one_if, naming, IsListed, list_of_page, lists_of_uses, end_lists, page_lists}
use Rattle.std.proofs.lemmas.List.Sums.{sum_by-append}
use Rattle.ksv_memo_links.specs.Placed.{list_of_end, every_other}
use Rattle.ksv_memo_links.proofs.Tallies.{rows-le}

-- the number of an end and that of a page differ
pub never-meet : (end page : ℕ) → list_of_end end ≢ list_of_page page
never-meet end page e = absurd (omega arith)

-- a row of what each row gives
pub row_of : {X Y : Type 0} (f : List X → List Y) (rows : List (List X)) (s : ℕ) → f [] ≡ [] → row (map f rows) s ≡ f (row rows s)
row_of {X} {Y} f rows s none = elim (cases_lt s (length rows)) [
  | inl lt ↦ get_or-map _ _ _ _ _ lt
  | inr le ↦ cc (get_or_past (map f rows) s [] (omega (arith, length-map rows f)), get_or_past rows s [] le)
]

-- every other row
every : {X : Type 0} (lists : List (List X)) (n : ℕ)
    → (row (every_other true lists) n ≡ row lists (2 * n)) × (row (every_other false lists) n ≡ row lists (2 * n + 1))
every [] n = (refl, refl)
every {X} (x ∷ lists) zero = (refl, (every lists 0).0 ∙ (let e : suc (2 * 0) ≡ 2 * 0 + 1 = omega arith in ap (row (x ∷ lists)) e))
every {X} (x ∷ lists) (suc n) = (
  (every lists n).1 ∙ (let e : suc (2 * n + 1) ≡ 2 * suc n = omega arith in ap (row (x ∷ lists)) e),
  (every lists (suc n)).0 ∙ (let e : suc (2 * suc n) ≡ 2 * suc n + 1 = omega arith in ap (row (x ∷ lists)) e),
)

pub row-of-end : {X : Type 0} (lists : List (List X)) (end : ℕ) → row lists (list_of_end end) ≡ row (end_lists lists) end
row-of-end lists end = sym (every lists end).0

pub row-of-page : {X : Type 0} (lists : List (List X)) (page : ℕ) → row lists (list_of_page page) ≡ row (page_lists lists) page
row-of-page lists page = sym (every lists page).1

-- how many they are
counts : {X : Type 0} (lists : List X) → (length (every_other true lists) ≡ (length lists + 1) / 2) × (length (every_other false lists) ≡ length lists / 2)
counts [] = (refl, refl)
counts (x ∷ lists) = let h = counts lists in (omega arith, omega arith)

pub count-ends : {X : Type 0} (lists : List X) → length (end_lists lists) ≡ (length lists + 1) / 2
count-ends lists = (counts lists).0

pub count-pages : {X : Type 0} (lists : List X) → length (page_lists lists) ≡ length lists / 2
count-pages lists = (counts lists).1

-- ---- how often a list is named
map-named : (f : ℕ → ℕ) → ((l p : ℕ) → f l ≡ f p → l ≡ p) → (l : ℕ) (ps : List ℕ) → sum_by (one_if (f l)) (map f ps) ≡ sum_by (one_if l) ps
map-named f one l [] = refl
map-named f one l (p ∷ ps) =
    let b = sum_by-cons (one_if l) p ps in
    let e : one_if (f l) (f p) ≡ one_if l p = elim (eqb_tells l p) [
      | inl e ↦ elim (eqb_tells (f l) (f p)) [
        | inl g ↦ ap (λ b. cond b 1 0) (g.0 ∙ sym e.0)
        | inr g ↦ absurd (g.1 (ap f e.1))
      ]
      | inr e ↦ elim (eqb_tells (f l) (f p)) [
        | inl g ↦ absurd (e.1 (one l p g.1))
        | inr g ↦ ap (λ b. cond b 1 0) (g.0 ∙ sym e.0)
      ]
    ] in
    omega (arith, sum_by-cons (one_if (f l)) (f p) (map f ps), map-named f one l ps)

none-of : (l : ℕ) (f : ℕ → ℕ) → ((p : ℕ) → l ≢ f p) → (ps : List ℕ) → sum_by (one_if l) (map f ps) ≡ 0
none-of l f h [] = refl
none-of l f h (p ∷ ps) = let z : one_if l (f p) ≡ 0 = elim (eqb_tells l (f p)) [
  | inl e ↦ absurd (h p e.1)
  | inr e ↦ ap (λ b. cond b 1 0) e.0
] in omega (arith, sum_by-cons (one_if l) (f p) (map f ps), none-of l f h ps)

named-page : (g : ℕ) (us : List Use) → sum_by (one_if (list_of_page g)) (lists_of_uses us) ≡ sum_by (one_if g) (pages_in us)
named-page g us =
    let a = sum_by-append (one_if (list_of_page g)) (map list_of_page (pages_in us)) (map list_of_end (ends_in us)) in
    let b = map-named list_of_page (λ l p e. omega arith) g (pages_in us) in
    omega (arith, none-of (list_of_page g) list_of_end (λ p e. never-meet p g (sym e)) (ends_in us))

named-end : (l : ℕ) (us : List Use) → sum_by (one_if (list_of_end l)) (lists_of_uses us) ≡ sum_by (one_if l) (ends_in us)
named-end l us =
    let a = sum_by-append (one_if (list_of_end l)) (map list_of_page (pages_in us)) (map list_of_end (ends_in us)) in
    let b = map-named list_of_end (λ n p e. omega arith) l (ends_in us) in
    omega (arith, none-of (list_of_end l) list_of_page (λ p e. never-meet l p e) (pages_in us))

-- ---- what is listed by uses
-- a slot is the owner of one of these items
abbrev pub IsOwner : List Item → ℕ → Type 0
IsOwner xs s = (i : ℕ) × (i < length xs) × ((get_or xs i (at 0 0)).owner ≡ s)

-- what a number of a list gives is among what all of them give
gives : (f : ℕ → ℕ) (xs : List ℕ) (x : ℕ) → Contains xs x → Contains (map f xs) (f x)
gives f xs x c = (c.0, omega (arith, length-map xs f), get_or-map f xs c.0 x (f x) c.1 ∙ ap f c.2)

module _ (rows : List (List Use)) {lists : List (List Item)} (h : IsListed lists (map lists_of_uses rows)) where
  -- a list has no more items than what it stands for is named
  few-of : (l n : ℕ) (of : List Use → List ℕ) → of [] ≡ [] → ((us : List Use) → sum_by (one_if l) (lists_of_uses us) ≡ sum_by (one_if n) (of us))
      → length (row lists l) ≤ naming (map of rows) n
  few-of l n of none each =
      let a = h.few l in
      let b = rows-le (λ ns. sum_by (one_if l) ns) (λ ns. sum_by (one_if n) ns) (map lists_of_uses rows) (map of rows) refl refl
      (λ r. cc (row_of lists_of_uses rows r refl, each (row rows r), row_of of rows r none)) in
      omega arith

  pub few-pages : (g : ℕ) → length (row (page_lists lists) g) ≤ naming (map pages_in rows) g
  few-pages g = omega (arith, few-of (list_of_page g) g pages_in refl (named-page g), ap length (row-of-page lists g))

  pub few-ends : (l : ℕ) → length (row (end_lists lists) l) ≤ naming (map ends_in rows) l
  few-ends l = omega (arith, few-of (list_of_end l) l ends_in refl (named-end l), ap length (row-of-end lists l))

  -- a slot is in each list of its uses
  in-list : (s l : ℕ) → Contains (lists_of_uses (row rows s)) l → IsOwner (row lists l) s
  in-list s l c =
      let ns = row (map lists_of_uses rows) s in
      let k : Contains ns l = rw (row_of lists_of_uses rows s refl) c in
      rw (get_or_read ns k.0 l k.1 (sym k.2) 0) (h.found s k.0 k.1)

  pub page-item : (s g : ℕ) → Contains (pages_in (row rows s)) g → IsOwner (row (page_lists lists) g) s
  page-item s g c =
      let ps = map list_of_page (pages_in (row rows s)) in
      let es = map list_of_end (ends_in (row rows s)) in
      let there = Contains-append_left ps es (list_of_page g) (gives _ _ _ c) in
      rw (row-of-page lists g) at (in-list s (list_of_page g) there)

  pub end-item : (s l : ℕ) → Contains (ends_in (row rows s)) l → IsOwner (row (end_lists lists) l) s
  end-item s l c =
      let ps = map list_of_page (pages_in (row rows s)) in
      let es = map list_of_end (ends_in (row rows s)) in
      let there = Contains-append_right ps es (list_of_end l) (gives _ _ _ c) in
      rw (row-of-end lists l) at (in-list s (list_of_end l) there)

-- the same lists, as rows that are read alike name them
pub listed-as : {lists : List (List Item)} (rows : List (List Use)) {named : List (List ℕ)} → ((s : ℕ) → row named s ≡ lists_of_uses (row rows s))
    → IsListed lists named → IsListed lists (map lists_of_uses rows)
listed-as {lists} rows {named} each h = record {
  owners = λ l i lt. (rw (alike (item_at lists l i).owner) at (h.owners l i lt));
  found = λ s k lt. ((rw (alike s) at (h.found s k)) lt);
  few = λ l. omega (
    arith,
    h.few l,
    rows-le (λ ns. sum_by (one_if l) ns) (λ ns. sum_by (one_if l) ns) named (map lists_of_uses rows) refl refl
        (λ r. ap (sum_by (one_if l)) (alike r)),
  );
  apart = h.apart;
}
  where
    alike : (s : ℕ) → row named s ≡ row (map lists_of_uses rows) s
    alike s = each s ∙ sym (row_of lists_of_uses rows s refl)
