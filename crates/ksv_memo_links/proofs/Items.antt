-- The items of a list, as the chain of its entries has them.
use Rattle.ksv_memo_links.proofs.Common.{◌≡◌, ◌≢◌, ◌⊎◌, inl, inr, ℕ, zero, suc, ◌+◌, ◌-◌, ◌<◌, ◌≤◌, List, [], ◌∷◌, length, get_or, refl, sym, ◌∙◌, ap}
use Rattle.ksv_memo_links.proofs.Common.{arith, cases_lt, get_or_past, Entry, Block, row, at, naming, entry_at, block_at, first_at, named_of, hop, IsLive}
use Rattle.ksv_memo_links.proofs.Common.{IsChained, IsListed, item_at}
use Rattle.ksv_memo_links.specs.Chained.{items_from, rows_from, lists_of}
use Rattle.ksv_memo_links.proofs.Chaining.{apart}
use Rattle.ksv_memo_links.proofs.Linking.{many, block-get, named-row, row-length}

pub users-length : (a : List Entry) (p n : ℕ) → length (items_from a p n) ≡ n
users-length a p zero = refl
users-length a p (suc n) = let h = users-length a (entry_at a p).next n in omega arith

-- one step first, or last
hop-first : (a : List Entry) (p i : ℕ) → hop a (entry_at a p).next i ≡ hop a p (suc i)
hop-first a p zero = refl
hop-first a p (suc i) = ap (λ q. (entry_at a q).next) (hop-first a p i)

pub users-get : (a : List Entry) (p n i : ℕ) → i < n → get_or (items_from a p n) i (at 0 0) ≡ at (entry_at a (hop a p i)).owner (hop a p i)
users-get a p zero i lt = absurd (omega arith)
users-get a p (suc n) zero lt = refl
users-get a p (suc n) (suc i) lt = users-get a (entry_at a p).next n i (omega arith) ∙ ap (λ q. at (entry_at a q).owner q) (hop-first a p i)

pub rows-length : (a : List Entry) (rows : List (List ℕ)) (l : ℕ) (f : List ℕ) → length (rows_from a rows l f) ≡ length f
rows-length a rows l [] = refl
rows-length a rows l (p ∷ f) = omega (arith, rows-length a rows (l + 1) f)

pub rows-row : (a : List Entry) (rows : List (List ℕ)) (l : ℕ) (f : List ℕ) (i : ℕ) → i < length f
    → row (rows_from a rows l f) i ≡ items_from a (first_at f i) (naming rows (l + i))
rows-row a rows l [] i lt = absurd (omega arith)
rows-row a rows l (p ∷ f) zero lt = let e : l ≡ l + 0 = omega arith in ap (λ k. items_from a p (naming rows k)) e
rows-row a rows l (p ∷ f) (suc i) lt = let e : l + 1 + i ≡ l + suc i = omega arith in cc (rows-row a rows (l + 1) f i (omega arith))

pub lists-length : (a : List Entry) (B : List Block) (f : List ℕ) → length (lists_of a B f) ≡ length f
lists-length a B f = rows-length a (named_of a B) 0 f

module _ {a : List Entry} {B : List Block} {f : List ℕ} (h : IsChained a B f) where
  -- no entry is of a list that isn't there
  none-past : (l : ℕ) → length f ≤ l → many a B l ≡ 0
  none-past l le = elim (cases_lt 0 (many a B l)) [
    | inl lt ↦ let s = (h.chains l).some 0 lt in let z = get_or_past f l 0 le in absurd (omega arith)
    | inr z ↦ omega arith
  ]

  pub list-row : (l : ℕ) → row (lists_of a B f) l ≡ items_from a (first_at f l) (many a B l)
  list-row l = elim (cases_lt l (length f)) [
    | inl lt ↦ let e : 0 + l ≡ l = omega arith in cc (rows-row a (named_of a B) 0 f l lt)
    | inr le ↦ cc (get_or_past (lists_of a B f) l [] (omega (arith, rows-length a (named_of a B) 0 f)), none-past l le)
  ]

  pub list-length : (l : ℕ) → length (row (lists_of a B f) l) ≡ many a B l
  list-length l = ap length (list-row l) ∙ users-length a (first_at f l) (many a B l)

  pub list-item : (l i : ℕ) → i < many a B l
      → item_at (lists_of a B f) l i ≡ at (entry_at a (hop a (first_at f l) i)).owner (hop a (first_at f l) i)
  list-item l i lt = cc (list-row l, users-get a (first_at f l) (many a B l) i lt)

  -- the place of the entry of the item after i others, 0 after the last
  pub cursor : (l i : ℕ) → i ≤ many a B l → (item_at (lists_of a B f) l i).at ≡ hop a (first_at f l) i
  cursor l i le = elim (cases_lt i (many a B l)) [
    | inl lt ↦ ap (λ x. x.at) (list-item l i lt)
    | inr ge ↦ let e : many a B l ≡ i = omega arith in
        cc (get_or_past (row (lists_of a B f) l) i (at 0 0) (omega (arith, list-length l)), (h.chains l).ends)
  ]

  -- the owner of an item has an entry of the list
  users-ask : (l i : ℕ) → i < length (row (lists_of a B f) l)
      → (k : ℕ) × (k < length (row (named_of a B) (item_at (lists_of a B f) l i).owner))
      × (get_or (row (named_of a B) (item_at (lists_of a B f) l i).owner) k 0 ≡ l)
  users-ask l i lt = rw user (p - (block_at B s).begin, count, entries)
    where
      inside : i < many a B l
      inside = omega (arith, list-length l)

      p : ℕ
      p = hop a (first_at f l) i

      s : ℕ
      s = (entry_at a (hop a (first_at f l) i)).owner

      user : (item_at (lists_of a B f) l i).owner ≡ (entry_at a (hop a (first_at f l) i)).owner
      user = ap (λ x. x.owner) (list-item l i inside)

      v : IsLive B (entry_at a (hop a (first_at f l) i)).owner (hop a (first_at f l) i)
      v = h.live l i inside

      short : p - (block_at B s).begin < (block_at B s).count
      short = omega (arith, v.from, v.until)

      count : p - (block_at B s).begin < length (row (named_of a B) s)
      count = omega (arith, row-length a B s, short)

      there : (block_at B s).begin + (p - (block_at B s).begin) ≡ p
      there = omega (arith, v.from)

      entries : get_or (row (named_of a B) s) (p - (block_at B s).begin) 0 ≡ l
      entries =
          cc (named-row a B s, block-get a (block_at B s).begin (block_at B s).count (p - (block_at B s).begin) short, there, (h.chains l).of i inside)

  -- who names a list is one of its items
  entries-use : (s k : ℕ) → k < length (row (named_of a B) s)
      → (i : ℕ) × (i < length (row (lists_of a B f) (get_or (row (named_of a B) s) k 0)))
      × ((get_or (row (lists_of a B f) (get_or (row (named_of a B) s) k 0)) i (at 0 0)).owner ≡ s)
  entries-use s k lt = rw entries (place.0, there, user)
    where
      short : k < (block_at B s).count
      short = omega (arith, row-length a B s)

      p : ℕ
      p = (block_at B s).begin + k

      v : IsLive B s ((block_at B s).begin + k)
      v = record { from = omega arith; until = omega (arith, short) }

      entries : get_or (row (named_of a B) s) k 0 ≡ (entry_at a ((block_at B s).begin + k)).list
      entries = cc (named-row a B s, block-get a (block_at B s).begin (block_at B s).count k short)

      place : (i : ℕ) × (i < many a B (entry_at a ((block_at B s).begin + k)).list)
          × (hop a (first_at f (entry_at a ((block_at B s).begin + k)).list) i ≡ (block_at B s).begin + k)
      place = h.found s ((block_at B s).begin + k) v

      there : place.0 < length (row (lists_of a B f) (entry_at a ((block_at B s).begin + k)).list)
      there = omega (arith, list-length (entry_at a ((block_at B s).begin + k)).list, place.1)

      user : (get_or (row (lists_of a B f) (entry_at a ((block_at B s).begin + k)).list) place.0 (at 0 0)).owner ≡ s
      user =
          cc (list-item (entry_at a ((block_at B s).begin + k)).list place.0 place.1, place.2, h.owner s ((block_at B s).begin + k) v)

  places-apart : (l i j : ℕ) → i < j → j ≤ length (row (lists_of a B f) l)
      → (item_at (lists_of a B f) l i).at ≢ (item_at (lists_of a B f) l j).at
  places-apart l i j lt le e = elim (cases_lt j (many a B l)) [
    | inl lj ↦ omega (arith, apart (h.chains l) i j (omega arith) lj (sym x ∙ e ∙ y))
    | inr ge ↦ let m = n in
        let w : j ≡ many a B l = omega arith in
        omega (arith, ap (hop a (first_at f l)) w, (h.chains l).some i (omega arith), x, y, (h.chains l).ends)
  ]
    where
      n : length (row (lists_of a B f) l) ≡ many a B l
      n = list-length l

      x : (item_at (lists_of a B f) l i).at ≡ hop a (first_at f l) i
      x = cursor l i (omega (arith, n))

      y : (item_at (lists_of a B f) l j).at ≡ hop a (first_at f l) j
      y = cursor l j (omega (arith, n))

  pub all-listed : IsListed (lists_of a B f) (named_of a B)
  all-listed = record {
    owners = users-ask;
    found = entries-use;
    few = λ l. omega (arith, list-length l);
    apart = places-apart;
  }

  -- at a place that an item has, its owner is found, and the place of the next item
  pub item-found : (p l i : ℕ) → p ≢ 0 → p ≡ (item_at (lists_of a B f) l i).at
      → (i < length (row (lists_of a B f) l)) × ((entry_at a p).owner ≡ (item_at (lists_of a B f) l i).owner)
      × ((entry_at a p).next ≡ (item_at (lists_of a B f) l (i + 1)).at)
  item-found p l i some e = elim (cases_lt i (many a B l)) [
    | inl lt ↦ let m = n in
        let here : p ≡ hop a (first_at f l) i = e ∙ cursor l i (omega arith) in
        let step : suc i ≡ i + 1 = omega arith in (
          omega arith,
          cc (list-item l i lt),
          cc (cursor l (i + 1) (omega arith)),
        )
    | inr ge ↦ let m = n in
        absurd (some (cc (get_or_past (row (lists_of a B f) l) i (at 0 0) (omega arith))))
  ]
    where
      n : length (row (lists_of a B f) l) ≡ many a B l
      n = list-length l

  -- place 0, and what is no place, comes after the last
  pub no-item : {p : ℕ} (l i : ℕ) → (p ≡ 0) ⊎ (length a ≤ p) → p ≡ (item_at (lists_of a B f) l i).at → length (row (lists_of a B f) l) ≤ i
  no-item {p} l i out e = elim (cases_lt i (length (row (lists_of a B f) l))) [
    | inl lt ↦ elim out [
      | inl z ↦ let n = list-length l in
          let here : p ≡ hop a (first_at f l) i = e ∙ cursor l i (omega arith) in
          let s = (h.chains l).some i (omega arith) in absurd (omega arith)
      | inr le ↦ let n = list-length l in
          let here : p ≡ hop a (first_at f l) i = e ∙ cursor l i (omega arith) in
          let s = (h.chains l).inside i (omega arith) in absurd (omega arith)
    ]
    | inr ge ↦ ge
  ]
