-- The chains stay whole when one entry is linked or unlinked.
use Rattle.ksv_memo_links.proofs.Common.{◌≡◌, ◌≢◌, ◌⊎◌, inl, inr, true, false, eqb, cond, ℕ, zero, suc, ◌+◌, ◌-◌, ◌<◌, ◌≤◌, List, [], ◌∷◌, ◌++◌, length, take}
use Rattle.ksv_memo_links.proofs.Common.{set, get_or, refl, sym, ◌∙◌, ap, subst, arith, cases_lt, eqb_tells, length-map, get_or-map, get_or_past}
use Rattle.ksv_memo_links.proofs.Common.{get_or-set_same, get_or-set_other, get_or_default, Entry, Block, row, push_row, pop_row, naming, one_if, entry_at}
use Rattle.ksv_memo_links.proofs.Common.{block_at, first_at, lists_in, named_of, hop, IsChain, IsLive, IsChained, IsFree}
use Rattle.std.proofs.Common.{◌^◌}
use Rattle.std.proofs.lemmas.Bool.{cases_eq}
use Rattle.std.proofs.lemmas.List.{same_lists, map-set, take_at, get_or_push}
use Rattle.ksv_memo_links.specs.Chained.{before_of, Unlinks, Links}
use Rattle.ksv_memo_links.proofs.Counts.{naming-push, naming-pop}
use Rattle.ksv_memo_links.proofs.Chaining.{apart, IsSameFor, same-hop, same-chain, hop-low, hop-high, skip, cut-chain, more-hop, more-chain}

-- a block of no entries
abbrev pub no_block : Block
no_block = record { begin = 0; count = 0 }

-- how many entries name a list
abbrev pub many : List Entry → List Block → ℕ → ℕ
many a B l = naming (named_of a B) l

-- ---- the lists of blocks
pub block-length : (a : List Entry) (p n : ℕ) → length (lists_in a p n) ≡ n
block-length a p zero = refl
block-length a p (suc n) = omega (arith, block-length a (p + 1) n)

pub block-get : (a : List Entry) (p n i : ℕ) → i < n → get_or (lists_in a p n) i 0 ≡ (entry_at a (p + i)).list
block-get a p zero i lt = absurd (omega arith)
block-get a p (suc n) zero lt = let e : p ≡ p + 0 = omega arith in ap (λ q. (entry_at a q).list) e
block-get a p (suc n) (suc i) lt = let e : p + 1 + i ≡ p + suc i = omega arith in cc (block-get a (p + 1) n i (omega arith))

pub block-more : (a : List Entry) (p n : ℕ) → lists_in a p (suc n) ≡ lists_in a p n ++ (entry_at a (p + n)).list ∷ []
block-more a p zero = let e : p ≡ p + 0 = omega arith in ap (λ q. (entry_at a q).list ∷ []) e
block-more a p (suc n) = let e : p + 1 + n ≡ p + suc n =
    omega arith in ap (λ ns. (entry_at a p).list ∷ ns) (cc (block-more a (p + 1) n))

pub block-same : (a b : List Entry) (p n : ℕ) → ((q : ℕ) → p ≤ q → q < p + n → (entry_at b q).list ≡ (entry_at a q).list) → lists_in b p n ≡ lists_in a p n
block-same a b p zero h = refl
block-same a b p (suc n) h =
    cc (h p (omega arith) (omega arith), block-same a b (p + 1) n (λ q le lt. h q (omega arith) (omega arith)))

pub named-length : (a : List Entry) (B : List Block) → length (named_of a B) ≡ length B
named-length a B = length-map B (λ (b : Block). lists_in a b.begin b.count)

pub named-row : (a : List Entry) (B : List Block) (s : ℕ) → row (named_of a B) s ≡ lists_in a (block_at B s).begin (block_at B s).count
named-row a B s = elim (cases_lt s (length B)) [
  | inl lt ↦ get_or-map _ _ _ _ _ lt
  | inr le ↦ cc (get_or_past (named_of a B) s [] (omega (arith, named-length a B)), get_or_past B s (record { begin = 0; count = 0 }) le)
]

pub row-length : (a : List Entry) (B : List Block) (s : ℕ) → length (row (named_of a B) s) ≡ (block_at B s).count
row-length a B s = ap length (named-row a B s) ∙ block-length a (block_at B s).begin _

-- the lists of blocks depend on their entries alone
pub named-same : (a b : List Entry) (B : List Block) → ((s p : ℕ) → IsLive B s p → (entry_at b p).list ≡ (entry_at a p).list) → named_of b B ≡ named_of a B
named-same a b B h = same_lists (named_of b B) (named_of a B) (named-length b B ∙ sym (named-length a B)) (λ s d lt. by s d lt)
  where
    rows : (s : ℕ) → row (named_of b B) s ≡ row (named_of a B) s
    rows s = named-row b B s ∙ block-same a b (block_at B s).begin (block_at B s).count (λ q le lt. h s q (record { from = le; until = lt }))
        ∙ sym (named-row a B s)

    by : (s : ℕ) (d : List ℕ) → s < length (named_of b B) → get_or (named_of b B) s d ≡ get_or (named_of a B) s d
    by s d lt = get_or_default (named_of b B) s d [] lt ∙ rows s
        ∙ sym (get_or_default (named_of a B) s d [] (omega (arith, named-length a B, named-length b B)))

-- what has a block is an owner
pub owner-there : (B : List Block) (s p : ℕ) → IsLive B s p → s < length B
owner-there B s p h = elim (cases_lt s (length B)) [
  | inl lt ↦ lt
  | inr le ↦ let e = ap (λ b. b.begin + b.count) (get_or_past B s no_block le) in
      absurd (omega arith)
]

one_same : (l m : ℕ) → eqb l m ≡ true → one_if l m ≡ 1
one_same l m e = ap (λ b. cond b 1 0) e

one_other : (l m : ℕ) → eqb l m ≡ false → one_if l m ≡ 0
one_other l m e = ap (λ b. cond b 1 0) e

-- a block that is the same has the same places
pub live-as : {B : List Block} (C : List Block) {t q : ℕ} → block_at C t ≡ block_at B t → IsLive B t q → IsLive C t q
live-as C e v =
    let e0 = ap (λ x. x.begin) e in let e1 = ap (λ x. x.count) e in
    record { from = omega arith; until = omega arith }

-- a list that nothing names has no first entry
first-none : {a : List Entry} {B : List Block} {f : List ℕ} → IsChained a B f → (l : ℕ) → many a B l ≤ 0 → first_at f l ≡ 0
first-none {a} {B} {f} h l le = let z : many a B l ≡ 0 = omega arith in cc (h.chains l).ends

-- where the next entry of an owner goes, there is no entry of a block or a chain
module _ {a : List Entry} {B : List Block} {f : List ℕ} (s bg : ℕ) {k p : ℕ} (h : IsChained a B f) (count : k ≡ (block_at B s).count)
    (begin : 0 < k → bg ≡ (block_at B s).begin) (at : p ≡ bg + k) (free : IsFree B s p) (some : 0 < p) where
  pub not-live : {t : ℕ} → IsLive B t p → ⊥
  not-live {t} v = by (eqb_tells t s)
    where
      by : ((eqb t s ≡ true) × (t ≡ s)) ⊎ ((eqb t s ≡ false) × (t ≢ s)) → ⊥
      by (inr e) = free t e.1 v
      by (inl e) = here_it (rw e.1 at v) (cases_lt 0 k)
        where
          here_it : IsLive B s p → (0 < k) ⊎ (k ≤ 0) → ⊥
          here_it w (inl lt) = omega (arith, begin lt)
          here_it w (inr le) = omega arith

  pub off-chain : (x i : ℕ) → i < many a B x → hop a (first_at f x) i ≢ p
  off-chain x i lt e = not-live
      (subst (IsLive B (entry_at a (hop a (first_at f x) i)).owner) e (h.live x i lt))

  pub first-other : (l : ℕ) → first_at f l ≢ p
  first-other l e = elim (cases_lt 0 (many a B l)) [
    | inl lt ↦ off-chain l 0 lt e
    | inr le ↦ omega (arith, first-none h l le)
  ]

-- the first entry of a list is there; place 0 is, where there is none
pub first-inside : {a : List Entry} {B : List Block} {f : List ℕ} (l : ℕ) → IsChained a B f → 0 < length a → first_at f l < length a
first-inside {a} {B} {f} l h some = elim (cases_lt 0 (many a B l)) [
  | inl lt ↦ (h.chains l).inside 0 lt
  | inr le ↦ omega (arith, first-none h l le)
]

-- with more places the entries are as they were
module _ (a b : List Entry) (B : List Block) (f : List ℕ) (h : IsChained a B f) (more : length a ≤ length b) (few : length b < 2 ^ 32)
    (each : (p : ℕ) → entry_at b p ≡ entry_at a p) where
  pub named-still : named_of b B ≡ named_of a B
  named-still = named-same a b B (λ s p v. ap (λ x. x.list) (each p))

  all_same : (l : ℕ) → IsSameFor a b l
  all_same l = record {
    places = more;
    named = λ q lt e. cc (each q);
    next = λ q lt e. ap (λ x. x.next) (each q);
    before = λ q lt e. ap (λ x. x.before) (each q);
  }

  tally_still : (l : ℕ) → many b B l ≡ many a B l
  tally_still l = ap (λ rows. naming rows l) named-still

  hop_still : (l i : ℕ) → i ≤ many a B l → hop b (first_at f l) i ≡ hop a (first_at f l) i
  hop_still l i le = same-hop (h.chains l) (all_same l) i le

  found_still : (s p : ℕ) → IsLive B s p → (i : ℕ) × (i < many b B (entry_at b p).list) × (hop b (first_at f (entry_at b p).list) i ≡ p)
  found_still s p v =
      let k = h.found s p v in
      let l = (entry_at a p).list in
      let e : (entry_at b p).list ≡ (entry_at a p).list = ap (λ x. x.list) (each p) in
      rw e (k.0, omega (arith, tally_still (entry_at a p).list), hop_still (entry_at a p).list k.0 (omega arith) ∙ k.2)

  live_still : (l i : ℕ) → i < many b B l → IsLive B (entry_at b (hop b (first_at f l) i)).owner (hop b (first_at f l) i)
  live_still l i lt =
      let m = tally_still l in
      let v = h.live l i (omega arith) in
      rw (hop_still l i (omega arith)) (rw (ap (λ x. x.owner) (each (hop a (first_at f l) i))) v)

  pub chained-still : IsChained b B f
  chained-still = record {
    chains = λ l. subst (IsChain b l (first_at f l)) (sym (tally_still l))
        (same-chain (h.chains l) (all_same l));
    inside = λ s p v. omega (arith, h.inside s p v);
    owner = λ s p v. cc (each p, h.owner s p v);
    found = found_still;
    live = live_still;
    fits = few;
  }

-- ---- one more entry of an owner
module _ {a b : List Entry} {B : List Block} {f g : List ℕ} {s : ℕ} (bg : ℕ) {k p l : ℕ} (h : IsChained a B f) (s_in : s < length B)
    (count : k ≡ (block_at B s).count) (begin : 0 < k → bg ≡ (block_at B s).begin) (at : p ≡ bg + k) (free : IsFree B s p) (some : 0 < p)
    (p_in : p < length a) (u : Links a b f g p s l) where
  abbrev pub new : Block
  new = record { begin = bg; count = suc k }

  abbrev pub now : List Block
  now = set B s new

  here_now : block_at now s ≡ new
  here_now = get_or-set_same _ _ _ _ s_in

  other_now : (t : ℕ) → t ≢ s → block_at now t ≡ block_at B t
  other_now t ne = get_or-set_other B s t new no_block ne

  not_live : (t : ℕ) → IsLive B t p → ⊥
  not_live t v = not-live s bg h count begin at free some v

  off : (x i : ℕ) → i < many a B x → hop a (first_at f x) i ≢ p
  off = off-chain s bg h count begin at free some

  keeps : {t q : ℕ} → IsLive B t q → IsLive now t q
  keeps {t} {q} v = elim (eqb_tells t s) [
    | inl e ↦ let w = rw e.1 at v in
        let bk : bg ≡ (block_at B s).begin = begin (omega arith) in
        let n0 = ap (λ x. x.begin) here_now in
        let n1 = ap (λ x. x.count) here_now in
        rw e.1 (record { from = omega arith; until = omega arith })
    | inr e ↦ live-as now (other_now t e.1) v
  ]

  -- a place of a block now is the new one or was so
  was : (t q : ℕ) → IsLive now t q → ((t ≡ s) × (q ≡ p)) ⊎ IsLive B t q
  was t q v = elim (eqb_tells t s) [
    | inl e ↦ elim (cases_eq q p) [
      | inl y ↦ inl (e.1, y)
      | inr ne ↦ let w = rw e.1 at v in
          let n0 = ap (λ x. x.begin) here_now in
          let n1 = ap (λ x. x.count) here_now in
          let bk : bg ≡ (block_at B s).begin = begin (omega arith) in
          inr (rw e.1 (record { from = omega arith; until = omega arith }))
    ]
    | inr e ↦ inr (live-as B (sym (other_now t e.1)) v)
  ]

  old_is : (t q : ℕ) → IsLive B t q → q ≢ p
  old_is t q v e = not_live t (subst (IsLive B t) e v)

  -- what is named
  same_rows : named_of b B ≡ named_of a B
  same_rows = named-same a b B (λ t q v. u.lists q (old_is t q v))

  row_old : lists_in a bg k ≡ row (named_of a B) s
  row_old = (elim (cases_lt 0 k) [
    | inl lt ↦ cc (begin lt)
    | inr le ↦ let z : k ≡ 0 = omega arith in cc
  ]) ∙ sym (named-row a B s)

  row_new : lists_in b bg (suc k) ≡ row (named_of a B) s ++ l ∷ []
  row_new =
      cc (block-more b bg k, block-same a b bg k (λ q le lt. u.lists q (λ e. absurd (omega arith))), row_old)

  pub named-more : named_of b now ≡ push_row (named_of a B) s l
  named-more =
      cc (map-set (λ (x : Block). lists_in b x.begin x.count) B s new, same_rows, row_new)

  tally : (x : ℕ) → many b now x ≡ many a B x + one_if x l
  tally x = cc (named-more, naming-push (named_of a B) s l x (omega (arith, named-length a B)))

  tally_here : many b now l ≡ suc (many a B l)
  tally_here = elim (eqb_tells l l) [
    | inl e ↦ omega (arith, tally l, one_same l l e.0)
    | inr e ↦ absurd (e.1 refl)
  ]

  tally_else : (x : ℕ) → eqb x l ≡ false → many b now x ≡ many a B x
  tally_else x e = omega (arith, tally x, one_other x l e)

  -- the chain of another list
  first_of : (x q : ℕ) → 0 < q → (entry_at a q).list ≡ x → x ≢ l → q ≢ first_at f l
  first_of x q sq e ne y = elim (cases_lt 0 (many a B l)) [
    | inl lt ↦ ne (cc ((h.chains l).of 0 lt))
    | inr le ↦ omega (arith, first-none h l le)
  ]

  -- the places of chains are not the new one, so compare there alone
  module _ (x : ℕ) (ne : x ≢ l) where
    hops : (i : ℕ) → i ≤ many a B x → hop b (first_at g x) i ≡ hop a (first_at f x) i
    hops zero le = u.others x ne
    hops (suc i) le = cc (hops i (omega arith), u.nexts (hop a (first_at f x) i) (off x i (omega arith)))

    prev : (i : ℕ) → i ≤ many a B x → before_of b (first_at g x) i ≡ before_of a (first_at f x) i
    prev zero le = refl
    prev (suc i) le = hops i (omega arith)

    else-chain : IsChain b x (first_at g x) (many a B x)
    else-chain =
        let c = h.chains x in
        record {
          some = λ i lt. omega (arith, hops i (omega arith), c.some i lt);
          inside = λ i lt. omega (arith, hops i (omega arith), c.inside i lt);
          of = λ i lt. cc (hops i (omega arith), u.lists (hop a (first_at f x) i) (off x i lt), c.of i lt);
          back = λ i lt. cc (
            hops i (omega arith),
            u.befores (hop a (first_at f x) i) (off x i lt)
                (first_of _ _ (c.some i lt) (c.of i lt) ne),
            c.back i lt,
            prev i (omega arith),
          );
          ends = hops (many a B x) (omega arith) ∙ c.ends;
        }

  chain_here : IsChain b l (first_at g l) (suc (many a B l))
  chain_here = more-chain (h.chains l) (off l) some p_in u

  hop_here : (i : ℕ) → i ≤ many a B l → hop b (first_at g l) (suc i) ≡ hop a (first_at f l) i
  hop_here i le = more-hop (h.chains l) (off l) some p_in u i le

  chains_now : (x : ℕ) → IsChain b x (first_at g x) (many b now x)
  chains_now x = elim (eqb_tells x l) [
    | inl e ↦ rw e.1 (subst (IsChain b l (first_at g l)) (sym tally_here) chain_here)
    | inr e ↦ subst (IsChain b x (first_at g x)) (sym (tally_else x e.0)) (else-chain x e.1)
  ]

  inside_now : (t q : ℕ) → IsLive now t q → q < length b
  inside_now t q v = elim (was t q v) [
    | inl e ↦ omega arith
    | inr w ↦ omega (arith, h.inside t q w)
  ]

  owner_now : (t q : ℕ) → IsLive now t q → (entry_at b q).owner ≡ t
  owner_now t q v = elim (was t q v) [
    | inl e ↦ cc
    | inr w ↦ u.owners q (old_is t q w) ∙ h.owner t q w
  ]

  abbrev Found : ℕ → Type 0
  Found q = (i : ℕ) × (i < many b now (entry_at b q).list) × (hop b (first_at g (entry_at b q).list) i ≡ q)

  found_as : (q : ℕ) {x : ℕ} → (entry_at b q).list ≡ x → ((i : ℕ) × (i < many b now x) × (hop b (first_at g x) i ≡ q)) → Found q
  found_as q e k = rw e k

  found_now : (t q : ℕ) → IsLive now t q → Found q
  found_now t q v = by (was t q v)
    where
      by : ((t ≡ s) × (q ≡ p)) ⊎ IsLive B t q → Found q
      by (inl e) = found_as q (cc) (0, omega (arith, tally_here), u.begins ∙ sym e.1)
      by (inr w) = elim (eqb_tells (entry_at a q).list l) [
        | inl e ↦ let k2 = rw e.1 at was_found in
            found_as q (same ∙ e.1) (suc k2.0, omega (arith, tally_here), hop_here k2.0 (omega arith) ∙ k2.2)
        | inr e ↦ let lt = was_found.1 in
            found_as q same (
              was_found.0,
              (omega (arith, tally_else (entry_at a q).list e.0)),
              hops (entry_at a q).list e.1 was_found.0 (omega arith)
                  ∙ was_found.2,
            )
      ]
        where
          was_found : (i : ℕ) × (i < many a B (entry_at a q).list) × (hop a (first_at f (entry_at a q).list) i ≡ q)
          was_found = h.found t q w

          same : (entry_at b q).list ≡ (entry_at a q).list
          same = u.lists q (old_is t q w)

  abbrev Stands : ℕ → Type 0
  Stands q = IsLive now (entry_at b q).owner q

  stood : (x i : ℕ) → i < many a B x → Stands (hop a (first_at f x) i)
  stood x i lt =
      let v = h.live x i lt in
      rw (u.owners (hop a (first_at f x) i) (off x i lt)) (keeps v)

  live_here : (i : ℕ) → i < suc (many a B l) → Stands (hop b (first_at g l) i)
  live_here zero lt =
      let n0 = ap (λ x. x.begin) here_now in
      let n1 = ap (λ x. x.count) here_now in
      let v : IsLive now s p = record { from = omega arith; until = omega arith } in
      subst Stands (sym u.begins) (rw u.here.0 v)
  live_here (suc i) lt = subst Stands (sym (hop_here i (omega arith))) (stood l i (omega arith))

  live_now : (x i : ℕ) → i < many b now x → Stands (hop b (first_at g x) i)
  live_now x i lt = elim (eqb_tells x l) [
    | inl e ↦ let lt2 = rw e.1 at lt in
        rw e.1 (live_here i (omega (arith, tally_here)))
    | inr e ↦ let m = tally_else x e.0 in
        subst Stands (sym (hops x e.1 i (omega arith))) (stood x i (omega arith))
  ]

  pub chained-more : IsChained b now g
  chained-more = record {
    chains = chains_now;
    inside = inside_now;
    owner = owner_now;
    found = found_now;
    live = live_now;
    fits = omega arith;
  }

-- ---- the last entry of an owner less
module _ (a b : List Entry) (B : List Block) (f g : List ℕ) (s bg k p : ℕ) (h : IsChained a B f) (begin : bg ≡ (block_at B s).begin)
    (count : suc k ≡ (block_at B s).count) (at : p ≡ bg + k) (u : Unlinks a b f g p) where
  abbrev pub less : Block
  less = record { begin = bg; count = k }

  abbrev pub left : List Block
  left = set B s less

  abbrev l : ℕ
  l = (entry_at a p).list

  gone : IsLive B s p
  gone = record { from = omega arith; until = omega arith }

  s_in : s < length B
  s_in = owner-there B s p gone

  here_left : block_at left s ≡ less
  here_left = get_or-set_same _ _ _ _ s_in

  other_left : (t : ℕ) → t ≢ s → block_at left t ≡ block_at B t
  other_left t ne = get_or-set_other B s t less no_block ne

  live_left : {t q : ℕ} → IsLive B t q → q ≢ p → IsLive left t q
  live_left {t} {q} v np = elim (eqb_tells t s) [
    | inl e ↦ let w = rw e.1 at v in
        let n0 = ap (λ x. x.begin) here_left in
        let n1 = ap (λ x. x.count) here_left in
        rw e.1 (record { from = omega arith; until = omega arith })
    | inr e ↦ live-as _ (other_left t e.1) v
  ]

  was_live : (t q : ℕ) → IsLive left t q → IsLive B t q × (q ≢ p)
  was_live t q v = elim (eqb_tells t s) [
    | inl e ↦ let w = rw e.1 at v in
        let n0 = ap (λ x. x.begin) here_left in
        let n1 = ap (λ x. x.count) here_left in
        (rw e.1 (record { from = omega arith; until = omega arith }), λ y. absurd (omega arith))
    | inr e ↦ let w = live-as B (sym (other_left t e.1)) v in
        (w, λ y. e.1 (cc (h.owner t q w, h.owner s p gone)))
  ]

  -- what is named
  same_rows_left : named_of b B ≡ named_of a B
  same_rows_left = named-same a b B (λ t q v. u.named q)

  row_was : row (named_of a B) s ≡ lists_in a bg k ++ l ∷ []
  row_was =
      cc (named-row a B s, block-more a bg k)

  row_size : length (row (named_of a B) s) ≡ suc k
  row_size = row-length a B s ∙ sym count

  cut : take (length (row (named_of a B) s) - 1) (row (named_of a B) s) ≡ lists_in b bg k
  cut =
      let m : length (row (named_of a B) s) - 1 ≡ k = (omega (arith, row_size)) in
      cc (row_was, take_at (lists_in a bg k) (l ∷ []) k (block-length a bg k), block-same a b bg k (λ q le lt. u.named q))

  pub named-less : named_of b left ≡ pop_row (named_of a B) s
  named-less =
      cc (map-set (λ (x : Block). lists_in b x.begin x.count) B s less, same_rows_left, cut)

  last_is : get_or (row (named_of a B) s) (length (row (named_of a B) s) - 1) 0 ≡ l
  last_is =
      let m : length (row (named_of a B) s) - 1 ≡ k = (omega (arith, row_size)) in
      cc (row_was, get_or_push (lists_in a bg k) l 0 k (block-length a bg k))

  tally_left : (x : ℕ) → many b left x + one_if x l ≡ many a B x
  tally_left x =
      cc (named-less, last_is, naming-pop (named_of a B) s x (omega (arith, named-length a B, s_in)) (omega (arith, row_size)))

  tally_one : many a B l ≡ suc (many b left l)
  tally_one = elim (eqb_tells l l) [
    | inl e ↦ omega (arith, tally_left l, one_same l l e.0)
    | inr e ↦ absurd (e.1 refl)
  ]

  tally_others : (x : ℕ) → eqb x l ≡ false → many b left x ≡ many a B x
  tally_others x e = omega (arith, tally_left x, one_other x l e)

  -- where it stood
  abbrev i0 : ℕ
  i0 = (h.found s p gone).0

  i0_in : i0 < suc (many b left l)
  i0_in = omega (arith, (h.found s p gone).1, tally_one)

  stood_at : hop a (first_at f l) i0 ≡ p
  stood_at = (h.found s p gone).2

  chain_was : IsChain a l (first_at f l) (suc (many b left l))
  chain_was = subst (IsChain a l (first_at f l)) tally_one (h.chains l)

  taken : Unlinks a b f g (hop a (first_at f l) i0)
  taken = subst (Unlinks a b f g) (sym stood_at) u

  chain_cut : IsChain b l (first_at g l) (many b left l)
  chain_cut = cut-chain i0 chain_was (omega (arith, i0_in)) taken

  -- the entries next to it are of the same list
  before_asks : 0 < (entry_at a p).before → (entry_at a (entry_at a p).before).list ≡ l
  before_asks lt = by i0 refl
    where
      back : (entry_at a p).before ≡ before_of a (first_at f l) i0
      back = cc (stood_at, chain_was.back i0 i0_in)

      by : (i : ℕ) → i0 ≡ i → (entry_at a (entry_at a p).before).list ≡ l
      by zero e = let z = back in let y = ap (before_of a (first_at f l)) e in absurd (omega arith)
      by (suc i) e =
          let y = ap (before_of a (first_at f l)) e in
          cc (back, chain_was.of i (omega (arith, i0_in)))

  next_asks : 0 < (entry_at a p).next → (entry_at a (entry_at a p).next).list ≡ l
  next_asks lt = elim (cases_lt (suc i0) (suc (many b left l))) [
    | inl l2 ↦ cc (on, chain_was.of (suc i0) l2)
    | inr l2 ↦ let m : suc i0 ≡ suc (many b left l) = (omega (arith, i0_in)) in
        let y = ap (hop a (first_at f l)) m in let z = chain_was.ends in let w = on in absurd (omega arith)
  ]
    where
      on : (entry_at a p).next ≡ hop a (first_at f l) (suc i0)
      on = ap (λ q. (entry_at a q).next) (sym stood_at)

  same_for : (x : ℕ) → x ≢ l → IsSameFor a b x
  same_for x ne = record {
    places = omega arith;
    named = λ q lt e. u.named q ∙ e;
    next = λ q lt e. u.nexts q lt (λ y. ne (cc (before_asks (omega arith))));
    before = λ q lt e. u.befores q (λ y. ne (cc (next_asks (omega arith))));
  }

  hops_left : (x i : ℕ) → x ≢ l → i ≤ many a B x → hop b (first_at g x) i ≡ hop a (first_at f x) i
  hops_left x i ne le = cc (u.others x ne, same-hop (h.chains x) (same_for x ne) i le)

  chains_left : (x : ℕ) → IsChain b x (first_at g x) (many b left x)
  chains_left x = elim (eqb_tells x l) [
    | inl e ↦ rw e.1 chain_cut
    | inr e ↦ subst (IsChain b x (first_at g x)) (sym (tally_others x e.0))
        (rw (u.others x e.1) (same-chain (h.chains x) (same_for x e.1)))
  ]

  found_left : (t q : ℕ) → IsLive left t q → (i : ℕ) × (i < many b left (entry_at b q).list) × (hop b (first_at g (entry_at b q).list) i ≡ q)
  found_left t q v = rw (u.named q) (elim (eqb_tells (entry_at a q).list l) [
    | inl e ↦ let k2 = rw e.1 at was_found in
        rw e.1 (in_chain k2.0 (omega (arith, tally_one)) k2.2 (cases_lt k2.0 i0))
    | inr e ↦ let lt = was_found.1 in (
      was_found.0,
      (omega (arith, tally_others (entry_at a q).list e.0)),
      hops_left (entry_at a q).list was_found.0 e.1 (omega arith)
          ∙ was_found.2,
    )
  ])
    where
      before : IsLive B t q × (q ≢ p)
      before = was_live t q v

      was_found : (i : ℕ) × (i < many a B (entry_at a q).list) × (hop a (first_at f (entry_at a q).list) i ≡ q)
      was_found = h.found t q before.0

      in_chain : (i : ℕ) → i < suc (many b left l) → hop a (first_at f l) i ≡ q → (i < i0) ⊎ (i0 ≤ i)
          → (j : ℕ) × (j < many b left l) × (hop b (first_at g l) j ≡ q)
      in_chain i lt e (inl il) =
          (i, omega (arith, i0_in), hop-low i0 chain_was (omega (arith, i0_in)) taken i il ∙ e)
      in_chain zero lt e (inr il) =
          let z : 0 ≡ i0 = omega arith in
          absurd (before.1 (cc stood_at))
      in_chain (suc i) lt e (inr il) = elim (cases_eq (suc i) i0) [
        | inl z ↦ absurd (before.1 (cc stood_at))
        | inr z ↦ (
          i,
          omega arith,
          hop-high i0 chain_was (omega (arith, i0_in)) taken i (omega arith) (omega arith)
              ∙ e,
        )
      ]

  abbrev StandsLeft : ℕ → Type 0
  StandsLeft q = IsLive left (entry_at b q).owner q

  stood_left : (x i : ℕ) → i < many a B x → hop a (first_at f x) i ≢ p → StandsLeft (hop a (first_at f x) i)
  stood_left x i lt np = rw (u.owner (hop a (first_at f x) i)) (live_left
      (h.live x i lt) np)

  live_cut : (i : ℕ) → i < many b left l → StandsLeft (hop b (first_at g l) i)
  live_cut i lt =
      let j = skip i0 chain_was (omega (arith, i0_in)) taken i lt in
      subst StandsLeft (sym j.3)
      (stood_left l j.0 (omega (arith, tally_one))
      (λ e. j.2 (apart chain_was _ _ j.1 i0_in (e ∙ sym stood_at))))

  live_all : (x i : ℕ) → i < many b left x → StandsLeft (hop b (first_at g x) i)
  live_all x i lt = elim (eqb_tells x l) [
    | inl e ↦ let lt2 = rw e.1 at lt in
        rw e.1 (live_cut i lt2)
    | inr e ↦ let m = tally_others x e.0 in
        subst StandsLeft (sym (hops_left x i e.1 (omega arith)))
        (stood_left x i (omega arith) (λ y. e.1 (cc ((h.chains x).of i (omega arith)))))
  ]

  pub chained-less : IsChained b left g
  chained-less = record {
    chains = chains_left;
    inside = λ t q v. omega (arith, h.inside t q (was_live t q v).0);
    owner = λ t q v. u.owner q ∙ h.owner t q (was_live t q v).0;
    found = found_left;
    live = live_all;
    fits = omega arith;
  }

-- where an entry of a block leads, there are entries, and its list is there
module _ {a : List Entry} {B : List Block} {f : List ℕ} {s p : ℕ} (h : IsChained a B f) (v : IsLive B s p) where
  found_at : (i : ℕ) × (i < many a B (entry_at a p).list) × (hop a (first_at f (entry_at a p).list) i ≡ p)
  found_at = h.found s p v

  chain_of : IsChain a (entry_at a p).list (first_at f (entry_at a p).list) (many a B (entry_at a p).list)
  chain_of = h.chains (entry_at a p).list

  pub before-inside : (entry_at a p).before < length a
  before-inside = by found_at.0 refl
    where
      back : (entry_at a p).before ≡ before_of a (first_at f (entry_at a p).list) found_at.0
      back = cc (found_at.2, chain_of.back found_at.0 found_at.1)

      by : (i : ℕ) → found_at.0 ≡ i → (entry_at a p).before < length a
      by zero e =
          omega (arith, back, ap (before_of a (first_at f (entry_at a p).list)) e, h.inside s p v)
      by (suc i) e =
          let z = back in let y = ap (before_of a (first_at f (entry_at a p).list)) e in
          let m = found_at.1 in omega (arith, chain_of.inside i (omega arith))

  pub next-inside : (entry_at a p).next < length a
  next-inside = elim (cases_lt (suc found_at.0) (many a B (entry_at a p).list)) [
    | inl lt ↦ omega (arith, on, chain_of.inside (suc found_at.0) lt)
    | inr le ↦ let lt = found_at.1 in
        let e : many a B (entry_at a p).list ≡ suc found_at.0 = omega arith in
        omega (arith, ap (hop a (first_at f (entry_at a p).list)) e, on, chain_of.ends, h.inside s p v)
  ]
    where
      on : (entry_at a p).next ≡ hop a (first_at f (entry_at a p).list) (suc found_at.0)
      on = ap (λ q. (entry_at a q).next) (sym found_at.2)

  pub named-inside : (entry_at a p).list < length f
  named-inside = elim (cases_lt (entry_at a p).list (length f)) [
    | inl lt ↦ lt
    | inr le ↦ let z = get_or_past f (entry_at a p).list 0 le in
        let k = found_at.1 in let y = chain_of.some 0 (omega arith) in absurd (omega arith)
  ]
