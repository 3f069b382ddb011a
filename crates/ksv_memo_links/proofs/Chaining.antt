-- A chain of entries: what is left of it when one is taken out, and with one more before it.
use Rattle.ksv_memo_links.proofs.Common.{◌≡◌, ◌≢◌, ◌⊎◌, inl, inr, ℕ, zero, suc, ◌+◌, ◌-◌, ◌<◌, ◌≤◌, List, length, refl, sym, ◌∙◌, ap, subst, arith, cases_lt}
use Rattle.ksv_memo_links.proofs.Common.{Entry, entry_at, first_at, hop, IsChain}
use Rattle.ksv_memo_links.specs.Chained.{before_of, Unlinks, Links}

-- two steps of a chain lead to two places
pub apart : {a : List Entry} {l p n : ℕ} → IsChain a l p n → (i j : ℕ) → i < n → j < n → hop a p i ≡ hop a p j → i ≡ j
apart h zero zero li lj e = refl
apart {a} h zero (suc j) li lj e =
    let x = h.back zero li in let y = h.back (suc j) lj in
    let z = ap (λ q. (entry_at a q).before) e in
    let s = h.some j (omega arith) in absurd (omega arith)
apart {a} h (suc i) zero li lj e =
    let x = h.back (suc i) li in let y = h.back zero lj in
    let z = ap (λ q. (entry_at a q).before) e in
    let s = h.some i (omega arith) in absurd (omega arith)
apart {a} {l} {p} {n} h (suc i) (suc j) li lj e =
    let x = h.back (suc i) li in let y = h.back (suc j) lj in
    let z = ap (λ q. (entry_at a q).before) e in
    ap suc (apart h i j (omega arith) (omega arith) (sym x ∙ z ∙ y))

-- entries that are as they were, but for those of other lists
pub record IsSameFor (a b : List Entry) (l : ℕ) : Type 0 where
  pub places : length a ≤ length b
  pub named : (q : ℕ) → 0 < q → (entry_at a q).list ≡ l → (entry_at b q).list ≡ l
  pub next : (q : ℕ) → 0 < q → (entry_at a q).list ≡ l → (entry_at b q).next ≡ (entry_at a q).next
  pub before : (q : ℕ) → 0 < q → (entry_at a q).list ≡ l → (entry_at b q).before ≡ (entry_at a q).before

pub same-hop : {a b : List Entry} {l p n : ℕ} → IsChain a l p n → IsSameFor a b l → (i : ℕ) → i ≤ n → hop b p i ≡ hop a p i
same-hop h s zero le = refl
same-hop {a} {b} {l} {p} {n} h s (suc i) le =
    cc (same-hop h s i (omega arith), s.next (hop a p i) (h.some i (omega arith)) (h.of i (omega arith)))

pub same-chain : {a b : List Entry} {l p n : ℕ} → IsChain a l p n → IsSameFor a b l → IsChain b l p n
same-chain {a} {b} {p} {n} h s = record {
  some = λ i lt. omega (arith, hops i (omega arith), h.some i lt);
  inside = λ i lt. omega (arith, hops i (omega arith), h.inside i lt);
  of = λ i lt. cc (hops i (omega arith), s.named (hop a p i) (h.some i lt) (h.of i lt));
  back = λ i lt. cc (hops i (omega arith), s.before (hop a p i) (h.some i lt) (h.of i lt), h.back i lt, prev i (omega arith));
  ends = hops n (omega arith) ∙ h.ends;
}
  where
    hops : (i : ℕ) → i ≤ n → hop b p i ≡ hop a p i
    hops i le = same-hop h s i le

    prev : (i : ℕ) → i ≤ n → before_of b p i ≡ before_of a p i
    prev zero le = refl
    prev (suc i) le = hops i (omega arith)

-- ---- one is taken out
module _ {a b : List Entry} {f g : List ℕ} {l n : ℕ} (k : ℕ) (h : IsChain a l (first_at f l) (suc n)) (kn : k ≤ n)
    (u : Unlinks a b f g (hop a (first_at f l) k)) where
  of_k : (entry_at a (hop a (first_at f l) k)).list ≡ l
  of_k = h.of k (omega arith)

  back_k : (entry_at a (hop a (first_at f l) k)).before ≡ before_of a (first_at f l) k
  back_k = h.back k (omega arith)

  -- a place of the chain that isn't before it leads where it led
  next_else : (i : ℕ) → i < suc n → (before_of a (first_at f l) k ≢ hop a (first_at f l) i)
      → (entry_at b (hop a (first_at f l) i)).next ≡ hop a (first_at f l) (suc i)
  next_else i lt ne = u.nexts (hop a (first_at f l) i) (h.some i lt) (λ e. ne (sym back_k ∙ sym e))

  -- at the front
  front : k ≡ 0 → (j : ℕ) → j ≤ n → hop b (first_at g l) j ≡ hop a (first_at f l) (suc j)
  front z zero le =
      let k0 : before_of a (first_at f l) k ≡ 0 = ap (before_of a (first_at f l)) z in
      cc (of_k, u.begins (back_k ∙ k0))
  front z (suc j) le =
      let k0 : before_of a (first_at f l) k ≡ 0 = ap (before_of a (first_at f l)) z in
      cc (front z j (omega arith), next_else (suc j) (omega arith) (λ e. (let s = h.some (suc j) (omega arith) in absurd (omega arith))))

  not_before : (d : ℕ) → k ≡ suc d → (entry_at a (hop a (first_at f l) k)).before ≢ 0
  not_before d z e =
      let k0 : before_of a (first_at f l) k ≡ hop a (first_at f l) d = ap (before_of a (first_at f l)) z in
      let s = h.some d (omega arith) in let y = back_k in absurd (omega arith)

  starts : (d : ℕ) → k ≡ suc d → first_at g l ≡ first_at f l
  starts d z = cc (of_k, u.stays (not_before d z))

  low : (d : ℕ) → k ≡ suc d → (j : ℕ) → j ≤ d → hop b (first_at g l) j ≡ hop a (first_at f l) j
  low d z zero le = starts d z
  low d z (suc j) le =
      let k0 : before_of a (first_at f l) k ≡ hop a (first_at f l) d = ap (before_of a (first_at f l)) z in
      cc (
        low d z j (omega arith),
        next_else j (omega arith) (λ e. (let m =
            apart h d j (omega arith) (omega arith) (sym k0 ∙ e) in absurd (omega arith))),
      )

  abbrev IsLater : ℕ → Type 0
  IsLater j = hop b (first_at g l) j ≡ hop a (first_at f l) (suc j)

  high_first : (d : ℕ) → k ≡ suc d → IsLater (suc d)
  high_first d z =
      let k0 : before_of a (first_at f l) k ≡ hop a (first_at f l) d = ap (before_of a (first_at f l)) z in
      cc (low d z d (omega arith), back_k, u.next (not_before d z))

  high_next : (d : ℕ) → k ≡ suc d → (j : ℕ) → k ≤ j → suc j ≤ n → IsLater j → IsLater (suc j)
  high_next d z j kj le e =
      let k0 : before_of a (first_at f l) k ≡ hop a (first_at f l) d = ap (before_of a (first_at f l)) z in
      cc (next_else (suc j) (omega arith) (λ y. (let x = apart h d (suc j) (omega arith) (omega arith) (sym k0 ∙ y) in
      absurd (omega arith))))

  high : (d : ℕ) → k ≡ suc d → (m : ℕ) → k + m ≤ n → IsLater (k + m)
  high d z zero le = let e : suc d ≡ k + 0 = omega arith in subst IsLater e (high_first d z)
  high d z (suc m) le = let e : suc (k + m) ≡ k + suc m =
      omega arith in subst IsLater e (high_next _ z _ (omega arith) (omega arith) (high d z m (omega arith)))

  -- the steps before it are as they were, and those after it one less
  pub hop-low : (j : ℕ) → j < k → hop b (first_at g l) j ≡ hop a (first_at f l) j
  hop-low j lt = low (k - 1) (omega arith) j (omega arith)

  pub hop-high : (j : ℕ) → k ≤ j → j ≤ n → hop b (first_at g l) j ≡ hop a (first_at f l) (suc j)
  hop-high j le ln = elim (cases_lt 0 k) [
    | inl lt ↦ let e : k + (j - k) ≡ j = omega arith in
        subst IsLater e (high (k - 1) (omega arith) (j - k) (omega arith))
    | inr z ↦ front (omega arith) j ln
  ]

  -- which step of the old chain it is
  pub skip : (j : ℕ) → j < n → (i : ℕ) × (i < suc n) × (i ≢ k) × (hop b (first_at g l) j ≡ hop a (first_at f l) i)
  skip j lt = elim (cases_lt j k) [
    | inl jk ↦ (j, omega arith, (λ e. absurd (omega arith)), hop-low j jk)
    | inr kj ↦ (suc j, omega arith, (λ e. absurd (omega arith)), hop-high j kj (omega arith))
  ]

  prev_low : (j : ℕ) → j ≤ k → before_of b (first_at g l) j ≡ before_of a (first_at f l) j
  prev_low zero le = refl
  prev_low (suc j) le = hop-low j (omega arith)

  prev_high : (j : ℕ) → k < j → j ≤ n → before_of b (first_at g l) j ≡ hop a (first_at f l) j
  prev_high zero lt le = absurd (omega arith)
  prev_high (suc j) lt le = hop-high j (omega arith) (omega arith)

  before_else : (i : ℕ) → i < suc n → i ≢ suc k → (entry_at b (hop a (first_at f l) i)).before ≡ before_of a (first_at f l) i
  before_else i lt ne = u.befores (hop a (first_at f l) i) not ∙ h.back i lt
    where
      not : hop a (first_at f l) i ≢ hop a (first_at f l) (suc k)
      not e = elim (cases_lt (suc k) (suc n)) [
        | inl l2 ↦ ne (apart h _ _ lt l2 e)
        | inr l2 ↦ let m : suc k ≡ suc n = omega arith in
            let z = ap (hop a (first_at f l)) m in
            let s = h.some i lt in absurd (omega arith)
      ]

  back_now : (j : ℕ) → j < n → (j < k) ⊎ (k ≤ j) → (j < suc k) ⊎ (suc k ≤ j) → (entry_at b (hop b (first_at g l) j)).before ≡ before_of b (first_at g l) j
  back_now j lt (inl jk) _ = cc (hop-low j jk, before_else j (omega arith) (λ e. absurd (omega arith)), prev_low j (omega arith))
  back_now j lt (inr kj) (inl jk) =
      let e : j ≡ k = omega arith in
      cc (hop-high j kj (omega arith), back_k, prev_low j (omega arith))
  back_now j lt (inr kj) (inr jk) = cc (
    hop-high j kj (omega arith),
    before_else (suc j) (omega arith) (λ e. absurd (omega arith)),
    prev_high j (omega arith) (omega arith),
  )

  pub cut-chain : IsChain b l (first_at g l) n
  cut-chain = record {
    some = λ j lt. (let s = skip j lt in omega (arith, h.some s.0 s.1));
    inside = λ j lt. (let s = skip j lt in omega (arith, h.inside s.0 s.1));
    of = λ j lt. (let s = skip j lt in cc (u.named (hop b (first_at g l) j), h.of s.0 s.1));
    back = λ j lt. back_now j lt (cases_lt j k) (cases_lt j (suc k));
    ends = hop-high n kn (omega arith) ∙ h.ends;
  }

-- ---- one more before it
module _ {a b : List Entry} {f g : List ℕ} {l n p o : ℕ} (h : IsChain a l (first_at f l) n) (free : (i : ℕ) → i < n → hop a (first_at f l) i ≢ p)
    (some : 0 < p) (inside : p < length a) (u : Links a b f g p o l) where
  pub more-hop : (j : ℕ) → j ≤ n → hop b (first_at g l) (suc j) ≡ hop a (first_at f l) j
  more-hop zero le = cc
  more-hop (suc j) le = cc (more-hop j (omega arith), u.nexts (hop a (first_at f l) j) (free j (omega arith)))

  is_first : (j : ℕ) → j < n → hop a (first_at f l) j ≡ first_at f l → j ≡ 0
  is_first j lt e = apart h j 0 lt (omega arith) e

  back_more : (j : ℕ) → j < suc n → (entry_at b (hop b (first_at g l) j)).before ≡ before_of b (first_at g l) j
  back_more zero lt = cc
  back_more (suc zero) lt = cc (more-hop zero (omega arith))
  back_more (suc (suc j)) lt =
      cc (
        more-hop (suc j) (omega arith),
        u.befores (hop a (first_at f l) (suc j)) (free (suc j) (omega arith))
            (λ e. (let z = is_first (suc j) (omega arith) e in absurd (omega arith))),
        h.back (suc j) (omega arith),
        more-hop j (omega arith),
      )

  pub more-chain : IsChain b l (first_at g l) (suc n)
  more-chain = record {
    some = λ j lt. some_more j lt;
    inside = λ j lt. inside_more j lt;
    of = λ j lt. of_more j lt;
    back = back_more;
    ends = more-hop n (omega arith) ∙ h.ends;
  }
    where
      some_more : (j : ℕ) → j < suc n → 0 < hop b (first_at g l) j
      some_more zero lt = omega arith
      some_more (suc j) lt = omega (arith, more-hop j (omega arith), h.some j (omega arith))

      inside_more : (j : ℕ) → j < suc n → hop b (first_at g l) j < length b
      inside_more zero lt = omega arith
      inside_more (suc j) lt = omega (arith, more-hop j (omega arith), h.inside j (omega arith))

      of_more : (j : ℕ) → j < suc n → (entry_at b (hop b (first_at g l) j)).list ≡ l
      of_more zero lt = cc
      of_more (suc j) lt = cc (more-hop j (omega arith), u.lists (hop a (first_at f l) j) (free j (omega arith)), h.of j (omega arith))
