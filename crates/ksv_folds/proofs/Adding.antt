-- The calls of the nodes of a sequence, added up.
use Rattle.std.proofs.Common.{◌≡◌, ◌≢◌, ◌∙◌, ℕ, zero, suc, ◌+◌, ◌-◌, ◌*◌, ◌^◌, ◌<◌, ◌≤◌, ◌==◌, nat_lt, Bool, true, false, if◌then◌else◌, List, [], ◌∷◌}
use Rattle.std.proofs.Common.{length, ◌⊎◌, inl, inr, refl, sym, ap, subst, arith}
use Rattle.std.proofs.lemmas.Bool.{cases_lt}
use Rattle.std.proofs.lemmas.Bool.Decides.{nat_tests}
use Rattle.std.proofs.Math.Nat.{mul-suc, mul-zero, mul_assoc, mul-le-mul_left, mul-le-mul_right}
use Rattle.ksv_folds.specs.Lemmas.Numbers.{either, fields_some, width_some, prior_by, prior_is, spot_there, spot_is, index_is, head_number, behind, IsPast}
use Rattle.ksv_folds.specs.Lemmas.Missing.{each_missing}
use Rattle.ksv_folds.specs.Lemmas.Numbers.{element_at, past_elements}
use Rattle.ksv_folds.specs.Lemmas.Spots as plain
use Rattle.ksv_memo_rules.specs.Folds.{calls_from}
use Rattle.ksv_folds.specs.Sequence.{says_sizes, IsIn, index, asked_before, last_asked, size_asked, asks_of, rest_asks, asks_in, plain_calls, sized_calls}
use Rattle.ksv_folds.specs.Sequence.{calls_before, spot_calls, rest_calls, missing_at, missing_calls, behind_at, behind_calls, behind_size}
use Rattle.ksv_folds.specs.Sequence.{calls_to, elements_size, size_of, spot_at, fold_of}
use Rattle.ksv_folds.specs.declared.part.Part.{Part}
use Rattle.ksv_folds.specs.declared.plain_list.PlainList.{PlainList}
use Rattle.ksv_folds.specs.declared.spot.Spot.{Spot}
use Rattle.ksv_folds.specs.declared.spot.Spot.TheVariants.{ElementHead, ElementEnd, FieldHead, FieldEnd, Value}

-- the calls of elements are few
pub calls_room : (p : PlainList) (others i : ℕ) → others ≤ 9 → (others ≤ 6) ⊎ (says_sizes p ≡ true)
    → i ≤ p.most → (5 * length p.parts.items + others) * i ≤ 3 * 2 ^ 32
calls_room p others i few kind low =
    let wide : 5 * length p.parts.items + others ≤ 3 * p.per = elim kind [
      | inl h ↦ (let wide = (width_some p).0 in omega (arith, wide, h))
      | inr e ↦ (let wide = (fields_some p e).1 in omega (arith, wide, few))
    ] in
    let most = mul-le-mul_right {m = 5 * length p.parts.items + others} {n = 3 * p.per} i wide in
    let same = mul_assoc 3 p.per i in
    let all = mul-le-mul_left p.per low in
    let room = p.numbered in omega (arith, most, same, all, room)

module _ (p : PlainList) where
  abbrev k : ℕ
  k = length p.parts.items

  -- what a node asks, where elements say sizes or not
  abbrev asks : Bool → Spot → ℕ
  asks says (ElementHead i) = 1 + asked_before i
  asks says (ElementEnd i) = 1 + last_asked p.parts.items
  asks says (FieldHead i f) = 1 + asked_before f + size_asked says k f
  asks says (FieldEnd i f) = 1
  asks says (Value i) = 1

  asks_are : (s : Spot) → asks_of p s ≡ asks (says_sizes p) s
  asks_are (ElementHead i) = refl
  asks_are (ElementEnd i) = refl
  asks_are (FieldHead i f) = refl
  asks_are (FieldEnd i f) = refl
  asks_are (Value i) = refl

  last_is : (ps : List Part) → last_asked ps ≡ 1 + asked_before (length ps)
  last_is [] = refl
  last_is (q ∷ ps) = refl

  -- the first element has none before it
  short : (w i : ℕ) → 6 ≤ w → asked_before i ≤ w * i
  short w zero some = omega arith
  short w (suc i) some = let more = mul-suc w i in omega (arith, more, some)

  head_short : (n i : ℕ) → asked_before i ≤ (5 * n + 6) * i
  head_short n i = short (5 * n + 6) i (omega arith)

  add_end : (n i : ℕ) → plain_calls n (ElementEnd i) ≡ plain_calls n (plain.prior n (ElementEnd i)) + (asks false (plain.prior n (ElementEnd i)) + 1)
  add_end zero i = let low = head_short 0 i in omega (arith, low)
  add_end (suc f) i = omega arith

  add_head : (n i : ℕ) → last_asked p.parts.items ≡ 1 + asked_before n
      → plain_calls n (ElementHead (suc i)) ≡ plain_calls n (ElementEnd i) + (asks false (ElementEnd i) + 1)
  add_head zero i last = let more = mul-suc (5 * 0 + 6) i in omega (arith, more, last)
  add_head (suc f) i last = let more = mul-suc (5 * suc f + 6) i in omega (arith, more, last)

  add_field : (n i f : ℕ) → plain_calls n (FieldEnd i f) ≡ plain_calls n (FieldHead i f) + (asks false (FieldHead i f) + 1)
  add_field n i zero = omega arith
  add_field n i (suc f) = omega arith

  -- the calls before a node are those of the one before it, and those before that
  abbrev Adds : Bool → Spot → Type 0
  Adds says s = 0 < index says p.per s → calls_before says k s ≡ calls_before says k (prior_by says k s) + (asks says (prior_by says k s) + 1)

  add_plain : (n : ℕ) (s : Spot) → IsIn false k n s → Adds false s
  add_plain n (ElementHead zero) low some = absurd (let none = mul-zero p.per in omega (arith, none, some))
  add_plain n (ElementHead (suc i)) low some = add_head k i (last_is p.parts.items)
  add_plain n (ElementEnd i) low some = add_end k i
  add_plain n (FieldHead i zero) low some = let low = head_short k i in omega (arith, low)
  add_plain n (FieldHead i (suc f)) low some = omega arith
  add_plain n (FieldEnd i f) low some = add_field k i f
  add_plain n (Value i) low some = absurd (let says = low.1 in cc)

  -- ---- where sizes are said

  if_last : (f n : ℕ) → suc f ≡ k → (if suc f == k then n else 0) ≡ n
  if_last f n e = let so : (suc f == k) ≡ true = grind (arith, nat_tests) in ap (λ b. if b then n else 0) so

  if_before : (f n : ℕ) → suc f < k → (if suc f == k then n else 0) ≡ 0
  if_before f n low = let so : (suc f == k) ≡ false = grind (arith, nat_tests) in ap (λ b. if b then n else 0) so

  sized_head : (i : ℕ) → asked_before i ≤ (5 * k + 9) * i
  sized_head i = short (5 * k + 9) i (omega arith)

  sized_field : (i f : ℕ) → sized_calls k (FieldEnd i f) ≡ sized_calls k (FieldHead i f) + (asks true (FieldHead i f) + 1)
  sized_field i f = by (suc f == k) f
    where
      by : (b : Bool) (g : ℕ) → (5 * k + 9) * i + (4 + 5 * g + (if b then 3 else 0))
          ≡ (5 * k + 9) * i + (2 + (5 * g - asked_before g) + (if b then 2 else 0)) + (1 + asked_before g + (if b then 1 else 0) + 1)
      by true zero = omega arith
      by true (suc g) = omega arith
      by false zero = omega arith
      by false (suc g) = omega arith

  sized_next : (i f : ℕ) → suc f < k → Adds true (FieldHead i (suc f))
  sized_next i f low some = by (suc (suc f) == k) refl
    where
      by : (b : Bool) → (suc (suc f) == k) ≡ b
          → (5 * k + 9) * i + (2 + (5 * suc f - 1) + (if b then 2 else 0))
          ≡ sized_calls k (if b then Value i else FieldEnd i f) + (asks true (if b then Value i else FieldEnd i f) + 1)
      by true e = let last : suc (suc f) ≡ k = grind (arith, nat_tests) in omega (arith, last)
      by false e = let none = if_before f 3 low in omega (arith, none)

  add_sized : 1 < k → (n : ℕ) (s : Spot) → IsIn true k n s → Adds true s
  add_sized some n (ElementHead zero) low any = absurd (let none = mul-zero p.per in omega (arith, none, any))
  add_sized some n (ElementHead (suc i)) low any =
      let more = mul-suc (5 * k + 9) i in let last = last_is p.parts.items in let one = before_some k some in omega (arith, more, last, one)
    where
      before_some : (m : ℕ) → 1 < m → asked_before m ≡ 1
      before_some zero h = absurd (omega (arith, h))
      before_some (suc m) h = refl
  add_sized some n (ElementEnd i) low any = let last = if_last (k - 1) 3 (omega (arith, some)) in omega (arith, last, some)
  add_sized some n (FieldHead i zero) low any =
      let none = if_before 0 2 some in let short = sized_head i in omega (arith, none, short)
  add_sized some n (FieldHead i (suc f)) low any = sized_next i f low.1 any
  add_sized some n (FieldEnd i f) low any = sized_field i f
  add_sized some n (Value i) low any = let none = if_before (k - 2) 3 (omega (arith, some)) in omega (arith, none, some)

  add_prior : (n : ℕ) (s : Spot) → IsIn (says_sizes p) k n s → Adds (says_sizes p) s
  add_prior n s low = elim (either p) [
    | inl z ↦ subst (λ b. IsIn b k n s → Adds b s) (sym z.0) (add_plain n s) low
    | inr z ↦ subst (λ b. IsIn b k n s → Adds b s) (sym z.0) (add_sized z.2 n s) low
  ]

  -- ---- by numbers

  next_spot : (j : ℕ) → suc j ≤ elements_size p → spot_calls p (spot_at p (suc j)) ≡ spot_calls p (spot_at p j) + (asks_of p (spot_at p j) + 1)
  next_spot j low =
      let more = mul-suc p.per p.most in
      let wide = (width_some p).0 in
      let z = prior_is p (suc p.most) j (omega (arith, low, more, wide)) in
      let number = index_is p (suc j) in
      add_prior (suc p.most) (spot_at p (suc j)) (spot_there p (suc p.most) (suc j) (omega (arith, low, more, wide))) (omega (arith, number))
      ∙ ap (λ s. spot_calls p s + (asks (says_sizes p) s + 1)) (sym z.1) ∙ ap (λ n. spot_calls p (spot_at p j) + (n + 1)) (sym (asks_are (spot_at p j)))

  -- of elements, and behind them
  calls_at : (j : ℕ) → j < elements_size p → calls_to p j ≡ spot_calls p (spot_at p j)
  calls_at j low =
      let e : nat_lt j (elements_size p) ≡ true = grind (arith, nat_tests) in
      ap (λ b. if b then spot_calls p (spot_at p j) else spot_calls p (ElementHead p.most) + behind_calls p.missing p.most (j - elements_size p)) e

  calls_behind : (j : ℕ) → elements_size p ≤ j → calls_to p j ≡ spot_calls p (ElementHead p.most) + behind_calls p.missing p.most (j - elements_size p)
  calls_behind j up =
      let e : nat_lt j (elements_size p) ≡ false = grind (arith, nat_tests) in
      ap (λ b. if b then spot_calls p (spot_at p j) else spot_calls p (ElementHead p.most) + behind_calls p.missing p.most (j - elements_size p)) e

  none_behind : (m : Bool) → behind_calls m p.most 0 ≡ 0
  none_behind false = refl
  none_behind true = omega arith

  -- behind all elements there is the head of one more
  last_spot : spot_at p (elements_size p) ≡ ElementHead p.most
  last_spot = ap (spot_at p) (sym (head_number p p.most)) ∙ spot_is p (suc p.most) (ElementHead p.most) (omega arith)

  end_calls : (j : ℕ) → suc j ≡ elements_size p → calls_to p (suc j) ≡ spot_calls p (spot_at p (suc j))
  end_calls j e =
      let none : suc j - elements_size p ≡ 0 = omega (arith, e) in
      let start : spot_calls p (ElementHead p.most) + 0 ≡ spot_calls p (ElementHead p.most) = omega arith in
      calls_behind (suc j) (omega (arith, e)) ∙ ap (λ r. spot_calls p (ElementHead p.most) + behind_calls p.missing p.most r) none
      ∙ ap (λ n. spot_calls p (ElementHead p.most) + n) (none_behind p.missing) ∙ start
      ∙ ap (spot_calls p) (sym last_spot) ∙ ap (λ n. spot_calls p (spot_at p n)) (sym e)

  -- of so many elements, the rest behind so many others
  next_rest : (n r : ℕ) → r < n → rest_calls n (suc r) ≡ rest_calls n r + (rest_asks n (n - 1 - r) + 1)
  next_rest n r low = by (suc r == n) refl (n - 1 - r == 0) refl
    where
      before : (q : ℕ) → q < n → rest_calls n q + (if n - 1 - q + 1 == n then 0 else 1) ≡ 3 * q
      before zero few =
          let so : (n - 1 - 0 + 1 == n) ≡ true = grind (arith, nat_tests) in ap (λ c. 0 + (if c then 0 else 1)) so
      before (suc q) few =
          let so : (n - 1 - suc q + 1 == n) ≡ false = grind (arith, nat_tests) in
          let no : (suc q == n) ≡ false = grind (arith, nat_tests) in
          ap (λ c. 3 * q + (if c then 3 else 2) + (if n - 1 - suc q + 1 == n then 0 else 1)) no ∙ ap (λ c. 3 * q + 2 + (if c then 0 else 1)) so ∙ (omega arith)

      by : (a : Bool) → (suc r == n) ≡ a → (b : Bool) → (n - 1 - r == 0) ≡ b
          → 3 * r + (if a then 3 else 2) ≡ rest_calls n r + (1 + (if n - 1 - r + 1 == n then 0 else 1) + (if b then 1 else 0) + 1)
      by true e false f =
          absurd (let same : suc r ≡ n = grind (arith, nat_tests) in let other : n - 1 - r ≢ 0 = grind (arith, nat_tests) in omega (arith, same, other))
      by false e true f =
          absurd (let none : n - 1 - r ≡ 0 = grind (arith, nat_tests) in let other : suc r ≢ n = grind (arith, nat_tests) in omega (arith, none, other, low))
      by true e true f = let z = before r low in omega (arith, z)
      by false e false f = let z = before r low in omega (arith, z)

  -- or the next node of an element that isn't there
  next_missing : (r : ℕ) → missing_calls (suc r) ≡ missing_calls r + (asks_in p (missing_at r) + 1)
  next_missing r = each_missing (λ n s. missing_calls (suc n) ≡ missing_calls n + (asks_in p s + 1)) (λ k. omega arith) (λ k. omega arith) r

  next_behind : (m : Bool) (r : ℕ) → IsPast p m r → behind_calls m p.most (suc r) ≡ behind_calls m p.most r + (asks_in p (behind_at m p.most r) + 1)
  next_behind false r low = next_rest p.most r low
  next_behind true r low = next_missing r

  past_next : (j : ℕ) → elements_size p ≤ j → j < size_of p → calls_to p (suc j) ≡ calls_to p j + (fold_of p).calls j
  past_next j up low =
      let r = j - elements_size p in
      let one : suc j - elements_size p ≡ suc r = omega (arith, up) in
      let sum = next_behind p.missing r (behind p j up low).1 in
      let asks = ap (asks_in p) (past_elements p j up) in
      let now = calls_behind j up in
      let next = calls_behind (suc j) (omega (arith, up)) ∙ ap (λ n. spot_calls p (ElementHead p.most) + behind_calls p.missing p.most n) one in
      omega (arith, sum, asks, now, next)

  up_to : (j : ℕ) → j < elements_size p → calls_to p (suc j) ≡ spot_calls p (spot_at p (suc j))
  up_to j low = elim (cases_lt (suc j) (elements_size p)) [
    | inl more ↦ calls_at (suc j) more
    | inr end ↦ end_calls j (omega (arith, low, end))
  ]

  next_calls : (j : ℕ) → suc j ≤ size_of p → calls_to p (suc j) ≡ calls_to p j + (fold_of p).calls j
  next_calls j low = elim (cases_lt j (elements_size p)) [
    | inr up ↦ past_next j up (omega (arith, low))
    | inl less ↦ (
        let next = next_spot j (omega (arith, less)) in
        let now = calls_at j less in
        let asks = ap (asks_in p) (element_at p j less) in
        let to = up_to j less in omega (arith, next, now, asks, to))
  ]

  pub calls_up : (n from : ℕ) → from + n ≤ size_of p → calls_to p (from + n) ≡ calls_to p from + calls_from (fold_of p).calls from n
  calls_up zero from low = let same : from + 0 ≡ from = omega arith in
      let none : calls_to p from ≡ calls_to p from + 0 = omega arith in
      ap (calls_to p) same ∙ none
  calls_up (suc n) from low =
      let same : from + suc n ≡ suc (from + n) = omega arith in
      let next = next_calls (from + n) (omega (arith, low)) in
      let up = calls_up n from (omega (arith, low)) in
      ap (calls_to p) same ∙ (omega (arith, next, up))

-- the nodes from one number to another take what is before the one and not before the other
pub calls_between : (p : PlainList) (from to : ℕ) → from ≤ to → to ≤ size_of p
    → calls_to p to ≡ calls_to p from + calls_from (fold_of p).calls from (to - from)
calls_between p from to le low =
    let same : from + (to - from) ≡ to = omega (arith, le) in
    ap (calls_to p) (sym same) ∙ calls_up p (to - from) from (omega (arith, le, low))

-- behind the elements there are no more rests than elements
pub rests_few : (p : PlainList) (j : ℕ) → j ≤ size_of p → p.missing ≡ false → j - elements_size p ≤ p.most
rests_few p j low e = by p.closed (subst (λ m. j ≤ elements_size p + behind_size p.closed m p.most) e low)
  where
    by : (c : Bool) → j ≤ elements_size p + behind_size c false p.most → j - elements_size p ≤ p.most
    by true h = omega (arith, h)
    by false h = omega (arith, h)
