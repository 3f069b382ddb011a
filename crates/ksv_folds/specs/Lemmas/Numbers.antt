-- The numbers of all nodes of a sequence, whether or not elements say sizes, and of those behind the elements.
use Rattle.std.proofs.Common.{◌≡◌, ◌∙◌, ℕ, zero, suc, ◌+◌, ◌-◌, ◌*◌, ◌/◌, ◌%◌, ◌<◌, ◌≤◌, ◌==◌, ◌⊎◌, inl, inr, nat_lt, Bool, true, false, if◌then◌else◌, length}
use Rattle.std.proofs.Common.{refl, sym, ap}
use Rattle.std.proofs.Common.{subst, arith, Some, None, is_some}
use Rattle.std.proofs.lemmas.Bool.{cases_lt}
use Rattle.std.proofs.lemmas.Bool.Decides.{nat_tests}
use Rattle.std.proofs.Math.Nat.{mul-suc, mul-le-mul_left}
use Rattle.ksv_expr_value.specs.Trail.{element_limit}
use Rattle.ksv_folds.specs.Lemmas.Missing.{even_at, odd_at, each_missing}
use Rattle.ksv_folds.specs.Lemmas.Spots as plain
use Rattle.ksv_folds.specs.Lemmas.Starts as starts
use Rattle.ksv_folds.specs.Lemmas.Values as sized
use Rattle.ksv_folds.specs.Parts.{Starts, nodes_in, are_starts}
use Rattle.ksv_folds.specs.Sequence.{says_sizes, sizer, spot_in, IsIn, IsThere, index, index_of, spot_whole, elements_size, size_of, spot_at, numbered_at}
use Rattle.ksv_folds.specs.Sequence.{behind_size, behind_at, missing_at}
use Rattle.ksv_folds.specs.Sequence.{number_of}
use Rattle.ksv_folds.specs.declared.plain_list.PlainList.{PlainList}
use Rattle.ksv_folds.specs.declared.spot.Numbered.{Numbered}
use Rattle.ksv_folds.specs.declared.spot.Numbered.TheVariants.{Of, Rest, MissingHead, MissingEnd}
use Rattle.ksv_folds.specs.declared.spot.Spot.{Spot}
use Rattle.ksv_folds.specs.declared.spot.Spot.TheVariants.{ElementHead, ElementEnd, FieldHead, FieldEnd, Value}

-- the node before, in a list of so many fields
abbrev pub prior_by : Bool → ℕ → Spot → Spot
prior_by false k s = plain.prior k s
prior_by true k s = sized.prior k s

module _ (p : PlainList) where
  abbrev k : ℕ
  k = length p.parts.items

  -- ---- the two kinds of lists

  abbrev IsPlain : Type 0
  IsPlain = (says_sizes p ≡ false) × (p.per ≡ 2 + 2 * k)

  abbrev IsSized : Type 0
  IsSized = (says_sizes p ≡ true) × (p.per ≡ 3 + 2 * k) × (1 < k)

  pub either : IsPlain ⊎ IsSized
  either = by p.starts refl p.width p.started
    where
      by : (o : Starts) → p.starts ≡ o → p.per ≡ nodes_in o k → are_starts o p.first p.size p.most k ≡ true → IsPlain ⊎ IsSized
      by None e wide h = inl (ap is_some e, wide)
      by (Some s) e wide h = inr (ap is_some e, wide, starts.fields_some s p.first p.size p.most k h)

  never : {X : Type 0} → says_sizes p ≡ true → says_sizes p ≡ false → X
  never e h = absurd (let bad : true ≡ false = sym e ∙ h in cc)

  pub fields_some : says_sizes p ≡ true → (1 < k) × (p.per ≡ 3 + 2 * k)
  fields_some e = elim either [
    | inl z ↦ never e z.0
    | inr z ↦ (z.2, z.1)
  ]

  pub nodes_some : says_sizes p ≡ true → 7 ≤ p.per
  nodes_some e = let z = fields_some e in let some = z.0 in let wide = z.1 in omega (arith, some, wide)

  pub per_some : 0 < p.per
  per_some = elim either [
    | inl z ↦ (let wide = z.1 in omega (arith, wide))
    | inr z ↦ (let wide = z.1 in omega (arith, wide))
  ]

  pub width_some : (2 + 2 * k ≤ p.per) × (p.per ≤ 3 + 2 * k)
  width_some = elim either [
    | inl z ↦ (let wide = z.1 in (omega (arith, wide), omega (arith, wide)))
    | inr z ↦ (let wide = z.1 in (omega (arith, wide), omega (arith, wide)))
  ]

  -- ---- nodes of elements

  pub spot_there : (n j : ℕ) → j < p.per * n → IsIn (says_sizes p) k n (spot_at p j)
  spot_there n j low = elim either [
    | inl z ↦ subst (λ b. IsIn b k n (spot_in b p.per (j / p.per) (j % p.per))) (sym z.0) (plain.spot_in_is k p.per z.1 n j low)
    | inr z ↦ subst (λ b. IsIn b k n (spot_in b p.per (j / p.per) (j % p.per))) (sym z.0) (sized.spot_in_is k p.per z.1 z.2 n j low)
  ]

  pub index_is : (j : ℕ) → index_of p (spot_at p j) ≡ j
  index_is j = elim either [
    | inl z ↦ subst (λ b. index b p.per (spot_in b p.per (j / p.per) (j % p.per)) ≡ j) (sym z.0) (plain.index_is k p.per z.1 j)
    | inr z ↦ subst (λ b. index b p.per (spot_in b p.per (j / p.per) (j % p.per)) ≡ j) (sym z.0) (sized.index_is k p.per z.1 z.2 j)
  ]

  pub spot_is : (n : ℕ) (s : Spot) → IsIn (says_sizes p) k n s → spot_at p (index_of p s) ≡ s
  spot_is n s low = elim either [
    | inl z ↦ subst (λ b. IsIn b k n s → spot_in b p.per (index b p.per s / p.per) (index b p.per s % p.per) ≡ s) (sym z.0) (plain.spot_is k p.per z.1 n s) low
    | inr z ↦ subst (λ b. IsIn b k n s → spot_in b p.per (index b p.per s / p.per) (index b p.per s % p.per) ≡ s) (sym z.0) (sized.spot_is k p.per z.1 z.2 n s)
        low
  ]

  pub index_low : (n : ℕ) (s : Spot) → IsIn (says_sizes p) k n s → index_of p s < p.per * n
  index_low n s low = elim either [
    | inl z ↦ subst (λ b. IsIn b k n s → index b p.per s < p.per * n) (sym z.0) (plain.index_low k p.per z.1 n s) low
    | inr z ↦ subst (λ b. IsIn b k n s → index b p.per s < p.per * n) (sym z.0) (sized.index_low k p.per z.1 z.2 n s) low
  ]

  abbrev pub prior : Spot → Spot
  prior s = prior_by (says_sizes p) k s

  -- the node of a number is the one before that of the next
  pub prior_is : (n j : ℕ) → suc j < p.per * n → IsIn (says_sizes p) k n (prior (spot_at p (suc j))) × (spot_at p j ≡ prior (spot_at p (suc j)))
  prior_is n j low = elim either [
    | inl z ↦ subst (Is n j) (sym z.0) (plain.prior_is k p.per z.1 n j low)
    | inr z ↦ subst (Is n j) (sym z.0) (sized.prior_is k p.per z.1 z.2 n j low)
  ]
    where
      at : Bool → ℕ → Spot
      at b i = spot_in b p.per (i / p.per) (i % p.per)

      Is : ℕ → ℕ → Bool → Type 0
      Is n j b = IsIn b k n (prior_by b k (at b (suc j))) × (at b j ≡ prior_by b k (at b (suc j)))

  pub first_is : (n : ℕ) → 0 < n → spot_at p 0 ≡ ElementHead 0
  first_is n any = elim either [
    | inl z ↦ subst (λ b. spot_in b p.per (0 / p.per) (0 % p.per) ≡ ElementHead 0) (sym z.0) (plain.first_is k p.per z.1 n any)
    | inr z ↦ subst (λ b. spot_in b p.per (0 / p.per) (0 % p.per) ≡ ElementHead 0) (sym z.0) (sized.first_is k p.per z.1 z.2 n any)
  ]

  -- the number of an element's end, and of its head
  pub end_number : (i : ℕ) → index_of p (ElementEnd i) ≡ p.per * i + (p.per - 1)
  end_number i = elim either [
    | inl z ↦ subst (λ b. index b p.per (ElementEnd i) ≡ p.per * i + (p.per - 1)) (sym z.0) refl
    | inr z ↦ subst (λ b. index b p.per (ElementEnd i) ≡ p.per * i + (p.per - 1)) (sym z.0) refl
  ]

  pub head_number : (i : ℕ) → index_of p (ElementHead i) ≡ p.per * i
  head_number i = elim either [
    | inl z ↦ subst (λ b. index b p.per (ElementHead i) ≡ p.per * i) (sym z.0) refl
    | inr z ↦ subst (λ b. index b p.per (ElementHead i) ≡ p.per * i) (sym z.0) refl
  ]

  -- ---- the order of an element's nodes

  Less : Spot → Spot → Bool → Type 0
  Less s t says = index says p.per s < index says p.per t

  pub head_first : (i f : ℕ) → index_of p (ElementHead i) < index_of p (FieldHead i f)
  unfolding Less
  head_first i f = elim either [
    | inl z ↦ subst (Less (ElementHead i) (FieldHead i f)) (sym z.0) (omega arith)
    | inr z ↦ subst (Less (ElementHead i) (FieldHead i f)) (sym z.0) (omega arith)
  ]

  pub next_end : (i f : ℕ) → index_of p (FieldHead i f) < index_of p (FieldEnd i f)
  unfolding Less
  next_end i f = elim either [
    | inl z ↦ subst (Less (FieldHead i f) (FieldEnd i f)) (sym z.0) (omega arith)
    | inr z ↦ subst (Less (FieldHead i f) (FieldEnd i f)) (sym z.0) (omega arith)
  ]

  pub next_field : (i f : ℕ) → suc f < k → index_of p (FieldEnd i f) < index_of p (FieldHead i (suc f))
  unfolding Less
  next_field i f few = elim either [
    | inl z ↦ subst (Less (FieldEnd i f) (FieldHead i (suc f))) (sym z.0) (omega arith)
    | inr z ↦ (
        let none = sized.past_none k p.per z.1 z.2 f few in subst (Less (FieldEnd i f) (FieldHead i (suc f))) (sym z.0) (omega (arith, none)))
  ]

  pub before_end : (i f : ℕ) → f < k → index_of p (FieldEnd i f) < index_of p (ElementEnd i)
  unfolding Less
  before_end i f few = elim either [
    | inl z ↦ (let wide = z.1 in subst (Less (FieldEnd i f) (ElementEnd i)) (sym z.0) (omega (arith, wide, few)))
    | inr z ↦ (
        let wide = z.1 in
        let one = sized.past_one k p.per z.1 z.2 f few in subst (Less (FieldEnd i f) (ElementEnd i)) (sym z.0) (omega (arith, wide, one)))
  ]

  pub head_end : (i : ℕ) → index_of p (ElementHead i) < index_of p (ElementEnd i)
  head_end i = let a = head_number i in let b = end_number i in let wide = width_some.0 in omega (arith, a, b, wide)

  pub end_head : (i : ℕ) → suc (index_of p (ElementEnd i)) ≡ index_of p (ElementHead (suc i))
  end_head i =
      let a = head_number (suc i) in let b = end_number i in let wide = width_some.0 in let more = mul-suc p.per i in omega (arith, a, b, wide, more)

  -- around the value: two numbers before it is its field's head, and behind it the last field's
  pub value_number : (i : ℕ) → says_sizes p ≡ true → suc (suc (index_of p (FieldHead i (sizer p)))) ≡ index_of p (Value i)
  value_number i e =
      let z = fields_some e in
      let some = z.0 in
      let wide = z.1 in
      let none = sized.past_none k p.per z.1 z.0 (sizer p) (omega (arith, some)) in
      subst (λ b. suc (suc (index b p.per (FieldHead i (sizer p)))) ≡ index b p.per (Value i)) (sym e) (omega (arith, none, some, wide))

  pub sizer_end : (i : ℕ) → says_sizes p ≡ true → suc (index_of p (FieldEnd i (sizer p))) ≡ index_of p (Value i)
  sizer_end i e =
      let z = fields_some e in
      let some = z.0 in
      let wide = z.1 in
      let none = sized.past_none k p.per z.1 z.0 (sizer p) (omega (arith, some)) in
      subst (λ b. suc (index b p.per (FieldEnd i (sizer p))) ≡ index b p.per (Value i)) (sym e) (omega (arith, none, some, wide))

  pub last_number : (i f : ℕ) → says_sizes p ≡ true → suc f ≡ k → suc (index_of p (Value i)) ≡ index_of p (FieldHead i f)
  last_number i f e last =
      let z = fields_some e in
      let wide = z.1 in
      let one = sized.past_last k p.per z.1 z.0 f last in
      subst (λ b. suc (index b p.per (Value i)) ≡ index b p.per (FieldHead i f)) (sym e) (omega (arith, one, last, wide))

  -- ---- with those behind the elements

  -- there is a node
  pub elements_some : 0 < elements_size p
  elements_some =
      let any = p.any in
      let wide = width_some.0 in let up = mul-le-mul_left {m = 1} {n = p.most} p.per (omega (arith, any)) in omega (arith, wide, up)

  -- behind the elements there are rests, or nodes of elements that aren't there
  abbrev pub IsPast : Bool → ℕ → Type 0
  IsPast false r = r < p.most
  IsPast true r = r < 2 * (element_limit - p.most)

  behind_by : (c m : Bool) → p.closed ≡ c → (j : ℕ) → elements_size p ≤ j → j < elements_size p + behind_size c m p.most
      → (p.closed ≡ true) × IsPast m (j - elements_size p)
  behind_by true false e j up low = (e, omega (arith, up, low))
  behind_by true true e j up low = (e, omega (arith, up, low))
  behind_by false m e j up low = absurd (omega (arith, up, low))

  pub behind : (j : ℕ) → elements_size p ≤ j → j < size_of p → (p.closed ≡ true) × IsPast p.missing (j - elements_size p)
  behind j up low = behind_by p.closed p.missing refl j up low

  pub rests_low : (j : ℕ) → elements_size p ≤ j → j < size_of p → p.missing ≡ false → j - elements_size p < p.most
  rests_low j up low e = subst (λ m. IsPast m (j - elements_size p)) e (behind j up low).1

  there_by : (m : Bool) → p.missing ≡ m → (r : ℕ) → p.closed ≡ true → IsPast m r → IsThere p (behind_at m p.most r)
  there_by false e r c low = (c, e, omega (arith, low))
  there_by true e r c low = each_missing (λ n s. n < 2 * (element_limit - p.most) → IsThere p s)
      (λ k less. (c, e, omega (arith, less))) (λ k less. (c, e, omega (arith, less))) r low

  pub numbered_there : (j : ℕ) → j < size_of p → IsThere p (numbered_at p j)
  numbered_there j low = by (nat_lt j (elements_size p)) refl
    where
      by : (b : Bool) → nat_lt j (elements_size p) ≡ b → IsThere p (if b then Of (spot_at p j) else behind_at p.missing p.most (j - elements_size p))
      by true e = spot_there p.most j (grind (arith, nat_tests))
      by false e = let z = behind j (grind (arith, nat_tests)) low in there_by p.missing refl (j - elements_size p) z.0 z.1

  -- the number of a number's node is that number
  behind_number : (m : Bool) (r : ℕ) → IsPast m r → number_of p (behind_at m p.most r) ≡ elements_size p + r
  behind_number false r low = omega (arith, low)
  behind_number true r low = each_missing (λ n s. number_of p s ≡ elements_size p + n) (λ k. refl) (λ k. refl) r

  pub number_is : (j : ℕ) → j < size_of p → number_of p (numbered_at p j) ≡ j
  number_is j low = by (nat_lt j (elements_size p)) refl
    where
      by : (b : Bool) → nat_lt j (elements_size p) ≡ b
          → number_of p (if b then Of (spot_at p j) else behind_at p.missing p.most (j - elements_size p)) ≡ j
      by true e = index_is j
      by false e =
          let up : elements_size p ≤ j = grind (arith, nat_tests) in
          behind_number p.missing (j - elements_size p) (behind j up low).1 ∙ (omega (arith, up))

  -- of elements, and behind them
  pub element_at : (j : ℕ) → j < elements_size p → numbered_at p j ≡ Of (spot_at p j)
  element_at j low =
      let e : nat_lt j (elements_size p) ≡ true = grind (arith, nat_tests) in
      ap (λ b. if b then Of (spot_at p j) else behind_at p.missing p.most (j - elements_size p)) e

  pub past_elements : (j : ℕ) → elements_size p ≤ j → numbered_at p j ≡ behind_at p.missing p.most (j - elements_size p)
  past_elements j up =
      let e : nat_lt j (elements_size p) ≡ false = grind (arith, nat_tests) in
      ap (λ b. if b then Of (spot_at p j) else behind_at p.missing p.most (j - elements_size p)) e

  -- so many behind them
  past_at : (r : ℕ) → numbered_at p (elements_size p + r) ≡ behind_at p.missing p.most r
  past_at r =
      let same : elements_size p + r - elements_size p ≡ r = omega arith in
      past_elements (elements_size p + r) (omega arith) ∙ ap (behind_at p.missing p.most) same

  size_by : (c m : Bool) → p.closed ≡ c → p.missing ≡ m → size_of p ≡ elements_size p + behind_size c m p.most
  size_by c m e h = ap (λ b. elements_size p + behind_size b p.missing p.most) e ∙ ap (λ b. elements_size p + behind_size c b p.most) h

  pub number_low : (s : Numbered) → IsThere p s → number_of p s < size_of p
  number_low (Of s) h = let low = index_low p.most s h in omega (arith, low)
  number_low (Rest i) h = let all = size_by true false h.0 h.1 in let low = h.2 in omega (arith, all, low)
  number_low (MissingHead k) h = let all = size_by true true h.0 h.1 in let low = h.2 in omega (arith, all, low)
  number_low (MissingEnd k) h = let all = size_by true true h.0 h.1 in let low = h.2 in omega (arith, all, low)

  -- the node of a node's number is that node
  pub numbered_is : (s : Numbered) → IsThere p s → numbered_at p (number_of p s) ≡ s
  numbered_is (Of s) h = element_at (number_of p (Of s)) (index_low p.most s h) ∙ ap Of (spot_is p.most s h)
  numbered_is (Rest i) h =
      let low = h.2 in
      let same : p.most - 1 - (p.most - 1 - i) ≡ i = omega (arith, low) in
      past_at (p.most - 1 - i) ∙ ap (λ m. behind_at m p.most (p.most - 1 - i)) h.1 ∙ ap Rest same
  numbered_is (MissingHead k) h = past_at (2 * k) ∙ ap (λ m. behind_at m p.most (2 * k)) h.1 ∙ even_at k
  numbered_is (MissingEnd k) h = past_at (2 * k + 1) ∙ ap (λ m. behind_at m p.most (2 * k + 1)) h.1 ∙ odd_at k

  -- ---- the node before

  abbrev pub prior_in : Numbered → Numbered
  prior_in (Of s) = Of (prior s)
  prior_in (Rest i) = if i + 1 == p.most then Of (ElementEnd i) else Rest (suc i)
  prior_in (MissingHead zero) = Of (ElementEnd (p.most - 1))
  prior_in (MissingHead (suc k)) = MissingEnd k
  prior_in (MissingEnd k) = MissingHead k

  -- the last node of all elements is the end of the last
  pub last_element : (i : ℕ) → suc i ≡ p.most → spot_at p (elements_size p - 1) ≡ ElementEnd i
  last_element i e =
      let wide = width_some.0 in
      let all = ap (λ n. p.per * n) (sym e) in
      let more = mul-suc p.per i in
      let number = end_number i in
      let same : elements_size p - 1 ≡ index_of p (ElementEnd i) = omega (arith, wide, all, more, number) in
      ap (spot_at p) same ∙ spot_is p.most (ElementEnd i) (omega (arith, e))

  -- the first behind the elements, and each other one
  first_behind : (m : Bool) → IsPast m 0 → Of (ElementEnd (p.most - 1)) ≡ prior_in (behind_at m p.most 0)
  first_behind false low =
      let so : (p.most - 1 - 0 + 1 == p.most) ≡ true = grind (arith, nat_tests) in
      let same : p.most - 1 ≡ p.most - 1 - 0 = omega arith in
      ap (λ i. Of (ElementEnd i)) same ∙ sym (ap (λ b. if b then Of (ElementEnd (p.most - 1 - 0)) else Rest (suc (p.most - 1 - 0))) so)
  first_behind true low = sym (ap prior_in (even_at 0))

  next_missing : (r : ℕ) → missing_at r ≡ prior_in (missing_at (suc r))
  next_missing r = each_missing (λ n s. s ≡ prior_in (missing_at (suc n))) heads ends r
    where
      heads : (k : ℕ) → MissingHead k ≡ prior_in (missing_at (suc (2 * k)))
      heads k = let same : 2 * k + 1 ≡ suc (2 * k) = omega arith in sym (ap (λ n. prior_in (missing_at n)) (sym same) ∙ ap prior_in (odd_at k))

      ends : (k : ℕ) → MissingEnd k ≡ prior_in (missing_at (suc (2 * k + 1)))
      ends k = let same : 2 * suc k ≡ suc (2 * k + 1) = omega arith in sym (ap (λ n. prior_in (missing_at n)) (sym same) ∙ ap prior_in (even_at (suc k)))

  next_behind : (m : Bool) (r : ℕ) → IsPast m (suc r) → behind_at m p.most r ≡ prior_in (behind_at m p.most (suc r))
  next_behind false r low =
      let same : p.most - 1 - r ≡ suc (p.most - 1 - suc r) = omega (arith, low) in
      let other : p.most - 1 - suc r + 1 < p.most = omega (arith, low) in
      let so : (p.most - 1 - suc r + 1 == p.most) ≡ false = grind (arith, nat_tests) in
      ap Rest same ∙ sym (ap (λ b. if b then Of (ElementEnd (p.most - 1 - suc r)) else Rest (suc (p.most - 1 - suc r))) so)
  next_behind true r low = next_missing r

  -- the node of a number is the one before that of the next
  pub prior_of : (j : ℕ) → suc j < size_of p → numbered_at p j ≡ prior_in (numbered_at p (suc j))
  prior_of j low = elim (cases_lt (suc j) (elements_size p)) [
    | inl less ↦ element_at j (omega (arith, less)) ∙ ap Of (prior_is p.most j less).1 ∙ ap prior_in (sym (element_at (suc j) less))
    | inr more ↦ behind_elements more (behind (suc j) more low).1 ∙ ap prior_in (sym (past_elements (suc j) more))
  ]
    where
      behind_elements : elements_size p ≤ suc j → IsPast p.missing (suc j - elements_size p)
          → numbered_at p j ≡ prior_in (behind_at p.missing p.most (suc j - elements_size p))
      behind_elements more less = elim (cases_lt j (elements_size p)) [
        | inl few ↦ (
            let any = p.any in
            let none : suc j - elements_size p ≡ 0 = omega (arith, more, few) in
            let end : j ≡ elements_size p - 1 = omega (arith, more, few) in
            element_at j few ∙ ap (λ n. Of (spot_at p n)) end ∙ ap Of (last_element (p.most - 1) (omega (arith, any)))
            ∙ first_behind p.missing (subst (IsPast p.missing) none less) ∙ ap (λ n. prior_in (behind_at p.missing p.most n)) (sym none))
        | inr up ↦ (
            let one : suc j - elements_size p ≡ suc (j - elements_size p) = omega (arith, up) in
            past_elements j up ∙ next_behind p.missing (j - elements_size p) (subst (IsPast p.missing) one less)
            ∙ ap (λ n. prior_in (behind_at p.missing p.most n)) (sym one))
      ]

  -- ---- values

  -- a list of one size has none
  pub unvalued : (j : ℕ) → p.starts ≡ None → (s : Spot) → IsIn (says_sizes p) k p.most s → spot_whole j s ≡ suc j
  unvalued j e (ElementHead i) low = refl
  unvalued j e (ElementEnd i) low = refl
  unvalued j e (FieldHead i f) low = refl
  unvalued j e (FieldEnd i f) low = refl
  unvalued j e (Value i) low = never low.1 (ap is_some e)
