-- Nodes read farther and farther.
use Rattle.std.proofs.Common.{◌≡◌, ℕ, zero, suc, ◌+◌, ◌-◌, ◌<◌, ◌≤◌, Bool, true, false, if◌then◌else◌, List, [], ◌∷◌, length, inl, inr, refl, sym, ap}
use Rattle.std.proofs.Common.{subst, arith}
use Rattle.std.proofs.Common.{◌==◌}
use Rattle.std.proofs.lemmas.Bool.Decides.{nat_tests}
use Rattle.ksv_folds.proofs.Rooms.{start_up, edge_within, edge_up, edge_above}
use Rattle.ksv_folds.specs.Lemmas.Numbers.{either, prior_by, prior_is, spot_there}
use Rattle.ksv_folds.specs.Lemmas.Spots as plain
use Rattle.ksv_folds.specs.Lemmas.Values as sized
use Rattle.ksv_folds.specs.Sequence.{says_sizes, sizer, IsIn, IsOne, start_of, edge_of, end_reach, head_reach, reach_of, elements_size, spot_at}
use Rattle.ksv_folds.specs.Sequence.{is_open}
use Rattle.ksv_folds.specs.declared.part.Part.{Part}
use Rattle.ksv_folds.specs.declared.plain_list.PlainList.{PlainList}
use Rattle.ksv_folds.specs.declared.spot.Spot.{Spot}
use Rattle.ksv_folds.specs.declared.spot.Spot.TheVariants.{ElementHead, ElementEnd, FieldHead, FieldEnd, Value}

module _ (p : PlainList) where
  abbrev ps : List Part
  ps = p.parts.items

  end_up : (z : ℕ) → (z ≤ end_reach p z) × (end_reach p z ≤ z + 1)
  end_up z = by (is_open p)
    where
      by : (b : Bool) → (z ≤ (if b then z + 1 else z)) × ((if b then z + 1 else z) ≤ z + 1)
      by true = (omega arith, omega arith)
      by false = (omega arith, omega arith)

  -- without fields
  bare : (i : ℕ) (qs : List Part) → length qs ≡ 0 → head_reach p qs i ≤ end_reach p (start_of p (suc i))
  bare i [] e = (end_up (start_of p (suc i))).0
  bare i (q ∷ qs) e = absurd (omega (arith, e))

  -- the head of an element reads as far as the end of the one before, and its first field as far as it
  head_up : (i : ℕ) → suc i < p.most → end_reach p (start_of p (suc i)) ≤ head_reach p ps (suc i)
  head_up i low = by ps
    where
      by : (qs : List Part) → end_reach p (start_of p (suc i)) ≤ head_reach p qs (suc i)
      by [] = let e = (end_up (start_of p (suc i))).1 in let more = start_up p (suc i) low in let some = p.some in omega (arith, e, more, some)
      by (q ∷ qs) = omega arith

  field_up : (i : ℕ) → i < p.most → 0 < length ps → head_reach p ps i ≤ edge_of p i 1
  field_up i low some = by ps some i low
    where
      by : (qs : List Part) → 0 < length qs → (h : ℕ) → h < p.most → head_reach p qs h ≤ edge_of p h 1
      by [] none h low = absurd (omega (arith, none))
      by (q ∷ qs) any zero low = omega arith
      by (q ∷ qs) any (suc h) low =
          let e = (end_up (start_of p (suc h))).1 in let above = edge_above p (suc h) 0 low some in omega (arith, e, above)

  end_above : (i f : ℕ) → i < p.most → f < length ps → edge_of p i (suc f) ≤ end_reach p (start_of p (suc i))
  end_above i f low few =
      let up = edge_within p i (suc f) low few in let end = (end_up (start_of p (suc i))).0 in omega (arith, up, end)

  -- a node reads as far as the one before
  plain_up : (s : Spot) → IsIn false (length ps) p.most s → reach_of p (plain.prior (length ps) s) ≤ reach_of p s
  plain_up (ElementHead zero) low = omega arith
  plain_up (ElementHead (suc i)) low = head_up i low
  plain_up (ElementEnd i) low = by (length ps) ps refl refl
    where
      by : (k : ℕ) (qs : List Part) → length qs ≡ k → length ps ≡ k → reach_of p (plain.prior k (ElementEnd i)) ≤ end_reach p (start_of p (suc i))
      by zero qs e all = bare i ps all
      by (suc f) qs e all = end_above i f low (omega (arith, all))
  plain_up (FieldHead i zero) low = field_up i low.0 low.1
  plain_up (FieldHead i (suc f)) low = edge_up p i (suc f) low.0 low.1
  plain_up (FieldEnd i f) low = omega arith
  plain_up (Value i) low = absurd (let says = low.1 in cc)

  sized_up : 1 < length ps → (s : Spot) → IsIn true (length ps) p.most s → reach_of p (sized.prior (length ps) s) ≤ reach_of p s
  sized_up some (ElementHead zero) low = omega arith
  sized_up some (ElementHead (suc i)) low = head_up i low
  sized_up some (ElementEnd i) low = end_above i (length ps - 1) low (omega (arith, some))
  sized_up some (FieldHead i zero) low = field_up i low.0 low.1
  sized_up some (FieldHead i (suc f)) low = by (suc (suc f) == length ps) refl
    where
      by : (b : Bool) → (suc (suc f) == length ps) ≡ b → reach_of p (if b then Value i else FieldEnd i f) ≤ edge_of p i (suc (suc f))
      by true e =
          let last : suc (suc f) ≡ length ps = grind (arith, nat_tests) in
          let same : suc (sizer p) ≡ suc f = omega (arith, last) in
          subst (λ g. edge_of p i g ≤ edge_of p i (suc (suc f))) (sym same) (edge_up p i (suc f) low.0 low.1)
      by false e = edge_up p i (suc f) low.0 low.1
  sized_up some (FieldEnd i f) low = omega arith
  sized_up some (Value i) low = omega arith

  prior_up : (s : Spot) → IsOne p s → reach_of p (prior_by (says_sizes p) (length ps) s) ≤ reach_of p s
  prior_up s low = elim (either p) [
    | inl z ↦ subst (λ b. IsIn b (length ps) p.most s → reach_of p (prior_by b (length ps) s) ≤ reach_of p s) (sym z.0) (plain_up s) low
    | inr z ↦ subst (λ b. IsIn b (length ps) p.most s → reach_of p (prior_by b (length ps) s) ≤ reach_of p s) (sym z.0) (sized_up z.2 s) low
  ]

  abbrev reach_at : ℕ → ℕ
  reach_at j = reach_of p (spot_at p j)

  next_up : (j : ℕ) → suc j < elements_size p → reach_at j ≤ reach_at (suc j)
  next_up j low =
      let z = prior_is p p.most j low in
      let up = prior_up (spot_at p (suc j)) (spot_there p p.most (suc j) low) in
      let same = ap (reach_of p) z.1 in omega (arith, up, same)

  more_up : (n i : ℕ) → i + n < elements_size p → reach_at i ≤ reach_at (i + n)
  more_up zero i low = let same : i + 0 ≡ i = omega arith in rw same (omega arith)
  more_up (suc n) i low =
      let up = more_up n i (omega (arith, low)) in
      let next = next_up (i + n) (omega (arith, low)) in
      let same : i + suc n ≡ suc (i + n) = omega arith in rw same (omega (arith, up, next))

  -- later nodes read as far
  pub reach_up : (i j : ℕ) → i ≤ j → j < elements_size p → reach_of p (spot_at p i) ≤ reach_of p (spot_at p j)
  reach_up i j le low =
      let same : i + (j - i) ≡ j = omega (arith, le) in
      subst (λ k. reach_at i ≤ reach_at k) same (more_up (j - i) i (omega (arith, le, low)))
