-- The numbers of the nodes of a sequence, and the node of a number, where each element says the size of its last field.
use Rattle.std.proofs.Common.{◌≡◌, ◌∙◌, ℕ, zero, suc, ◌+◌, ◌-◌, ◌*◌, ◌/◌, ◌%◌, ◌<◌, ◌≤◌, ◌==◌, ◌≢◌, nat_lt, Bool, true, false, if◌then◌else◌, refl, sym, ap}
use Rattle.std.proofs.Common.{subst, arith}
use Rattle.std.proofs.Math.Nat.{div-add-mod, mod-lt, mul-suc, mul-zero}
use Rattle.std.proofs.lemmas.Bool.Decides.{nat_tests}
use Rattle.ksv_folds.specs.Lemmas.Spots as plain
use Rattle.ksv_folds.specs.Lemmas.Spots.{divided}
use Rattle.ksv_folds.specs.Sequence.{field_spot, plain_spot, sized_spot, IsIn, past_value, sized_index}
use Rattle.ksv_folds.specs.declared.spot.Spot.{Spot}
use Rattle.ksv_folds.specs.declared.spot.Spot.TheVariants.{ElementHead, ElementEnd, FieldHead, FieldEnd, Value}

-- the node of a number
abbrev pub spot : ℕ → ℕ → Spot
spot per j = sized_spot per (j / per) (j % per)

-- the node before, where each element has so many fields; of the first it is the first
abbrev pub prior : ℕ → Spot → Spot
prior k (ElementHead zero) = ElementHead 0
prior k (ElementHead (suc i)) = ElementEnd i
prior k (ElementEnd i) = FieldEnd i (k - 1)
prior k (FieldHead i zero) = ElementHead i
prior k (FieldHead i (suc f)) = if suc (suc f) == k then Value i else FieldEnd i f
prior k (FieldEnd i f) = FieldHead i f
prior k (Value i) = FieldEnd i (k - 2)

-- a node that is no value
pub more_nodes : (k n : ℕ) (s : Spot) → IsIn false k n s → IsIn true k n s
more_nodes k n (ElementHead i) low = low
more_nodes k n (ElementEnd i) low = low
more_nodes k n (FieldHead i f) low = low
more_nodes k n (FieldEnd i f) low = low
more_nodes k n (Value i) low = absurd (let says = low.1 in cc)

module _ (k per : ℕ) (wide : per ≡ 3 + 2 * k) (some : 1 < k) where
  width : per - 1 ≡ 2 + 2 * k
  width = omega (arith, wide)

  pub past_last : (f : ℕ) → suc f ≡ k → past_value per f ≡ 1
  past_last f e = let so : (2 * f + 5 == per) ≡ true = grind (arith, nat_tests) in ap (λ b. if b then 1 else 0) so

  pub past_none : (f : ℕ) → suc f < k → past_value per f ≡ 0
  past_none f few =
      let other : 2 * f + 5 < per = omega (arith, few, wide) in
      let so : (2 * f + 5 == per) ≡ false = grind (arith, nat_tests) in ap (λ b. if b then 1 else 0) so

  -- ---- before the value, it, and behind it

  before : (i r : ℕ) → r < per - 4 → sized_spot per i r ≡ plain_spot (per - 1) i r
  before i r low =
      let other : (r == per - 4) ≡ false = grind (arith, nat_tests) in
      let less : nat_lt r (per - 4) ≡ true = grind (arith, nat_tests) in
      ap (λ b. if b then Value i else plain_spot (per - 1) i (if nat_lt r (per - 4) then r else r - 1)) other
      ∙ ap (λ b. plain_spot (per - 1) i (if b then r else r - 1)) less

  at_value : (i : ℕ) → sized_spot per i (per - 4) ≡ Value i
  at_value i =
      let same : (per - 4 == per - 4) ≡ true = grind (arith, nat_tests) in
      ap (λ b. if b then Value i else plain_spot (per - 1) i (if nat_lt (per - 4) (per - 4) then per - 4 else per - 4 - 1)) same

  behind : (i r : ℕ) → per - 4 < r → sized_spot per i r ≡ plain_spot (per - 1) i (r - 1)
  behind i r more =
      let other : (r == per - 4) ≡ false = grind (arith, nat_tests) in
      let up : nat_lt r (per - 4) ≡ false = grind (arith, nat_tests) in
      ap (λ b. if b then Value i else plain_spot (per - 1) i (if nat_lt r (per - 4) then r else r - 1)) other
      ∙ ap (λ b. plain_spot (per - 1) i (if b then r else r - 1)) up

  behind_by : (i r : ℕ) → per - 4 ≤ r → sized_spot per i (suc r) ≡ plain_spot (per - 1) i r
  behind_by i r up =
      let same : suc r - 1 ≡ r = omega arith in behind i (suc r) (omega (arith, up)) ∙ ap (plain_spot (per - 1) i) same

  -- ---- the number of a number's node

  -- one for the value, before such a node
  past_field : (r : ℕ) → 0 < r → r + 1 < per - 1 → past_value per ((r - 1) / 2) ≡ (if nat_lt r (per - 4) then 0 else 1)
  past_field r low less = by (nat_lt r (per - 4)) refl
    where
      by : (b : Bool) → nat_lt r (per - 4) ≡ b → past_value per ((r - 1) / 2) ≡ (if b then 0 else 1)
      by true e = let few : r < per - 4 = grind (arith, nat_tests) in past_none ((r - 1) / 2) (omega (arith, few, wide, low))
      by false e = let up : per - 4 ≤ r = grind (arith, nat_tests) in past_last ((r - 1) / 2) (omega (arith, up, less, wide, low, some))

  field_in : (i r : ℕ) → 0 < r → sized_index per (field_spot i ((r - 1) / 2) ((r - 1) % 2)) ≡ per * i + (r + past_value per ((r - 1) / 2))
  field_in i r low = by ((r - 1) % 2) refl
    where
      by : (h : ℕ) → (r - 1) % 2 ≡ h → sized_index per (field_spot i ((r - 1) / 2) h) ≡ per * i + (r + past_value per ((r - 1) / 2))
      by zero e = let n = past_value per ((r - 1) / 2) in omega (arith, e, low)
      by (suc zero) e = let n = past_value per ((r - 1) / 2) in omega (arith, e, low)
      by (suc (suc h)) e = absurd (omega (arith, e))

  index_in : (i r : ℕ) → r < per - 1 → sized_index per (plain_spot (per - 1) i r) ≡ per * i + (r + (if nat_lt r (per - 4) then 0 else 1))
  index_in i r low = by (r == 0) refl (r + 1 == per - 1) refl
    where
      by : (a : Bool) → (r == 0) ≡ a → (b : Bool) → (r + 1 == per - 1) ≡ b
          → sized_index per (if a then ElementHead i else if b then ElementEnd i else field_spot i ((r - 1) / 2) ((r - 1) % 2))
          ≡ per * i + (r + (if nat_lt r (per - 4) then 0 else 1))
      by true e b e' =
          let z : r ≡ 0 = grind (arith, nat_tests) in
          let so : nat_lt r (per - 4) ≡ true = grind (arith, nat_tests) in
          let none : ◌≡◌ {A = ℕ} (if nat_lt r (per - 4) then 0 else 1) 0 = ap (λ b. if b then 0 else 1) so in omega (arith, z, none)
      by false e true e' =
          let z : r + 1 ≡ per - 1 = grind (arith, nat_tests) in
          let so : nat_lt r (per - 4) ≡ false = grind (arith, nat_tests) in
          let one : ◌≡◌ {A = ℕ} (if nat_lt r (per - 4) then 0 else 1) 1 = ap (λ b. if b then 0 else 1) so in omega (arith, z, one, wide)
      by false e false e' =
          let low' : 0 < r = grind (arith, nat_tests) in
          let other : r + 1 ≢ per - 1 = grind (arith, nat_tests) in
          let p = past_field r low' (omega (arith, low, other)) in
          let all = field_in i r low' in omega (arith, p, all)

  index_sized : (i r : ℕ) → r < per → sized_index per (sized_spot per i r) ≡ per * i + r
  index_sized i r low = by (nat_lt r (per - 4)) refl (r == per - 4) refl
    where
      by : (a : Bool) → nat_lt r (per - 4) ≡ a → (b : Bool) → (r == per - 4) ≡ b → sized_index per (sized_spot per i r) ≡ per * i + r
      by true e b e' =
          let less : r < per - 4 = grind (arith, nat_tests) in
          let one : ◌≡◌ {A = ℕ} (if nat_lt r (per - 4) then 0 else 1) 0 = ap (λ b. if b then 0 else 1) e in
          let z = ap (sized_index per) (before i r less) ∙ index_in i r (omega (arith, less)) in omega (arith, z, one)
      by false e true e' =
          let same : r ≡ per - 4 = grind (arith, nat_tests) in
          let z = ap (λ q. sized_index per (sized_spot per i q)) same ∙ ap (sized_index per) (at_value i) in omega (arith, z, same)
      by false e false e' =
          let more : per - 4 < r = grind (arith, nat_tests) in
          let so : nat_lt (r - 1) (per - 4) ≡ false = grind (arith, nat_tests) in
          let one : ◌≡◌ {A = ℕ} (if nat_lt (r - 1) (per - 4) then 0 else 1) 1 = ap (λ b. if b then 0 else 1) so in
          let z = ap (sized_index per) (behind i r more) ∙ index_in i (r - 1) (omega (arith, more, low)) in omega (arith, z, one, more)

  pub index_is : (j : ℕ) → sized_index per (spot per j) ≡ j
  index_is j = index_sized (j / per) (j % per) (mod-lt j (omega (arith, wide))) ∙ div-add-mod j per

  -- ---- the node of a node's number

  spot_of : (i r : ℕ) → r < per → spot per (per * i + r) ≡ sized_spot per i r
  spot_of i r low = let d = divided per i r low in ap (λ a. sized_spot per a ((per * i + r) % per)) d.0 ∙ ap (sized_spot per i) d.1

  -- of a field, its head or its end
  field_is : (i f h : ℕ) → f < k → h < 2 → spot per (per * i + (2 * f + 1 + h + past_value per f)) ≡ field_spot i f h
  field_is i f h few two = by (suc f == k) refl
    where
      by : (b : Bool) → (suc f == k) ≡ b → spot per (per * i + (2 * f + 1 + h + past_value per f)) ≡ field_spot i f h
      by true e =
          let last : suc f ≡ k = grind (arith, nat_tests) in
          let one = past_last f last in
          let same : 2 * f + 1 + h + past_value per f ≡ suc (2 * f + 1 + h) = omega (arith, one) in
          ap (λ r. spot per (per * i + r)) same ∙ spot_of i (suc (2 * f + 1 + h)) (omega (arith, last, two, wide))
          ∙ behind_by i (2 * f + 1 + h) (omega (arith, last, wide)) ∙ plain.within_field k (per - 1) width i f h few two
      by false e =
          let other : suc f ≢ k = grind (arith, nat_tests) in
          let less : suc f < k = omega (arith, other, few) in
          let none = past_none f less in
          let same : 2 * f + 1 + h + past_value per f ≡ 2 * f + 1 + h = omega (arith, none) in
          ap (λ r. spot per (per * i + r)) same ∙ spot_of i (2 * f + 1 + h) (omega (arith, less, two, wide))
          ∙ before i (2 * f + 1 + h) (omega (arith, less, two, wide)) ∙ plain.within_field k (per - 1) width i f h few two

  pub spot_is : (n : ℕ) (s : Spot) → IsIn true k n s → spot per (sized_index per s) ≡ s
  spot_is n (ElementHead i) low =
      let same : per * i + 0 ≡ per * i = omega arith in
      ap (spot per) (sym same) ∙ spot_of i 0 (omega (arith, wide)) ∙ before i 0 (omega (arith, wide, some))
  spot_is n (ElementEnd i) low =
      spot_of i (per - 1) (omega (arith, wide)) ∙ behind i (per - 1) (omega (arith, wide)) ∙ plain.last_in k (per - 1) width i
  spot_is n (FieldHead i f) low =
      let same : 2 * f + 1 + past_value per f ≡ 2 * f + 1 + 0 + past_value per f = omega arith in
      ap (λ r. spot per (per * i + r)) same ∙ field_is i f 0 (low.1) (omega arith)
  spot_is n (FieldEnd i f) low =
      let same : 2 * f + 2 + past_value per f ≡ 2 * f + 1 + 1 + past_value per f = omega arith in
      ap (λ r. spot per (per * i + r)) same ∙ field_is i f 1 (low.1) (omega arith)
  spot_is n (Value i) low = spot_of i (per - 4) (omega (arith, wide)) ∙ at_value i

  -- ---- which nodes there are

  in_element : (n i r : ℕ) → i < n → r < per - 1 → IsIn true k n (plain_spot (per - 1) i r)
  in_element n i r few low =
      more_nodes k n (plain_spot (per - 1) i r)
      (subst (IsIn false k n) (plain.spot_of k (per - 1) width i r low)
      (plain.spot_in_is k (per - 1) width n ((per - 1) * i + r) (plain.low_in k (per - 1) width n i r few low)))

  pub spot_in_is : (n j : ℕ) → j < per * n → IsIn true k n (spot per j)
  spot_in_is n j low = by (nat_lt (j % per) (per - 4)) refl (j % per == per - 4) refl
    where
      few : j / per < n
      few = let all = div-add-mod j per in plain.below_by per (j / per) (j % per) n (omega (arith, all, low))

      rest : j % per < per
      rest = mod-lt j (omega (arith, wide))

      by : (a : Bool) → nat_lt (j % per) (per - 4) ≡ a → (b : Bool) → (j % per == per - 4) ≡ b → IsIn true k n (spot per j)
      by true e b e' =
          let less : j % per < per - 4 = grind (arith, nat_tests) in
          subst (IsIn true k n) (sym (before (j / per) (j % per) less)) (in_element n (j / per) (j % per) few (omega (arith, less)))
      by false e true e' =
          let same : j % per ≡ per - 4 = grind (arith, nat_tests) in
          subst (IsIn true k n) (sym (ap (sized_spot per (j / per)) same ∙ at_value (j / per))) (few, refl)
      by false e false e' =
          let more : per - 4 < j % per = grind (arith, nat_tests) in
          subst (IsIn true k n) (sym (behind (j / per) (j % per) more)) (in_element n (j / per) (j % per - 1) few (omega (arith, more, rest)))

  pub past_one : (f : ℕ) → f < k → 2 * f + 2 + past_value per f < per - 1
  past_one f few = by (suc f == k) refl
    where
      by : (b : Bool) → (suc f == k) ≡ b → 2 * f + 2 + past_value per f < per - 1
      by true e = let last : suc f ≡ k = grind (arith, nat_tests) in let one = past_last f last in omega (arith, one, last, wide)
      by false e =
          let other : suc f ≢ k = grind (arith, nat_tests) in
          let none = past_none f (omega (arith, other, few)) in omega (arith, none, few, wide)

  pub index_low : (n : ℕ) (s : Spot) → IsIn true k n s → sized_index per s < per * n
  index_low n (ElementHead i) low = let e = plain.low_by per n i 0 low (omega (arith, wide)) in omega (arith, e)
  index_low n (ElementEnd i) low = plain.low_by per n i (per - 1) low (omega (arith, wide))
  index_low n (FieldHead i f) low =
      let one = past_one f (low.1) in plain.low_by per n i (2 * f + 1 + past_value per f) low.0 (omega (arith, one))
  index_low n (FieldEnd i f) low =
      let one = past_one f (low.1) in plain.low_by per n i (2 * f + 2 + past_value per f) low.0 (omega (arith, one))
  index_low n (Value i) low = plain.low_by per n i (per - 4) low.0 (omega (arith, wide))

  -- ---- the node before

  last_there : (n i : ℕ) → i < n → IsIn true k n (FieldEnd i (k - 1))
  last_there n i low = (low, omega (arith, some))

  prior_there : (n : ℕ) (s : Spot) (j : ℕ) → IsIn true k n s → sized_index per s ≡ suc j → IsIn true k n (prior k s) × (sized_index per (prior k s) ≡ j)
  prior_there n (ElementHead zero) j low e = absurd (let none = mul-zero per in omega (arith, none, e))
  prior_there n (ElementHead (suc i)) j low e = let more = mul-suc per i in (omega (arith, low), omega (arith, more, wide, e))
  prior_there n (ElementEnd i) j low e =
      let one = past_last (k - 1) (omega (arith, some)) in (last_there n i low, omega (arith, wide, e, one, some))
  prior_there n (FieldHead i zero) j low e = let none = past_none 0 some in (low.0, omega (arith, e, none))
  prior_there n (FieldHead i (suc f)) j low e = by (suc (suc f) == k) refl
    where
      by : (b : Bool) → (suc (suc f) == k) ≡ b
          → IsIn true k n (if b then Value i else FieldEnd i f) × (sized_index per (if b then Value i else FieldEnd i f) ≡ j)
      by true h =
          let last : suc (suc f) ≡ k = grind (arith, nat_tests) in
          let one = past_last (suc f) last in ((low.0, refl), omega (arith, e, one, last, wide))
      by false h =
          let other : suc (suc f) ≢ k = grind (arith, nat_tests) in
          let few = low.1 in
          let less : suc (suc f) < k = omega (arith, other, few) in
          let none = past_none (suc f) less in
          let none' = past_none f (omega (arith, less)) in ((low.0, omega (arith, few)), omega (arith, e, none, none'))
  prior_there n (FieldEnd i f) j low e = let one = past_value per f in (low, omega (arith, e))
  prior_there n (Value i) j low e =
      let none = past_none (k - 2) (omega (arith, some)) in ((low.0, omega (arith, some)), omega (arith, e, none, wide, some))

  pub prior_is : (n j : ℕ) → suc j < per * n → IsIn true k n (prior k (spot per (suc j))) × (spot per j ≡ prior k (spot per (suc j)))
  prior_is n j low =
      let z = prior_there n (spot per (suc j)) j (spot_in_is n (suc j) low) (index_is (suc j)) in
      (z.0, ap (spot per) (sym z.1) ∙ spot_is n (prior k (spot per (suc j))) z.0)

  pub first_is : (n : ℕ) → 0 < n → spot per 0 ≡ ElementHead 0
  first_is n any = ap (spot per) (sym (mul-zero per)) ∙ spot_is n (ElementHead 0) any
