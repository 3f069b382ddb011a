-- The numbers of the nodes of a sequence, and the node of a number, where no element says a size.
use Rattle.std.proofs.Common.{◌≡◌, ◌∙◌, ℕ, zero, suc, ◌+◌, ◌-◌, ◌*◌, ◌/◌, ◌%◌, ◌<◌, ◌==◌, ◌≢◌, inl, inr, Bool, true, false, if◌then◌else◌, refl, sym, ap, arith}
use Rattle.std.proofs.Math.Nat.{mul-add-div, div-eq_of_lt, div-add-mod, mod-lt, mul-le-mul_left, mul-suc, mul-zero}
use Rattle.std.proofs.lemmas.Bool.{cases_lt}
use Rattle.std.proofs.lemmas.Bool.Decides.{nat_tests}
use Rattle.ksv_folds.specs.Sequence.{field_spot, plain_spot, IsIn, plain_index}
use Rattle.ksv_folds.specs.declared.spot.Spot.{Spot}
use Rattle.ksv_folds.specs.declared.spot.Spot.TheVariants.{ElementHead, ElementEnd, FieldHead, FieldEnd, Value}

-- the node of a number
abbrev pub spot : ℕ → ℕ → Spot
spot per j = plain_spot per (j / per) (j % per)

-- which element, and which node of it
pub divided : (per i r : ℕ) → r < per → ((per * i + r) / per ≡ i) × ((per * i + r) % per ≡ r)
divided per i r low =
    let q : (per * i + r) / per ≡ i = mul-add-div {m = per} (omega (arith, low)) i r ∙ (let z : r / per ≡ 0 = div-eq_of_lt low in omega (arith, z)) in
    let all = div-add-mod (per * i + r) per in
    let same : per * ((per * i + r) / per) ≡ per * i = ap (λ n. per * n) q in (q, omega (arith, all, same))

-- the node before, where each element has so many fields; of the first it is the first
abbrev pub prior : ℕ → Spot → Spot
prior k (ElementHead zero) = ElementHead 0
prior k (ElementHead (suc i)) = ElementEnd i
prior zero (ElementEnd i) = ElementHead i
prior (suc f) (ElementEnd i) = FieldEnd i f
prior k (FieldHead i zero) = ElementHead i
prior k (FieldHead i (suc f)) = FieldEnd i f
prior k (FieldEnd i f) = FieldHead i f
prior k (Value i) = ElementHead i

-- it is there, and has the number before
prior_there : (k per : ℕ) → per ≡ 2 + 2 * k → (n : ℕ) (s : Spot) (j : ℕ) → IsIn false k n s → plain_index per s ≡ suc j → IsIn false k n (prior k s)
    × (plain_index per (prior k s) ≡ j)
prior_there k per wide n (ElementHead zero) j low e = absurd (let none = mul-zero per in omega (arith, none, e))
prior_there k per wide n (ElementHead (suc i)) j low e = let more = mul-suc per i in (omega (arith, low), omega (arith, more, wide, e))
prior_there zero per wide n (ElementEnd i) j low e = (low, omega (arith, wide, e))
prior_there (suc f) per wide n (ElementEnd i) j low e = ((low, omega arith), omega (arith, wide, e))
prior_there k per wide n (FieldHead i zero) j low e = (low.0, omega (arith, e))
prior_there k per wide n (FieldHead i (suc f)) j low e = let few = low.1 in ((low.0, omega (arith, few)), omega (arith, e))
prior_there k per wide n (Value i) j low e = absurd (let says = low.1 in cc)
prior_there k per wide n (FieldEnd i f) j low e = (low, omega (arith, e))

-- an element's node is of one of so many elements
pub below_by : (per i r n : ℕ) → per * i + r < per * n → i < n
below_by per i r n low = elim (cases_lt i n) [
  | inl less ↦ less
  | inr more ↦ absurd (let e = mul-le-mul_left per more in omega (arith, e, low))
]

pub low_by : (per n i r : ℕ) → i < n → r < per → per * i + r < per * n
low_by per n i r few low = let e = mul-le-mul_left per few in let more = mul-suc per i in omega (arith, e, more, low)

module _ (k per : ℕ) (wide : per ≡ 2 + 2 * k) where
  field_in : (i r : ℕ) → 0 < r → plain_index per (field_spot i ((r - 1) / 2) ((r - 1) % 2)) ≡ per * i + r
  field_in i r some = by ((r - 1) % 2) refl
    where
      by : (h : ℕ) → (r - 1) % 2 ≡ h → plain_index per (field_spot i ((r - 1) / 2) h) ≡ per * i + r
      by zero e = omega (arith, e, some)
      by (suc zero) e = omega (arith, e, some)
      by (suc (suc h)) e = absurd (omega (arith, e))

  index_in : (i r : ℕ) → plain_index per (plain_spot per i r) ≡ per * i + r
  index_in i r = by (r == 0) refl (r + 1 == per) refl
    where
      by : (a : Bool) → (r == 0) ≡ a → (b : Bool) → (r + 1 == per) ≡ b
          → plain_index per (if a then ElementHead i else if b then ElementEnd i else field_spot i ((r - 1) / 2) ((r - 1) % 2)) ≡ per * i + r
      by true e b e' = let z : r ≡ 0 = grind (arith, nat_tests) in omega (arith, z)
      by false e true e' = let z : r + 1 ≡ per = grind (arith, nat_tests) in omega (arith, z)
      by false e false e' = field_in i r (grind (arith, nat_tests))

  -- the number of a number's node is that number
  pub index_is : (j : ℕ) → plain_index per (spot per j) ≡ j
  index_is j = index_in (j / per) (j % per) ∙ div-add-mod j per

  pub spot_of : (i r : ℕ) → r < per → spot per (per * i + r) ≡ plain_spot per i r
  spot_of i r low = let d = divided per i r low in ap (λ a. plain_spot per a ((per * i + r) % per)) d.0 ∙ ap (plain_spot per i) d.1

  pub within_field : (i f h : ℕ) → f < k → h < 2 → plain_spot per i (2 * f + 1 + h) ≡ field_spot i f h
  within_field i f h low less = by (2 * f + 1 + h == 0) refl (2 * f + 1 + h + 1 == per) refl
    where
      by : (a : Bool) → (2 * f + 1 + h == 0) ≡ a → (b : Bool) → (2 * f + 1 + h + 1 == per) ≡ b
          → (if a then ElementHead i else if b then ElementEnd i else field_spot i ((2 * f + 1 + h - 1) / 2) ((2 * f + 1 + h - 1) % 2)) ≡ field_spot i f h
      by true e b e' = absurd (let z : 2 * f + 1 + h ≡ 0 = grind (arith, nat_tests) in omega (arith, z))
      by false e true e' = absurd (let z : 2 * f + 1 + h + 1 ≡ per = grind (arith, nat_tests) in omega (arith, z, low, less, wide))
      by false e false e' =
          let q : (2 * f + 1 + h - 1) / 2 ≡ f = omega (arith, less) in
          let m : (2 * f + 1 + h - 1) % 2 ≡ h = omega (arith, less) in ap (λ a. field_spot i a ((2 * f + 1 + h - 1) % 2)) q ∙ ap (field_spot i f) m

  pub last_in : (i : ℕ) → plain_spot per i (per - 1) ≡ ElementEnd i
  last_in i = by (per - 1 == 0) refl (per - 1 + 1 == per) refl
    where
      by : (a : Bool) → (per - 1 == 0) ≡ a → (b : Bool) → (per - 1 + 1 == per) ≡ b
          → (if a then ElementHead i else if b then ElementEnd i else field_spot i ((per - 1 - 1) / 2) ((per - 1 - 1) % 2)) ≡ ElementEnd i
      by true e b e' = absurd (let z : per - 1 ≡ 0 = grind (arith, nat_tests) in omega (arith, z, wide))
      by false e true e' = refl
      by false e false e' = absurd (let same : per - 1 + 1 ≡ per = omega (arith, wide) in let z : (per - 1 + 1 == per) ≡ true = grind (arith, nat_tests) in cc)

  -- the node of a node's number is that node
  pub spot_is : (n : ℕ) (s : Spot) → IsIn false k n s → spot per (plain_index per s) ≡ s
  spot_is n (ElementHead i) low =
      let same : per * i + 0 ≡ per * i = omega arith in ap (spot per) (sym same) ∙ spot_of i 0 (omega (arith, wide))
  spot_is n (ElementEnd i) low = spot_of i (per - 1) (omega (arith, wide)) ∙ last_in i
  spot_is n (FieldHead i f) low =
      let same : per * i + (2 * f + 1 + 0) ≡ per * i + (2 * f + 1) = omega arith in
      let few = low.1 in ap (spot per) (sym same) ∙ spot_of i (2 * f + 1 + 0) (omega (arith, few, wide)) ∙ within_field i f 0 few (omega arith)
  spot_is n (FieldEnd i f) low =
      let same : per * i + (2 * f + 1 + 1) ≡ per * i + (2 * f + 2) = omega arith in
      let few = low.1 in ap (spot per) (sym same) ∙ spot_of i (2 * f + 1 + 1) (omega (arith, few, wide)) ∙ within_field i f 1 few (omega arith)
  spot_is n (Value i) low = absurd (let says = low.1 in cc)

  -- ---- which nodes there are

  below : (i r n : ℕ) → per * i + r < per * n → i < n
  below i r n low = below_by per i r n low

  -- the first nodes are of the first elements
  pub spot_in_is : (n j : ℕ) → j < per * n → IsIn false k n (spot per j)
  spot_in_is n j low = by (j % per == 0) refl (j % per + 1 == per) refl
    where
      all : per * (j / per) + j % per ≡ j
      all = div-add-mod j per

      first : j / per < n
      first = below (j / per) (j % per) n (omega (arith, all, low))

      rest : j % per < per
      rest = mod-lt j (omega (arith, wide))

      by_half : (h : ℕ) → (j % per - 1) / 2 < k → IsIn false k n (field_spot (j / per) ((j % per - 1) / 2) h)
      by_half zero few = (first, few)
      by_half (suc h) few = (first, few)

      by : (a : Bool) → (j % per == 0) ≡ a → (b : Bool) → (j % per + 1 == per) ≡ b
          → IsIn false k n (if a then ElementHead (j / per) else if b then ElementEnd (j / per)
          else field_spot (j / per) ((j % per - 1) / 2) ((j % per - 1) % 2))
      by true e b e' = first
      by false e true e' = first
      by false e false e' =
          let some : 0 < j % per = grind (arith, nat_tests) in
          let other : j % per + 1 ≢ per = grind (arith, nat_tests) in by_half ((j % per - 1) % 2) (omega (arith, some, other, rest, wide))

  pub low_in : (n i r : ℕ) → i < n → r < per → per * i + r < per * n
  low_in n i r few low = low_by per n i r few low

  pub index_low : (n : ℕ) (s : Spot) → IsIn false k n s → plain_index per s < per * n
  index_low n (ElementHead i) low = let e = low_in n i 0 low (omega (arith, wide)) in omega (arith, e)
  index_low n (ElementEnd i) low = low_in n i (per - 1) low (omega (arith, wide))
  index_low n (FieldHead i f) low = let few = low.1 in low_in n i (2 * f + 1) low.0 (omega (arith, few, wide))
  index_low n (FieldEnd i f) low = let few = low.1 in low_in n i (2 * f + 2) low.0 (omega (arith, few, wide))
  index_low n (Value i) low = absurd (let says = low.1 in cc)

  -- the node of a number is the one before that of the next
  pub prior_is : (n j : ℕ) → suc j < per * n → IsIn false k n (prior k (spot per (suc j))) × (spot per j ≡ prior k (spot per (suc j)))
  prior_is n j low =
      let z = prior_there k per wide n (spot per (suc j)) j (spot_in_is n (suc j) low) (index_is (suc j)) in
      (z.0, ap (spot per) (sym z.1) ∙ spot_is n (prior k (spot per (suc j))) z.0)

  pub first_is : (n : ℕ) → 0 < n → spot per 0 ≡ ElementHead 0
  first_is n some = ap (spot per) (sym (mul-zero per)) ∙ spot_is n (ElementHead 0) some
