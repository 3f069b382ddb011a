-- The fields of an element end one after the other, and each has a name of its own.
use Rattle.std.proofs.Common.{◌≡◌, ◌&&◌, ◌||◌, not, ℕ, zero, suc, ◌+◌, ◌-◌, ◌^◌, ◌<◌, ◌≤◌, Bool, true, false, nat_lt, nat_le, nat_eq, List, [], ◌∷◌, length}
use Rattle.std.proofs.Common.{sym, ap, refl, arith}
use Rattle.std.proofs.lemmas.Bool.Decides.{nat_tests}
use Rattle.std.specs.Cmp.{first_so, second_so}
use Rattle.ksv_folds.specs.Parts.{part, edge, is_rising, has_name, have_own_names}
use Rattle.ksv_folds.specs.declared.part.Part.{Part}

-- the same from a place on
abbrev edge_from : ℕ → List Part → ℕ → ℕ
edge_from low ps zero = low
edge_from low ps (suc f) = (part ps f).to

-- what the test says of the first field, and of the others
first_part : (low size : ℕ) (p : Part) (ps : List Part) → is_rising low size (p ∷ ps) ≡ true → (low ≤ p.to) × (0 < p.to) × (p.name < 2 ^ 32)
    × (is_rising p.to size ps ≡ true)
first_part low size p ps h =
    let a = first_so ((nat_le low p.to && nat_lt 0 p.to) && nat_lt p.name (2 ^ 32)) (is_rising p.to size ps) h in
    let b = first_so (nat_le low p.to && nat_lt 0 p.to) (nat_lt p.name (2 ^ 32)) a in
    let c = second_so (nat_le low p.to && nat_lt 0 p.to) (nat_lt p.name (2 ^ 32)) a in (
      le low p.to (first_so (nat_le low p.to) (nat_lt 0 p.to) b),
      less 0 p.to (second_so (nat_le low p.to) (nat_lt 0 p.to) b),
      less p.name (2 ^ 32) c,
      second_so ((nat_le low p.to && nat_lt 0 p.to) && nat_lt p.name (2 ^ 32)) (is_rising p.to size ps) h,
    )
  where
    less : (m n : ℕ) → nat_lt m n ≡ true → m < n
    less m n e = grind (arith, nat_tests)

    le : (m n : ℕ) → nat_le m n ≡ true → m ≤ n
    le m n e = grind (arith, nat_tests)

next_edge : (low size : ℕ) (ps : List Part) → is_rising low size ps ≡ true → (f : ℕ) → f < length ps → (edge_from low ps f ≤ (part ps f).to)
    × (0 < (part ps f).to)
next_edge low size [] h f few = absurd (omega (arith, few))
next_edge low size (p ∷ ps) h zero few = let z = first_part low size p ps h in (z.0, z.1)
next_edge low size (p ∷ ps) h (suc zero) few = next_edge p.to size ps (first_part low size p ps h).3 zero (omega (arith, few))
next_edge low size (p ∷ ps) h (suc (suc f)) few = next_edge p.to size ps (first_part low size p ps h).3 (suc f) (omega (arith, few))

last_edge : (low size : ℕ) (ps : List Part) → is_rising low size ps ≡ true → edge_from low ps (length ps) ≤ size
last_edge low size [] h = grind (arith, nat_tests)
last_edge low size (p ∷ []) h = last_edge p.to size [] (first_part low size p [] h).3
last_edge low size (p ∷ (q ∷ ps)) h = last_edge p.to size (q ∷ ps) (first_part low size p (q ∷ ps) h).3

small_name : (low size : ℕ) (ps : List Part) → is_rising low size ps ≡ true → (f : ℕ) → f < length ps → (part ps f).name < 2 ^ 32
small_name low size [] h f few = absurd (omega (arith, few))
small_name low size (p ∷ ps) h zero few = (first_part low size p ps h).2
small_name low size (p ∷ ps) h (suc f) few = small_name p.to size ps (first_part low size p ps h).3 f (omega (arith, few))

same_edge : (ps : List Part) (f : ℕ) → edge ps f ≡ edge_from 0 ps f
same_edge ps zero = omega arith
same_edge ps (suc f) = omega arith

module _ (size : ℕ) (ps : List Part) (h : is_rising 0 size ps ≡ true) where
  pub edge_next : (f : ℕ) → f < length ps → edge ps f ≤ edge ps (suc f)
  edge_next f few = let e = (next_edge 0 size ps h f few).0 in let same = same_edge ps f in omega (arith, e, same)

  -- no field ends where its element begins
  pub edge_some : (f : ℕ) → f < length ps → 0 < edge ps (suc f)
  edge_some f few = (next_edge 0 size ps h f few).1

  pub name_small : (f : ℕ) → f < length ps → (part ps f).name < 2 ^ 32
  name_small f few = small_name 0 size ps h f few

  pub edge_size : edge ps (length ps) ≤ size
  edge_size = let e = last_edge 0 size ps h in let same = same_edge ps (length ps) in omega (arith, e, same)

  edge_up : (n f : ℕ) → f + n ≤ length ps → edge ps f ≤ edge ps (f + n)
  edge_up zero f few = let same : f + 0 ≡ f = omega arith in rw same (omega arith)
  edge_up (suc n) f few =
      let up = edge_up n f (omega (arith, few)) in
      let less = edge_next (f + n) (omega (arith, few)) in
      let same : f + suc n ≡ suc (f + n) = omega arith in rw same (omega (arith, up, less))

  pub edge_low : (f g : ℕ) → f ≤ g → g ≤ length ps → edge ps f ≤ edge ps g
  edge_low f g le few =
      let same : f + (g - f) ≡ g = omega (arith, le) in
      let up = edge_up (g - f) f (omega (arith, le, few)) in rw (← same) up

-- ---- names

-- a field has its name
named : (name : ℕ) (ps : List Part) (f : ℕ) → f < length ps → (part ps f).name ≡ name → has_name name ps ≡ true
named name [] f few e = absurd (omega (arith, few))
named name (p ∷ ps) zero few e = let same : nat_eq p.name name ≡ true = grind (arith, nat_tests) in ap (λ b. b || has_name name ps) same
named name (p ∷ ps) (suc f) few e = or_right (nat_eq p.name name) (has_name name ps) (named name ps f (omega (arith, few)) e)
  where
    or_right : (a b : Bool) → b ≡ true → (a || b) ≡ true
    or_right true b h = refl
    or_right false b h = h

not_both : (b : Bool) → b ≡ true → not b ≡ true → ⊥
not_both true e h = cc
not_both false e h = cc

-- so an earlier and a later field differ by their names
pub own_name : (ps : List Part) → have_own_names ps ≡ true → (f g : ℕ) → f < g → g < length ps → (part ps f).name ≡ (part ps g).name → ⊥
own_name [] h f g low few e = absurd (omega (arith, few))
own_name (p ∷ ps) h f zero low few e = absurd (omega (arith, low))
own_name (p ∷ ps) h zero (suc g) low few e =
    not_both (has_name p.name ps) (named p.name ps g (omega (arith, few)) (sym e)) (first_so (not (has_name p.name ps)) (have_own_names ps) h)
own_name (p ∷ ps) h (suc f) (suc g) low few e =
    own_name ps (second_so (not (has_name p.name ps)) (have_own_names ps) h) f g (omega (arith, low)) (omega (arith, few)) e
