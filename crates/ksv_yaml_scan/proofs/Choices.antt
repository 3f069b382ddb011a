-- Choices by a truth value.
use Rattle.ksv_yaml_scan.proofs.Common.{◌≡◌, ℕ, arith, Bool, true, false, cond, Option, Some, None, refl, inl, inr, ◌==◌}
use Rattle.std.proofs.Common.{◌⊎◌}

pub chosen : {A : Type 0} (b : Bool) (x y z : A) → cond b x y ≡ z → ((b ≡ true) × (x ≡ z)) ⊎ ((b ≡ false) × (y ≡ z))
chosen true x y z h = inl (refl, h)
chosen false x y z h = inr (refl, h)

pub at_true : {A : Type 0} (b : Bool) (x y : A) → b ≡ true → cond b x y ≡ x
at_true true x y h = refl
at_true false x y h = absurd cc

pub at_false : {A : Type 0} (b : Bool) (x y : A) → b ≡ false → cond b x y ≡ y
at_false true x y h = absurd cc
at_false false x y h = refl

-- the same of what waits: an `elim`'s cases aren't computed before its value is known, the arguments of `cond` are
abbrev pub pick : {A : Type 0} → Bool → A → A → A
pick b x y = elim b [ true ↦ x | false ↦ y ]

pub picked : {A : Type 0} (b : Bool) (x y z : A) → pick b x y ≡ z → ((b ≡ true) × (x ≡ z)) ⊎ ((b ≡ false) × (y ≡ z))
picked true x y z h = inl (refl, h)
picked false x y z h = inr (refl, h)

pub pick_guard : {A : Type 0} (b : Bool) (o : Option A) (y : A) → pick b None o ≡ Some y → (b ≡ false) × (o ≡ Some y)
pick_guard true o y h = absurd cc
pick_guard false o y h = (refl, h)

pub pick_true : {A : Type 0} (b : Bool) (x y : A) → b ≡ true → pick b x y ≡ x
pick_true true x y h = refl
pick_true false x y h = absurd cc

pub pick_false : {A : Type 0} (b : Bool) (x y : A) → b ≡ false → pick b x y ≡ y
pick_false true x y h = absurd cc
pick_false false x y h = refl

pub not_first : (a b : Bool) → cond a false b ≡ true → (a ≡ false) × (b ≡ true)
not_first true b h = absurd cc
not_first false b h = (refl, h)

-- ---- a byte and a constant

pub same_byte : (c k : ℕ) → c ≡ k → (c == k) ≡ true
same_byte c k h = grind arith

pub other_byte : (c k : ℕ) → (c ≡ k → ⊥) → (c == k) ≡ false
other_byte c k h = grind arith
