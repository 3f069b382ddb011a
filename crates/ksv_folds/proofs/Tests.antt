-- Tests that are true.
use Rattle.std.proofs.Common.{◌≡◌, ℕ, zero, suc, ◌≤◌, Bool, true, false, ◌&&◌, Option, Some, None, refl, arith}
use Rattle.std.proofs.lemmas.Bool.Decides.{nat_tests}
use Rattle.ksv_list_laws.specs.Lists.{same_name, all_to}

pub both : (a b : Bool) → a ≡ true → b ≡ true → (a && b) ≡ true
both true b h e = e
both false b h e = absurd (cc)

pub same_is : (o : Option ℕ) → same_name o o ≡ true
same_is None = refl
same_is (Some n) = grind (arith, nat_tests)

pub all_are : (q : ℕ → Bool) (k : ℕ) → ((j : ℕ) → j ≤ k → q j ≡ true) → all_to q k ≡ true
all_are q zero h = h 0 (omega arith)
all_are q (suc k) h = both (q (suc k)) (all_to q k) (h (suc k) (omega arith)) (all_are q k (λ j low. h j (omega (arith, low))))
