-- Optional numbers in 32 bits: the greatest number means none. This layout is this project's own.
use Rattle.std.specs.Prelude.{◌≡◌, ℕ, ◌==◌, Bool, true, false, Option, Some, None, if◌then◌else◌, refl}
use Rattle.std.proofs.Common.{sym}
use Rattle.std.proofs.lemmas.Bool.{eqb-true}

-- what a number means
abbrev pub optional_of : ℕ → Option ℕ
optional_of n = if n == 4294967295 then None else Some n

-- the number that means it
abbrev pub number_for : Option ℕ → ℕ
number_for None = 4294967295
number_for (Some n) = n

-- what a number means is meant by that number (a lemma, which a reader may skip)
pub number_back : (n : ℕ) → number_for (optional_of n) ≡ n
number_back n = by (n == 4294967295) refl
  where
    by : (b : Bool) → (n == 4294967295) ≡ b → number_for (if b then None else Some n) ≡ n
    by true e = sym (eqb-true n 4294967295 e)
    by false e = refl
