-- The range of expressions' integers. The range, and that a result outside it is a fault, are this project's own.
use Rattle.std.specs.Prelude.{◌≡◌, ℕ, ◌^◌, Bool, true, false, nat_lt, ℤ, pos, negsuc, Option, Some, None, if◌then◌else◌, refl}

-- An integer is at least -2^63 and below 2^64. (`negsuc n` is -(n + 1).)
abbrev pub in_range : ℤ → Bool
in_range (pos n) = nat_lt n (2 ^ 64)
in_range (negsuc n) = nat_lt n (2 ^ 63)

-- an exact result, if it is in the range
abbrev pub ranged : ℤ → Option ℤ
ranged z = if in_range z then Some z else None

-- the integer so far from 0, or so far below -1
abbrev pub signed : ℕ → Bool → ℤ
signed n false = pos n
signed n true = negsuc n

-- how far an integer is from 0, or from -1 where it is below 0
abbrev pub distance_of : ℤ → ℕ
distance_of (pos n) = n
distance_of (negsuc n) = n

abbrev pub is_below_zero : ℤ → Bool
is_below_zero (pos n) = false
is_below_zero (negsuc n) = true

-- an integer of a distance and a sign has these (a lemma, which a reader may skip)
pub signed_back : (n : ℕ) (below : Bool) → ◌≡◌ {A = ℕ × Bool} (distance_of (signed n below), is_below_zero (signed n below)) (n, below)
signed_back n false = refl
signed_back n true = refl
