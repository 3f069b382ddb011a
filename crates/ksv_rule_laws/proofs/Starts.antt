-- Places, and the bytes beside them.
use Rattle.ksv_rule_laws.proofs.Common.{◌≡◌, ℕ, ◌≤◌, Bool, true, false, if◌then◌else◌, refl, arith, Place, at_byte, byte_of, aligned, of_aligned, Choice}
use Rattle.ksv_rule_laws.proofs.Common.{start_after}
use Rattle.ksv_expr_value.proofs.Places.{byte_of_byte}
use Rattle.ksv_rule_meaning.specs.Heads.{is_of_bits}

-- an attribute begins in front of the same byte where the one before it ends
pub of_start : (e : Place) (c : Choice) → byte_of (start_after e c) ≡ byte_of e
of_start e c = by (is_of_bits c)
  where
    by : (b : Bool) → byte_of (if b then e else aligned e) ≡ byte_of e
    by true = refl
    by false = of_aligned e

-- a byte that is no further than another
pub at_most : (n size : ℕ) → n ≤ size → byte_of (at_byte n) ≤ size
at_most n size le = omega (arith, le, byte_of_byte n)

pub at_least : (n size : ℕ) → size ≤ n → size ≤ byte_of (at_byte n)
at_least n size le = omega (arith, le, byte_of_byte n)
