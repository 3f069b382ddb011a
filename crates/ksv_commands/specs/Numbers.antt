-- Numbers of a command line, in decimal.
use Rattle.std.specs.Prelude.{ℕ, ◌==◌, nat_le, ℤ, pos, neg_ℤ, List, [], ◌∷◌, length, Option, None, option_and_then, if◌then◌else◌}
use Rattle.ksv_expr_value.specs.Range.{ranged}
use Rattle.ksv_paths.specs.PathTexts.{decimal_of}

-- a place or a number of bytes: 1 to 20 digits
abbrev pub number_of : List ℕ → Option ℕ
number_of text = if nat_le (length text) 20 then decimal_of text else None

-- an integer: a number, or a `-` and a number, that is at least -2^63 and below 2^64
abbrev pub integer_of : List ℕ → Option ℤ
integer_of [] = None
integer_of (c ∷ text) =
    if c == 45 then option_and_then (λ n. ranged (neg_ℤ (pos n))) (number_of text)
    else option_and_then (λ n. ranged (pos n)) (number_of (c ∷ text))
