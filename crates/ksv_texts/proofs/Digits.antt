-- The digits of a number, one by one.
use Rattle.std.proofs.Common.{◌≡◌, ◌∙◌, ℕ, suc, ◌+◌, ◌-◌, ◌/◌, ◌%◌, ◌<◌, ◌≤◌, List, [], ◌∷◌, ◌++◌, append_assoc, append-nil, ap, arith, sym}
use Rattle.ksv_texts.specs.Integers.{little_endian}

-- one more digit
pub digit_more : (digits all : List ℕ) (size i rest : ℕ) → i < size → digits ++ little_endian (size - i) rest ≡ all
    → (digits ++ rest % 256 ∷ []) ++ little_endian (size - (i + 1)) (rest / 256) ≡ all
unfolding little_endian
digit_more digits all size i rest h is =
    let more : size - i ≡ suc (size - (i + 1)) = omega arith in
    append_assoc digits (rest % 256 ∷ []) (little_endian (size - (i + 1)) (rest / 256)) ∙ sym (ap (λ n. digits ++ little_endian n rest) more) ∙ is

-- none is left
pub digits_end : (digits all : List ℕ) (size i rest : ℕ) → size ≤ i → digits ++ little_endian (size - i) rest ≡ all → digits ≡ all
unfolding little_endian
digits_end digits all size i rest h is =
    let none : size - i ≡ 0 = omega arith in
    sym (append-nil digits) ∙ sym (ap (λ n. digits ++ little_endian n rest) none) ∙ is

pub digits_begin : (size rest : ℕ) → little_endian size rest ≡ [] ++ little_endian (size - 0) rest
digits_begin size rest = let all : size ≡ size - 0 = omega arith in ap (λ n. little_endian n rest) all
