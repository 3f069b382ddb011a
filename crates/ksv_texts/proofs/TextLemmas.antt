-- Lemmas about texts.
use Rattle.std.proofs.Common.{◌≡◌, ◌∙◌, ◌==◌, append_assoc, ℕ, false, List, [], ◌∷◌, ◌++◌, length, ap, refl}
use Rattle.std.specs.Prelude.{◌/◌, ◌%◌, slice_range, slice_index, codes}
use Rattle.hex.specs.Hex.{encode_lower, encode_with, lower_digits}
use Rattle.ksv_expr_value.specs.declared.step.Step.{Step}
use Rattle.ksv_expr_value.specs.declared.step.Step.TheVariants.{Index, Name}
use Rattle.ksv_desc.specs.Description.{Description}
use Rattle.ksv_paths.specs.PathTexts.{or_slash, steps_text}
use Rattle.ksv_texts.specs.Texts.{bytes_text}

-- the digits of two texts one after the other
pub encoded_append : (table xs ys : List ℕ) → encode_with table xs ++ encode_with table ys ≡ encode_with table (xs ++ ys)
unfolding encode_with
encoded_append table [] ys = refl
encoded_append table (x ∷ xs) ys = ap (λ rest. slice_index table (x / 16) ∷ slice_index table (x % 16) ∷ rest) (encoded_append table xs ys)

-- the digits of a range that is lent in two parts
pub digits_told : (b : List ℕ) (from to : ℕ) (front back : List ℕ) → front ++ back ≡ slice_range b from to
    → (codes "hex " ++ encode_lower front) ++ encode_lower back ≡ bytes_text b from to
unfolding bytes_text
digits_told b from to front back is =
    append_assoc (codes "hex ") (encode_lower front) (encode_lower back)
    ∙ ap (λ digits. codes "hex " ++ digits) (encoded_append lower_digits front back ∙ ap encode_lower is)

-- a path that has steps is told by them
pub path_told : (d : Description) (steps : List Step) → (length steps == 0) ≡ false → or_slash (steps_text d steps) ≡ steps_text d steps
path_told d [] some = absurd (cc)
path_told d (Name n ∷ steps) some = refl
path_told d (Index i ∷ steps) some = refl
