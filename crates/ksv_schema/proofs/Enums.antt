-- What is read of enums has no names after dots.
use Rattle.ksv_schema.proofs.Common.{◌≡◌, ◌+◌, ℕ, Bool, true, false, cond, List, [], ◌∷◌, ◌++◌, ap, ◌∙◌, refl, Option, Some, None, codes, option_map_or, Pair}
use Rattle.ksv_schema.proofs.Common.{line_of, text_of, mapping_of, entry_at, Whole, LeadingZero, NoNumeral, Row, keys_of, Declared, is_id, bad_value, Reading}
use Rattle.ksv_schema.proofs.Common.{must, each, each_from, keys_faults, constant, enum, all_enums}
use Rattle.std.specs.Prelude.{take}
use Rattle.ksv_yaml_tree.specs.declared.numeral.Numeral.{Numeral}
use Rattle.ksv_yaml_tree.specs.Numerals.{signed_number}
use Rattle.ksv_schema.specs.declared.keys.forms.MappingKind.TheVariants as kinds
use Rattle.ksv_schema.specs.Reading.{gives, wrong, also, mapping}
use Rattle.ksv_schema.specs.Description.{whole, id_text, id, entry_id}

pub whole_words : (line : ℕ) (n : Numeral) → (whole line n).words ≡ []
whole_words line (Whole n) = refl
whole_words line LeadingZero = refl
whole_words line NoNumeral = refl

id_text_words : (line : ℕ) (name : List ℕ) → (id_text line name).words ≡ []
id_text_words line name = go (is_id name)
  where
    go : (b : Bool) → (cond b (gives name) (wrong line bad_value)).words ≡ []
    go true = refl
    go false = refl

id_words : (p : Pair) → (id p).words ≡ []
id_words p = go (text_of p.value)
  where
    go : (o : Option (List ℕ)) → (option_map_or (id_text p.line) o (wrong p.line bad_value)).words ≡ []
    go None = refl
    go (Some name) = id_text_words p.line name

must_words : (line : ℕ) (o : Option Pair) → (must line id o).words ≡ []
must_words line None = refl
must_words line (Some p) = id_words p

entry_words : (p : Pair) → (entry_id p).words ≡ []
unfolding entry_id
entry_words p = go (text_of p.value)
  where
    keys : (es : List Pair) → (also (keys_faults kinds.Constant es) (must (line_of p.value) id (entry_at (codes "id") es))).words ≡ []
    keys es = must_words (line_of p.value) (entry_at (codes "id") es)

    within : (o : Option (List Pair))
        → (option_map_or (λ es. also (keys_faults kinds.Constant es) (must (line_of p.value) id (entry_at (codes "id") es))) o (wrong p.line bad_value)).words
        ≡ []
    within None = refl
    within (Some es) = keys es

    go : (o : Option (List ℕ))
        → (option_map_or (id_text p.line) o
        (mapping (λ es. also (keys_faults kinds.Constant es) (must (line_of p.value) id (entry_at (codes "id") es))) p)).words ≡ []
    go None = within (mapping_of p.value)
    go (Some name) = id_text_words p.line name

constant_words : (before : List Pair) (p : Pair) → (constant before p).words ≡ []
unfolding constant
constant_words before p = ap (λ (ws : List (List ℕ)). ws ++ (entry_id p).words) (whole_words p.line (signed_number p.key)) ∙ entry_words p

from_words : {A B : Type 0} (f : ℕ → A → Reading B) (h : (i : ℕ) (x : A) → (f i x).words ≡ []) (n : ℕ) (xs : List A) → (each_from f n xs).words ≡ []
from_words f h n [] = refl
from_words f h n (x ∷ xs) = ap (λ (ws : List (List ℕ)). ws ++ (each_from f (n + 1) xs).words) (h n x) ∙ from_words f h (n + 1) xs

enum_words : (r : Row) → (enum r).words ≡ []
enum_words r =
    ap (λ (ws : List (List ℕ)). ws ++ (each_from (λ i. constant (take i (keys_of r))) 0 (keys_of r)).words) (id_text_words r.line r.id)
    ∙ from_words (λ i. constant (take i (keys_of r))) (λ i. constant_words (take i (keys_of r))) 0 (keys_of r)

pub each_enum_words : (rs : List Row) → (each enum rs).words ≡ []
each_enum_words rs = from_words (λ i. enum) (λ i. enum_words) 0 rs

pub all_enums_words : (d : Declared) → (all_enums d).words ≡ []
unfolding all_enums
all_enums_words d = each_enum_words d.enums
