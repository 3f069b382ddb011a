-- The ids of the numbers of enums.
use Rattle.std.specs.Prelude.{ℕ, Bool, false, ℤ, List, find, codes, Option, Some, None, option_and_then}
use Rattle.std.specs.Option.{option_map_or}
use Rattle.std.specs.Ordering.{int_eq}
use Rattle.std.specs.Str.{bytes_eq}
use Rattle.ksv_yaml_tree.specs.Tree.{Pair, text_of}
use Rattle.ksv_yaml_tree.specs.Keys.{entries_in, text_at}
use Rattle.ksv_yaml_tree.specs.declared.numeral.Numeral.{Numeral}
use Rattle.ksv_yaml_tree.specs.declared.numeral.Numeral.TheVariants.{Whole, LeadingZero, NoNumeral}
use Rattle.ksv_yaml_tree.specs.Numerals.{signed_number}
use Rattle.ksv_schema_names.specs.Rows.{Row}
use Rattle.ksv_schema_names.specs.Types.{keys_at}

-- the number of a numeral, if it has one
abbrev pub whole_of : Numeral → Option ℤ
whole_of (Whole n) = Some n
whole_of LeadingZero = None
whole_of NoNumeral = None

-- the number that the key of an entry is, and its id: its text, or the text at `id` of its mapping
unfoldable pub number_of : Pair → Option ℤ
number_of p = whole_of (signed_number p.key)

unfoldable pub id_of : Pair → Option (List ℕ)
id_of p = option_map_or Some (text_of p.value) (text_at (codes "id") (entries_in p.value))

abbrev pub is_numbered : ℤ → Pair → Bool
is_numbered n p = option_map_or (λ m. int_eq m n) (number_of p) false

abbrev pub is_named : List ℕ → Pair → Bool
is_named id p = option_map_or (λ name. bytes_eq name id) (id_of p) false

-- the id of a number in the enum e, and the number of an id
unfoldable pub id_of_number : List Row → ℕ → ℤ → Option (List ℕ)
id_of_number enums e n = option_and_then id_of (find (is_numbered n) (keys_at enums e))

unfoldable pub number_of_id : List Row → ℕ → List ℕ → Option ℤ
number_of_id enums e id = option_and_then number_of (find (is_named id) (keys_at enums e))
