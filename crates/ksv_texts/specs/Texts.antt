-- The texts of values, names, faults and refusals, as the commands' reference has them.
use Rattle.std.specs.Fmt.{signed_decimal}
use Rattle.std.specs.List.{flat_map}
use Rattle.std.specs.Prelude.{ℕ, ℤ, ◌==◌, Bool, true, false, List, ◌++◌, codes, decimal, slice_range, unwrap_or, if◌then◌else◌}
use Rattle.hex.specs.Hex.{encode_lower}
use Rattle.serde_json.specs.Data.{string}
use Rattle.serde_json.specs.Written.{compact_text}
use Rattle.ksv_desc.specs.Description.{Description, enum_id, member_id, name}
use Rattle.ksv_expr_value.specs.Places.{Place, byte_in, bit_in}
use Rattle.ksv_nodes.specs.declared.node_fault.NodeFault.{NodeFault}
use Rattle.ksv_nodes.specs.NodeFaults.{fault_name, fault_path}
use Rattle.ksv_paths.specs.PathTexts.{path_text}
use Rattle.ksv_texts.specs.declared.refusal.Refusal.{Refusal}
use Rattle.ksv_texts.specs.declared.refusal.Refusal.TheVariants as refusals

abbrev pub truth_text : Bool → List ℕ
truth_text true = codes "true"
truth_text false = codes "false"

-- the text as JSON quotes it
unfoldable pub quoted_text : List ℕ → List ℕ
quoted_text text = compact_text (string text)

-- the digits of the bytes of a range, as they are now
unfoldable pub bytes_text : List ℕ → ℕ → ℕ → List ℕ
bytes_text b from to = codes "hex " ++ encode_lower (slice_range b from to)

-- a number by its enum's id and its own id; `?` if it has no id
unfoldable pub member_name : Description → ℕ → ℤ → List ℕ
member_name d e n = enum_id d e ++ codes "::" ++ unwrap_or (member_id d e n) (codes "?")

-- the same with the number
unfoldable pub member_text : Description → ℕ → ℤ → List ℕ
member_text d e n = member_name d e n ++ codes " (" ++ signed_decimal n ++ codes ")"

-- names, each with a space before it
abbrev pub names_text : Description → List ℕ → List ℕ
names_text d names = flat_map (λ x. codes " " ++ name d x) names

-- a place by the byte that it is in; where bits of that byte are before it, how many they are, after a dot
unfoldable pub place_text : Place → List ℕ
place_text p = if bit_in p == 0 then decimal (byte_in p) else decimal (byte_in p) ++ codes "." ++ decimal (bit_in p)

-- a fault by its kind and the path where it arose
unfoldable pub fault_words : Description → NodeFault → List ℕ
fault_words d f = fault_name f ++ codes " at " ++ path_text d (fault_path f)

unfoldable pub fault_text : Description → NodeFault → List ℕ
fault_text d f = codes "fault " ++ fault_words d f

abbrev pub refusal_text : Refusal → List ℕ
refusal_text refusals.NotAnInteger = codes "error: not an integer"
refusal_text refusals.OutOfRange = codes "error: out of range"
refusal_text refusals.TooLarge = codes "error: too large"
