-- What is wrong with the keys of a mapping: each by the table of keys, and keys together by a table of rules. The line of
-- a fault is that of the key or list item with the fault. For a missing key it is the first line of the mapping; for two
-- keys that don't fit together, the lower of their lines.
use Rattle.std.specs.Prelude.{ℕ, Bool, true, not, if◌then◌else◌, ◌&&◌, min, List, [], ◌∷◌, flat_map, codes, Option, Some, None, is_some, is_none, option_map}
use Rattle.std.specs.List.{list_any}
use Rattle.std.specs.Option.{option_map_or}
use Rattle.std.specs.Str.{bytes_eq}
use Rattle.ksv_yaml_tree.specs.Tree.{Pair, text_of, mapping_of, list_of, entry_at}
use Rattle.ksv_yaml_tree.specs.Keys.{entries_in, has, says}
use Rattle.ksv_yaml_tree.specs.declared.numeral.Numeral.{Numeral}
use Rattle.ksv_yaml_tree.specs.declared.numeral.Numeral.TheVariants.{Whole, LeadingZero, NoNumeral}
use Rattle.ksv_schema_names.specs.Types.{order_named}
use Rattle.ksv_schema.specs.declared.keys.forms.Form.{Form}
use Rattle.ksv_schema.specs.declared.keys.forms.Form.TheVariants as forms
use Rattle.ksv_schema.specs.declared.keys.forms.MappingKind.{MappingKind}
use Rattle.ksv_schema.specs.declared.keys.forms.Group.{Group}
use Rattle.ksv_schema.specs.declared.keys.forms.Group.TheVariants as groups
use Rattle.ksv_schema.specs.Keys.{is_in, form_in, is_ignored, is_id}
use Rattle.ksv_schema.specs.KeyTexts.{encoding_named, TypeText, is_integer, is_a, byte_number}
use Rattle.ksv_schema.specs.Faults.{Fault, fault, fault_if, unknown_key, missing_key, keys_against, bad_value, left_out}

-- ---- one key

-- where a plain number from 0 to 255 is wanted
abbrev pub numeral_faults : ℕ → Numeral → List Fault
numeral_faults line (Whole n) = []
numeral_faults line LeadingZero = fault line left_out
numeral_faults line NoNumeral = fault line bad_value

-- `endian`: a text, or a choice by `switch-on`, which is unsupported
unfoldable pub endian_faults : Pair → List Fault
endian_faults p =
    option_map_or (λ text. fault_if (is_none (order_named text)) p.line bad_value) (text_of p.value)
    (fault p.line (if has (codes "switch-on") (entries_in p.value) then left_out else bad_value))

-- a text alone: `be`; `le` is unsupported
unfoldable pub bit_endian_faults : ℕ → List ℕ → List Fault
bit_endian_faults line text = if bytes_eq text (codes "be") then [] else fault line (if bytes_eq text (codes "le") then left_out else bad_value)

-- whether a text is allowed at a key of this form, as far as the text alone decides
abbrev pub fits : Form → List ℕ → Bool
fits forms.Id text = is_id text
fits forms.Flag text = list_any (bytes_eq text) (codes "true" ∷ codes "false" ∷ [])
fits forms.Repeat text = list_any (bytes_eq text) (codes "eos" ∷ codes "expr" ∷ codes "until" ∷ [])
fits forms.Coding text = is_some (encoding_named text)
fits forms.ParameterType text = not (bytes_eq text (codes "io"))
fits _ text = true

-- the text at a key, by its form
abbrev pub form_text_faults : ℕ → Form → List ℕ → List Fault
form_text_faults line forms.Byte text = numeral_faults line (byte_number text)
form_text_faults line forms.BitEndian text = bit_endian_faults line text
form_text_faults line forms.Coding text = fault_if (not (fits forms.Coding text)) line left_out
form_text_faults line forms.ParameterType text = fault_if (not (fits forms.ParameterType text)) line left_out
form_text_faults line form text = fault_if (not (fits form text)) line bad_value

-- the value at a key, by its form; what is read at a key of the form `Stated` is defined where it is read
unfoldable pub form_faults : Pair → Form → List Fault
form_faults p forms.Ignored = []
form_faults p forms.Stated = []
form_faults p forms.NotHere = fault p.line left_out
form_faults p forms.Mapping = fault_if (is_none (mapping_of p.value)) p.line bad_value
form_faults p forms.Listing = fault_if (is_none (list_of p.value)) p.line bad_value
form_faults p forms.Endian = endian_faults p
form_faults p form = option_map_or (form_text_faults p.line form) (text_of p.value) (fault p.line bad_value)

-- a key that such a mapping may not have, or the faults of its value
unfoldable pub key_faults : MappingKind → Pair → List Fault
key_faults kind p = if is_ignored p.key then [] else option_map_or (form_faults p) (form_in kind p.key) (fault p.line unknown_key)

abbrev pub keys_faults : MappingKind → List Pair → List Fault
keys_faults kind es = flat_map (key_faults kind) es

-- a key that must be in a mapping of this line
abbrev pub missing : List ℕ → ℕ → List Pair → List Fault
missing name line es = fault_if (not (has name es)) line missing_key

-- ---- keys together

-- what a rule of keys speaks of: a key, a key with this text, or the key `type` with an integer
pub data Claim : Type 0 where
  Has : List ℕ → Claim
  Says : List ℕ → List ℕ → Claim
  IsInteger : Claim

-- the key by which it is so, where the text at `type` is this one
abbrev pub claimed : Option TypeText → List Pair → Claim → Option Pair
claimed typed es (Has name) = entry_at name es
claimed typed es (Says name text) = if says name text es then entry_at name es else None
claimed typed es IsInteger = if is_a is_integer typed then entry_at (codes "type") es else None

-- two keys that exclude each other, one that needs another, and one that is allowed only beside another
pub data Rule : Type 0 where
  Excludes : Claim → Claim → Rule
  Needs : Claim → Claim → Rule
  Attends : Claim → Claim → Rule

-- the lower line of two, if both are there
unfoldable pub against : Option ℕ → Option ℕ → List Fault
against None other = []
against (Some line) None = []
against (Some line) (Some other) = fault (min line other) keys_against

abbrev pub line_of_key : Option Pair → Option ℕ
line_of_key o = option_map (λ p. p.line) o

-- something is wrong with a key that is there
abbrev pub at_if : Bool → Option Pair → ℕ → List Fault
at_if wrong None number = []
at_if wrong (Some p) number = fault_if wrong p.line number

abbrev pub rule_faults : ℕ → Option TypeText → List Pair → Rule → List Fault
rule_faults line typed es (Excludes one other) = against (line_of_key (claimed typed es one)) (line_of_key (claimed typed es other))
rule_faults line typed es (Needs one other) = fault_if (is_some (claimed typed es one) && is_none (claimed typed es other)) line missing_key
rule_faults line typed es (Attends one other) = at_if (is_none (claimed typed es other)) (claimed typed es one) keys_against

-- a rule of the mappings of a group
pub record Ruled : Type 0 where
  pub group : Group
  pub rule : Rule

abbrev pub ruled : Group → Rule → Ruled
ruled group rule = record { group = group; rule = rule }

abbrev pub rules : List Ruled
rules =
    ruled groups.Read (Needs (Says (codes "repeat") (codes "expr")) (Has (codes "repeat-expr"))) ∷
    ruled groups.Read (Needs (Says (codes "repeat") (codes "until")) (Has (codes "repeat-until"))) ∷
    ruled groups.Read (Attends (Has (codes "repeat-expr")) (Says (codes "repeat") (codes "expr"))) ∷
    ruled groups.Read (Attends (Has (codes "repeat-until")) (Says (codes "repeat") (codes "until"))) ∷
    ruled groups.Read (Attends (Has (codes "enum")) IsInteger) ∷
    ruled groups.Read (Excludes (Has (codes "size")) (Says (codes "size-eos") (codes "true"))) ∷
    ruled groups.Read (Excludes (Has (codes "contents")) (Has (codes "type"))) ∷
    ruled groups.Read (Excludes (Has (codes "contents")) (Has (codes "size"))) ∷
    ruled groups.Read (Excludes (Has (codes "contents")) (Has (codes "size-eos"))) ∷
    ruled groups.Read (Excludes (Has (codes "contents")) (Has (codes "terminator"))) ∷
    ruled groups.Read (Excludes (Has (codes "contents")) (Has (codes "enum"))) ∷
    ruled groups.Read (Excludes (Has (codes "contents")) (Has (codes "valid"))) ∷
    ruled groups.Read (Excludes IsInteger (Has (codes "size"))) ∷
    ruled groups.Read (Excludes IsInteger (Says (codes "size-eos") (codes "true"))) ∷
    ruled groups.Read (Excludes IsInteger (Has (codes "terminator"))) ∷
    ruled groups.Values (Excludes (Has (codes "value")) (Has (codes "pos"))) ∷
    ruled groups.Values (Excludes (Has (codes "value")) (Has (codes "io"))) ∷
    ruled groups.Values (Excludes (Has (codes "value")) (Has (codes "type"))) ∷
    ruled groups.Values (Excludes (Has (codes "value")) (Has (codes "size"))) ∷
    ruled groups.Values (Excludes (Has (codes "value")) (Has (codes "repeat"))) ∷
    ruled groups.Checks (Excludes (Has (codes "eq")) (Has (codes "any-of"))) ∷
    ruled groups.Checks (Excludes (Has (codes "eq")) (Has (codes "expr"))) ∷
    ruled groups.Checks (Excludes (Has (codes "eq")) (Has (codes "min"))) ∷
    ruled groups.Checks (Excludes (Has (codes "eq")) (Has (codes "max"))) ∷
    ruled groups.Checks (Excludes (Has (codes "any-of")) (Has (codes "expr"))) ∷
    ruled groups.Checks (Excludes (Has (codes "any-of")) (Has (codes "min"))) ∷
    ruled groups.Checks (Excludes (Has (codes "any-of")) (Has (codes "max"))) ∷
    ruled groups.Checks (Excludes (Has (codes "expr")) (Has (codes "min"))) ∷
    ruled groups.Checks (Excludes (Has (codes "expr")) (Has (codes "max"))) ∷ []

unfoldable pub ruled_faults : MappingKind → ℕ → Option TypeText → List Pair → Ruled → List Fault
ruled_faults kind line typed es r = if is_in r.group kind then rule_faults line typed es r.rule else []

-- what breaks a rule, in a mapping of this kind with this first line and these keys
unfoldable pub together : MappingKind → ℕ → Option TypeText → List Pair → List Fault
together kind line typed es = flat_map (ruled_faults kind line typed es) rules
