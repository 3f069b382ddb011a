-- The encodings of texts: ASCII, of bytes below 128, and UTF-8. Their names are written in any letter case.
use Rattle.std.specs.Prelude.{ℕ, Bool, List, Option, Some, None, map, nat_lt, if◌then◌else◌, codes}
use Rattle.std.specs.List.{list_all}
use Rattle.std.specs.Char.{to_ascii_lowercase}
use Rattle.std.specs.Str.{bytes_eq, is_utf8}
use Rattle.ksv_expr_value.specs.declared.encoding.Encoding.{Encoding}
use Rattle.ksv_expr_value.specs.declared.encoding.Encoding.TheVariants as encodings

-- one name is another, except for the case of its letters
abbrev pub is_named : List ℕ → List ℕ → Bool
is_named name other = bytes_eq (map to_ascii_lowercase name) (map to_ascii_lowercase other)

-- the encoding of a name
abbrev pub encoding_named : List ℕ → Option Encoding
encoding_named name = if is_named name (codes "ASCII") then Some encodings.Ascii
    else if is_named name (codes "UTF-8") then Some encodings.Utf8
    else None

-- these bytes are a text in an encoding
abbrev pub spells_text : Encoding → List ℕ → Bool
spells_text encodings.Ascii bs = list_all (λ b. nat_lt b 128) bs
spells_text encodings.Utf8 bs = is_utf8 bs

-- the text that bytes spell in an encoding; in both encodings it has the same bytes
abbrev pub decoded : Encoding → List ℕ → Option (List ℕ)
decoded e bs = if spells_text e bs then Some bs else None
