-- Types and enums as rows, and the rows that a tree declares.
use Rattle.std.specs.Prelude.{ℕ, ◌+◌, Bool, false, if◌then◌else◌, ◌&&◌, ◌==◌, List, [], ◌∷◌, ◌++◌, length, map, codes, Option, Some, None, unwrap_or}
use Rattle.std.specs.List.{position_from}
use Rattle.std.specs.Option.{option_map_or}
use Rattle.std.specs.Str.{bytes_eq}
use Rattle.ksv_yaml_tree.specs.Tree.{Tree, Text, Seq, Map, Entries, no_entries, entry, Pair, line_of}
use Rattle.ksv_yaml_tree.specs.Keys.{entries_in, entries_at, text_at}

-- A type or an enum: the number of the type that it is in, the line of its name and the name (for the root, its first
-- line and its id), and its value.
pub record Row : Type 0 where
  pub within : Option ℕ
  pub line : ℕ
  pub id : List ℕ
  pub value : Tree

-- the keys of a type, the entries of an enum
abbrev pub keys_of : Row → List Pair
keys_of r = entries_in r.value

abbrev pub named_row : ℕ → Pair → Row
named_row n p = record { within = Some n; line = p.line; id = p.key; value = p.value }

-- ---- types, of which the root's number is 0

-- the types so far, and then those in the type n
abbrev mutual
  pub with_types : ℕ → Tree → List Row → List Row
  with_types n (Text _ _ _) rows = rows
  with_types n (Seq _ _) rows = rows
  with_types n (Map _ es) rows = with_key n es rows

  pub with_key : ℕ → Entries → List Row → List Row
  with_key n no_entries rows = rows
  with_key n (entry line key value es) rows = if bytes_eq key (codes "types") then with_named n value rows else with_key n es rows

  pub with_named : ℕ → Tree → List Row → List Row
  with_named n (Text _ _ _) rows = rows
  with_named n (Seq _ _) rows = rows
  with_named n (Map _ es) rows = with_each n es rows

  pub with_each : ℕ → Entries → List Row → List Row
  with_each n no_entries rows = rows
  with_each n (entry line id value es) rows = with_each n es (with_types (length rows) value (rows ++ record { within = Some n; line = line; id = id; value = value } ∷ []))

-- the text at `id` of a type's `meta`, or the empty one
abbrev pub root_row : Tree → Row
root_row t = record { within = None; line = line_of t; id = unwrap_or (text_at (codes "id") (entries_at (codes "meta") (entries_in t))) []; value = t }

unfoldable pub types_of : Tree → List Row
types_of t = with_types 0 t (root_row t ∷ [])

-- ---- enums

-- the enums of types that are numbered from n on
abbrev pub enums_from : ℕ → List Row → List Row
enums_from n [] = []
enums_from n (r ∷ rs) = map (named_row n) (entries_at (codes "enums") (keys_of r)) ++ enums_from (n + 1) rs

-- what a tree declares
pub record Declared : Type 0 where
  pub types : List Row
  pub enums : List Row

abbrev pub declared_by : List Row → Declared
declared_by types = record { types = types; enums = enums_from 0 types }

abbrev pub declared_in : Tree → Declared
declared_in t = declared_by (types_of t)

-- ---- rows by their names

abbrev pub is_within : ℕ → Row → Bool
is_within n r = option_map_or (λ m. m == n) r.within false

-- the row of this name directly within the type n
unfoldable pub row_in : List Row → List ℕ → ℕ → Option ℕ
row_in rows name n = position_from (λ r. is_within n r && bytes_eq r.id name) 0 rows
