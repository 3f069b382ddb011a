-- What a mapping has at its keys.
use Rattle.std.specs.Prelude.{List, ℕ, Bool, [], Option, option_and_then, unwrap_or, is_some}
use Rattle.std.specs.Option.{option_map_or}
use Rattle.std.specs.Str.{bytes_eq}
use Rattle.ksv_yaml_tree.specs.Tree.{Tree, Pair, text_of, mapping_of, list_of, entry_at}

-- the entries of a node; none if it is no mapping
abbrev pub entries_in : Tree → List Pair
entries_in t = unwrap_or (mapping_of t) []

-- whether a mapping has a key
abbrev pub has : List ℕ → List Pair → Bool
has key es = is_some (entry_at key es)

-- the text at a key
abbrev pub text_at : List ℕ → List Pair → Option (List ℕ)
text_at key es = option_and_then (λ p. text_of p.value) (entry_at key es)

-- the items of the list at a key, and the entries of the mapping at a key
abbrev pub items_at : List ℕ → List Pair → List Tree
items_at key es = unwrap_or (option_and_then (λ p. list_of p.value) (entry_at key es)) []

abbrev pub entries_at : List ℕ → List Pair → List Pair
entries_at key es = unwrap_or (option_and_then (λ p. mapping_of p.value) (entry_at key es)) []

-- whether a key has this text
abbrev pub says : List ℕ → List ℕ → List Pair → Bool
says key text es = option_map_or (bytes_eq text) (text_at key es) Bool.false
