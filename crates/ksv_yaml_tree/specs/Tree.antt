-- Trees as plain values: what a text spells, independent of memory.
use Rattle.std.specs.Prelude.{◌≡◌, ℕ, List, [], ◌∷◌, Bool, false, Option, Some, None}
use Rattle.std.specs.List.{find}
use Rattle.std.specs.Str.{bytes_eq}

mutual
  -- a node, each with the line on which it begins
  pub data Tree : Type 0 where
    -- a scalar: whether it is between quotes, and its bytes
    Text : ℕ → Bool → List ℕ → Tree
    Seq : ℕ → Items → Tree
    Map : ℕ → Entries → Tree

  pub data Items : Type 0 where
    no_items : Items
    item : Tree → Items → Items

  -- a key's line, the key, and its value
  pub data Entries : Type 0 where
    no_entries : Entries
    entry : ℕ → List ℕ → Tree → Entries → Entries

-- the key is that of no entry
abbrev pub IsApart : List ℕ → Entries → Type 0
IsApart key no_entries = Unit {0}
IsApart key (entry n k t es) = (key ≡ k → ⊥) × IsApart key es

-- no two keys are the same
abbrev pub AreDistinct : Entries → Type 0
AreDistinct no_entries = Unit {0}
AreDistinct (entry n k t es) = IsApart k es × AreDistinct es

-- ---- what is asked of a tree

-- an entry by itself
pub record Pair : Type 0 where
  pub line : ℕ
  pub key : List ℕ
  pub value : Tree

-- the entries of a mapping as a list
abbrev pub pairs : Entries → List Pair
pairs no_entries = []
pairs (entry line key value es) = record { line = line; key = key; value = value } ∷ pairs es

-- the items of a sequence as a list
abbrev pub trees : Items → List Tree
trees no_items = []
trees (item t ts) = t ∷ trees ts

-- the line on which a node begins
abbrev pub line_of : Tree → ℕ
line_of (Text line _ _) = line
line_of (Seq line _) = line
line_of (Map line _) = line

-- the bytes of a text
abbrev pub text_of : Tree → Option (List ℕ)
text_of (Text _ _ text) = Some text
text_of (Seq _ _) = None
text_of (Map _ _) = None

-- whether a node is a text between quotes
abbrev pub is_quoted : Tree → Bool
is_quoted (Text _ quoted _) = quoted
is_quoted (Seq _ _) = false
is_quoted (Map _ _) = false

-- the items of a sequence
abbrev pub list_of : Tree → Option (List Tree)
list_of (Text _ _ _) = None
list_of (Seq _ ts) = Some (trees ts)
list_of (Map _ _) = None

-- the entries of a mapping
abbrev pub mapping_of : Tree → Option (List Pair)
mapping_of (Text _ _ _) = None
mapping_of (Seq _ _) = None
mapping_of (Map _ es) = Some (pairs es)

-- the entry at a key
abbrev pub entry_at : List ℕ → List Pair → Option Pair
entry_at key es = find (λ p. bytes_eq p.key key) es
