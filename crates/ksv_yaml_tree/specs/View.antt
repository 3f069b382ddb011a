-- The plain trees of the code's values.
use Rattle.std.specs.Prelude.{ℕ, List, [], ◌∷◌, map, Option, option_map}
use Rattle.std.specs.Borrow.{Bor}
use Rattle.ksv_yaml_tree.specs.Tree.{Tree, Text, Seq, Map, Items, no_items, item, Entries, no_entries, entry, Pair}
use Rattle.ksv_yaml_tree.specs.declared.tree.Yaml.{Yaml}
use Rattle.ksv_yaml_tree.specs.declared.tree.Yaml.TheOpen.{Yaml-F}
use Rattle.ksv_yaml_tree.specs.declared.tree.Yaml.TheFolds.{fold-Yaml}
use Rattle.ksv_yaml_tree.specs.declared.tree.Entry.{Entry, Entry-F, fold-Entry}

-- a list of trees as the items of a sequence
abbrev pub items_of : List Tree → Items
items_of [] = no_items
items_of (t ∷ ts) = item t (items_of ts)

-- a list of entries as those of a mapping
abbrev pub entries_of : List Pair → Entries
entries_of [] = no_entries
entries_of (p ∷ ps) = entry p.line p.key p.value (entries_of ps)

-- the tree of a node, given the trees of its parts
abbrev pub yaml_step : Yaml-F Tree Pair → Tree
yaml_step (Yaml-F.Text line quoted text) = Text line quoted (text.items)
yaml_step (Yaml-F.List line items) = Seq line (items_of items.items)
yaml_step (Yaml-F.Map line entries) = Map line (entries_of entries.items)

-- an entry, given the tree of its value
abbrev pub entry_step : Entry-F Tree Pair → Pair
entry_step e = record { line = e.line; key = e.key.items; value = e.value }

-- the tree of a node
abbrev pub view : Yaml → Tree
view = fold-Yaml Tree Pair yaml_step entry_step

-- the entry as a plain value
abbrev pub pair : Entry → Pair
pair = fold-Entry Tree Pair yaml_step entry_step

-- ---- lent parts as plain values

-- a lent text, lent items, entries, or one entry
abbrev pub seen_text : Option (Bor (List ℕ)) → Option (List ℕ)
seen_text o = option_map (λ x. x.now) o

abbrev pub seen_items : Option (Bor (List Yaml)) → Option (List Tree)
seen_items o = option_map (λ x. map view x.now) o

abbrev pub seen_entries : Option (Bor (List Entry)) → Option (List Pair)
seen_entries o = option_map (λ x. map pair x.now) o

abbrev pub seen_entry : Option (Bor Entry) → Option Pair
seen_entry o = option_map (λ x. pair x.now) o
