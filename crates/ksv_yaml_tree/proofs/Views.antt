-- What the code reads of a tree.
use Rattle.std.proofs.Common.{◌≡◌, ℕ, List, [], ◌∷◌, sym, ap, ◌∙◌, refl, map, Some}
use Rattle.std.specs.Prelude.{Vec}
use Rattle.std.specs.declared.alloc.Global.{Global}
use Rattle.ksv_yaml_tree.specs.Tree.{Tree, Items, Entries, Pair, pairs, trees, mapping_of, list_of}
use Rattle.ksv_yaml_tree.specs.View.{items_of, entries_of, yaml_step, entry_step, view, pair}
use Rattle.ksv_yaml_tree.specs.Tree as tree
use Rattle.ksv_yaml_tree.specs.declared.tree.Yaml.{Yaml}
use Rattle.ksv_yaml_tree.specs.declared.tree.Yaml.TheVariants as made
use Rattle.ksv_yaml_tree.specs.declared.tree.Yaml.TheOpen.{Yaml-F}
use Rattle.ksv_yaml_tree.specs.declared.tree.Yaml.TheFolds.{fold-roll-Yaml}
use Rattle.ksv_yaml_tree.specs.declared.tree.Entry.{Entry}

pub pairs_again : (ps : List Pair) → pairs (entries_of ps) ≡ ps
pairs_again [] = refl
pairs_again (p ∷ ps) = ap (λ (qs : List Pair). p ∷ qs) (pairs_again ps)

pub trees_again : (ts : List Tree) → trees (items_of ts) ≡ ts
trees_again [] = refl
trees_again (t ∷ ts) = ap (λ (us : List Tree). t ∷ us) (trees_again ts)

pub view_list : (line : ℕ) (items : Vec Yaml Global) → view (made.List line items) ≡ tree.Seq line (items_of (map view items.items))
view_list line items = ap view (sym (made.rolls-List line items)) ∙ fold-roll-Yaml Tree Pair yaml_step entry_step (Yaml-F.List line items)

pub view_map : (line : ℕ) (entries : Vec Entry Global) → view (made.Map line entries) ≡ tree.Map line (entries_of (map pair entries.items))
view_map line entries = ap view (sym (made.rolls-Map line entries)) ∙ fold-roll-Yaml Tree Pair yaml_step entry_step (Yaml-F.Map line entries)

pub entries_seen : (node : Yaml) (line : ℕ) (entries : Vec Entry Global) (seen : List Entry) → node ≡ made.Map line entries → seen ≡ entries.items
    → Some (map pair seen) ≡ mapping_of (view node)
entries_seen node line entries seen is e =
    ap (λ (es : List Entry). Some (map pair es)) e ∙ ap Some (sym (pairs_again (map pair entries.items))) ∙ ap mapping_of (sym (view_map line entries))
    ∙ ap (λ (n : Yaml). mapping_of (view n)) (sym is)

pub items_seen : (node : Yaml) (line : ℕ) (items : Vec Yaml Global) (seen : List Yaml) → node ≡ made.List line items → seen ≡ items.items
    → Some (map view seen) ≡ list_of (view node)
items_seen node line items seen is e =
    ap (λ (ts : List Yaml). Some (map view ts)) e ∙ ap Some (sym (trees_again (map view items.items))) ∙ ap list_of (sym (view_list line items))
    ∙ ap (λ (n : Yaml). list_of (view n)) (sym is)
