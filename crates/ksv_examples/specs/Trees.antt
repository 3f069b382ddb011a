-- YAML worked out: texts with the whole tree that each spells, by the YAML specification 1.2.
use Rattle.std.specs.Prelude.{◌≡◌, ℕ, true, false, List, [], ◌∷◌, codes, Option, Some, None, refl}
use Rattle.std.specs.List.{AllByRecursion}
use Rattle.ksv_yaml_tree.specs.Tree.{Tree, Text, Seq, Map, no_items, item, no_entries, entry}
use Rattle.ksv_yaml.specs.Text.{tree_of_text}
use Rattle.ksv_examples.specs.Descriptions.{text_of_lines}

-- a text, and the tree that it spells, if it spells one
pub record Row : Type 0 where
  pub text : List ℕ
  pub tree : Option Tree

abbrev lines : List (List ℕ) → Option Tree → Row
lines ls tree = record { text = text_of_lines ls; tree = tree }

-- a scalar on a line, without quotes and with them
abbrev plain : ℕ → List ℕ → Tree
plain line text = Text line false text

abbrev quoted : ℕ → List ℕ → Tree
quoted line text = Text line true text

-- a mapping of one entry, whose key is on the mapping's line
abbrev one : ℕ → List ℕ → Tree → Tree
one line key value = Map line (entry line key value no_entries)

abbrev pub texts : List Row
texts =
    -- mappings in a sequence
    lines (codes "- a: 1" ∷ codes "  b: 2" ∷ codes "- c" ∷ []) (Some (Seq 1 (item (Map 1 (entry 1 (codes "a") (plain 1 (codes "1")) (entry 2 (codes "b") (plain 2 (codes "2")) no_entries))) (item (plain 3 (codes "c")) no_items)))) ∷
    -- a sequence at its key's column, and one deeper
    lines (codes "a:" ∷ codes "- x" ∷ codes "b:" ∷ codes "  - y" ∷ []) (Some (Map 1 (entry 1 (codes "a") (Seq 2 (item (plain 2 (codes "x")) no_items)) (entry 3 (codes "b") (Seq 4 (item (plain 4 (codes "y")) no_items)) no_entries)))) ∷
    -- sequences in a sequence
    lines (codes "- - a" ∷ codes "  - b" ∷ codes "-" ∷ []) (Some (Seq 1 (item (Seq 1 (item (plain 1 (codes "a")) (item (plain 2 (codes "b")) no_items))) (item (plain 3 []) no_items)))) ∷
    -- quotes, with escapes in double ones alone
    lines (codes "a: \"x\\ty\\u0041\\x42\\\"\\\\\"" ∷ codes "'b''s': 'c\\n'" ∷ []) (Some (Map 1 (entry 1 (codes "a") (quoted 1 (codes "x\tyAB\"\\")) (entry 2 (codes "b's") (quoted 2 (codes "c\\n")) no_entries)))) ∷
    -- a character of three bytes
    lines (codes "\"\\u20ac\"" ∷ []) (Some (quoted 1 (226 ∷ 130 ∷ 172 ∷ []))) ∷
    -- a flow node over two lines
    lines (codes "a: [1, {b: c, 'd': \"e\"}," ∷ codes "  2, ]" ∷ []) (Some (one 1 (codes "a") (Seq 1 (item (plain 1 (codes "1")) (item (Map 1 (entry 1 (codes "b") (plain 1 (codes "c")) (entry 1 (codes "d") (quoted 1 (codes "e")) no_entries))) (item (plain 2 (codes "2")) no_items)))))) ∷
    -- a plain scalar over two lines
    lines (codes "a: one" ∷ codes "  - two" ∷ codes "b: c" ∷ []) (Some (Map 1 (entry 1 (codes "a") (plain 1 (codes "one - two")) (entry 3 (codes "b") (plain 3 (codes "c")) no_entries)))) ∷
    -- `|` keeps lines, and what is further in
    lines (codes "a: |" ∷ codes "  one" ∷ codes "    two" ∷ [] ∷ codes "  # three" ∷ [] ∷ codes "b: c" ∷ []) (Some (Map 1 (entry 1 (codes "a") (plain 1 (codes "one\n  two\n\n# three\n")) (entry 7 (codes "b") (plain 7 (codes "c")) no_entries)))) ∷
    -- `>` joins lines, but for those that are further in
    lines (codes "a: >" ∷ codes "  one" ∷ codes "  two" ∷ [] ∷ codes "  three" ∷ codes "    four" ∷ codes "  five" ∷ []) (Some (one 1 (codes "a") (plain 1 (codes "one two\nthree\n  four\nfive\n")))) ∷
    -- `>-` and `|-` without the last line end
    lines (codes "- >-" ∷ codes "  one" ∷ codes "  two" ∷ codes "- |-" ∷ codes "  one" ∷ codes "  two" ∷ []) (Some (Seq 1 (item (plain 1 (codes "one two")) (item (plain 4 (codes "one\ntwo")) no_items)))) ∷
    -- comments
    lines (codes "# first" ∷ codes "a: b # c" ∷ codes "  # d" ∷ codes "e: f#g" ∷ []) (Some (Map 2 (entry 2 (codes "a") (plain 2 (codes "b")) (entry 4 (codes "e") (plain 4 (codes "f#g")) no_entries)))) ∷
    -- the mark of a document
    lines (codes "---" ∷ codes "a: 1" ∷ []) (Some (one 2 (codes "a") (plain 2 (codes "1")))) ∷
    -- empty values
    lines (codes "a:" ∷ codes "b: # none" ∷ codes "c: ''" ∷ []) (Some (Map 1 (entry 1 (codes "a") (plain 1 []) (entry 2 (codes "b") (plain 2 []) (entry 3 (codes "c") (quoted 3 []) no_entries))))) ∷
    -- line ends of two bytes
    record { text = codes "a: |\r\n  b\r\n"; tree = Some (one 1 (codes "a") (plain 1 (codes "b\n"))) } ∷
    -- a key twice
    lines (codes "a: 1" ∷ codes "b: 2" ∷ codes "'a': 3" ∷ []) None ∷
    lines (codes "{a: 1, a: 2}" ∷ []) None ∷
    -- lines that fit no level
    lines (codes "a:" ∷ codes "    b: 1" ∷ codes "  c: 2" ∷ []) None ∷
    lines (codes "a: |" ∷ codes "    b" ∷ codes "  c" ∷ []) None ∷
    -- a quote that isn't closed, a value in a key's place, and what is unsupported
    lines (codes "a: 'b" ∷ []) None ∷
    lines (codes "a: b: c" ∷ []) None ∷
    lines (codes "a: &b c" ∷ []) None ∷
    lines (codes "a: \"\\q\"" ∷ []) None ∷
    -- a control character, and no text at all
    record { text = 97 ∷ 0 ∷ []; tree = None } ∷
    lines [] None ∷
    []

-- each text spells its tree
texts_spell : AllByRecursion (λ r. tree_of_text r.text ≡ r.tree) texts
texts_spell = (refl, (refl, (refl, (refl, (refl, (refl, (refl, (refl, (refl, (refl, (refl, (refl, (refl, (refl, (refl, (refl, (refl, (refl, (refl, (refl, (refl, (refl, (refl, (refl, tt))))))))))))))))))))))))
