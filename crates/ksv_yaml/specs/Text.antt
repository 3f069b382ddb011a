-- The tree that a text spells (the sections are those of YAML 1.2).
use Rattle.std.specs.Prelude.{◌≡◌, ℕ, ◌≤◌, true, List, length, Option, None, if◌then◌else◌, IsUtf8}
use Rattle.ksv_yaml_tree.specs.Tree.{Tree}
use Rattle.ksv_yaml.specs.Grammar.{Spelled}
use Rattle.ksv_yaml.specs.Reading.{tree_of}
use Rattle.ksv_yaml_scan.specs.Text.{text_limit, lines_of, is_allowed}

-- The text spells the tree: it has at most 1,048,576 bytes, is UTF-8, has no control character but tabs and line
-- ends (5.1), and its lines spell the tree.
pub record Spells (text : List ℕ) (t : Tree) : Type 0 where
  pub small : length text ≤ text_limit
  pub utf8 : IsUtf8 text
  pub allowed : is_allowed text ≡ true
  pub lines : Spelled (lines_of text) t

-- the tree that a small text in UTF-8 spells
abbrev pub tree_of_text : List ℕ → Option Tree
tree_of_text text = if is_allowed text then tree_of (lines_of text) else None
