-- Which texts describe files: those that spell a tree which states a description.
use Rattle.std.specs.Prelude.{ℕ, List}
use Rattle.ksv_yaml_tree.specs.Tree.{Tree}
use Rattle.ksv_yaml.specs.Text.{Spells}
use Rattle.ksv_desc.specs.Description.{Description}
use Rattle.ksv_schema.specs.Outcome.{States}

-- a text describes files by this description
pub record Describes (text : List ℕ) (d : Description) : Type 0 where
  pub tree : Tree
  pub spelled : Spells text tree
  pub stated : States tree d
