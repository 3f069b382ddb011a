-- What the loader makes of a tree: a description, or the least of its faults.
use Rattle.std.specs.Prelude.{◌≡◌, [], Some}
use Rattle.ksv_yaml_tree.specs.Tree.{Tree}
use Rattle.ksv_schema.specs.Faults.{Fault, IsLeast}
use Rattle.ksv_schema.specs.Description.{faults, stated}
use Rattle.ksv_desc.specs.Description.{Description}

-- a tree without a fault states this description
pub record States (t : Tree) (d : Description) : Type 0 where
  pub faultless : faults t ≡ []
  pub is : stated t ≡ Some d

-- a tree is refused for this fault, the least that it has
abbrev pub Refuses : Tree → Fault → Type 0
Refuses t f = IsLeast f (faults t)
