-- What the table of a tree holds.
use Rattle.std.specs.Prelude.{◌≡◌, ◌≤◌, ◌^◌, map, length}
use Rattle.ksv_yaml_tree.specs.declared.tree.Yaml.{Yaml}
use Rattle.ksv_yaml_tree.specs.View.{view}
use Rattle.ksv_schema_names.specs.declared.scopes.Scopes.TheInside.{Inside}
use Rattle.ksv_schema_names.specs.Rows.{Declared, declared_in}
use Rattle.ksv_schema_names.specs.Members.{members_of}
use Rattle.ksv_schema_names.specs.View.{row_of, member_of}

-- contracts see the table as the tree that it was made of
abbrev pub tree_of : Inside → Yaml
tree_of s = s.tree.now

-- what a value of the reader declares
abbrev pub declared : Yaml → Declared
declared y = declared_in (view y)

-- its rows are what the tree declares; a type's or an enum's number is below 2^32
pub record IsTable (s : Inside) : Type 0 where
  pub types : map row_of s.types ≡ (declared s.tree.now).types
  pub members : map (λ v. map member_of v.items) s.members.items ≡ map members_of (declared s.tree.now).types
  pub enums : map row_of s.enums ≡ (declared s.tree.now).enums
  pub few_types : length s.types ≤ 2 ^ 32
  pub few_enums : length s.enums ≤ 2 ^ 32
