-- The members of types: parameters, attributes and instances, of each type in the order of the text.
use Rattle.std.specs.Prelude.{ℕ, ◌+◌, Bool, true, false, if◌then◌else◌, List, [], ◌∷◌, ◌++◌, map, flat_map, filter, codes, decimal, Option, unwrap_or, slice_get}
use Rattle.std.specs.List.{position_from}
use Rattle.std.specs.Option.{option_map_or}
use Rattle.std.specs.Str.{bytes_eq}
use Rattle.ksv_yaml_tree.specs.Tree.{Tree, Pair, line_of, mapping_of, list_of}
use Rattle.ksv_yaml_tree.specs.Keys.{entries_in, text_at}
use Rattle.ksv_schema_names.specs.declared.members.Role.{Role}
use Rattle.ksv_schema_names.specs.declared.members.Role.TheVariants.{Parameter, Attribute, Instance}
use Rattle.ksv_schema_names.specs.Rows.{Row, keys_of}

-- a member: its first line (for an instance, the line of its name), its name and its value
pub record Member : Type 0 where
  pub role : Role
  pub line : ℕ
  pub name : List ℕ
  pub value : Tree

-- the name of an item without an `id`: `_unnamedK` for an attribute, the empty one for a parameter
abbrev pub unnamed : Role → ℕ → List ℕ
unnamed Parameter k = []
unnamed Attribute k = codes "_unnamed" ++ decimal k
unnamed Instance k = []

-- the item of the number k in `params` or `seq`
abbrev pub item : Role → ℕ → Tree → Member
item role k t = record { role = role; line = line_of t; name = unwrap_or (text_at (codes "id") (entries_in t)) (unnamed role k); value = t }

-- items, the first of which has the number k
abbrev pub items_from : Role → ℕ → List Tree → List Member
items_from role k [] = []
items_from role k (t ∷ ts) = item role k t ∷ items_from role (k + 1) ts

abbrev pub instance : Pair → Member
instance p = record { role = Instance; line = p.line; name = p.key; value = p.value }

-- the members at one key of a type
unfoldable pub members_at_key : Pair → List Member
members_at_key p =
    if bytes_eq p.key (codes "params") then items_from Parameter 0 (unwrap_or (list_of p.value) [])
    else if bytes_eq p.key (codes "seq") then items_from Attribute 0 (unwrap_or (list_of p.value) [])
    else if bytes_eq p.key (codes "instances") then map instance (unwrap_or (mapping_of p.value) [])
    else []

-- the members of a type, of all types, and of the type n
unfoldable pub members_of : Row → List Member
members_of r = flat_map members_at_key (keys_of r)

abbrev pub all_members : List Row → List Member
all_members types = flat_map members_of types

unfoldable pub members_within : List Row → ℕ → List Member
members_within types n = option_map_or members_of (slice_get types n) []

-- ---- members of one type

abbrev pub is_in_params : Role → Bool
is_in_params Parameter = true
is_in_params Attribute = false
is_in_params Instance = false

abbrev pub is_parameter : Member → Bool
is_parameter m = is_in_params m.role

unfoldable pub parameters_within : List Row → ℕ → List Member
parameters_within types n = filter is_parameter (members_within types n)

-- the place in the type n of the first member of this name
unfoldable pub member_named : List Row → ℕ → List ℕ → Option ℕ
member_named types n name = position_from (λ m. bytes_eq m.name name) 0 (members_within types n)
