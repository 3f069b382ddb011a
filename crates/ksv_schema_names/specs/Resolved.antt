-- Laws: the least fault, and expressions whose names are resolved.
use Rattle.std.specs.Prelude.{◌≡◌, ℕ, ◌<◌, Bool, true, false, if◌then◌else◌, IsTrue, ℤ, List, [], ◌∷◌, map, length, Option, Some, None}
use Rattle.std.specs.List.{list_any}
use Rattle.ksv_expr_tree.specs.Tree.{Tree, Arguments}
use Rattle.ksv_schema_names.specs.Members.{all_members, parameters_within}
use Rattle.ksv_schema_names.specs.Enums.{number_of_id}
use Rattle.ksv_schema_names.specs.Rows.{Declared}
use Rattle.ksv_schema_names.specs.declared.position.NameFault.{NameFault}
use Rattle.ksv_schema_names.specs.declared.position.NameFault.TheVariants.{Unknown, LeftOut}
use Rattle.ksv_schema_names.specs.declared.position.Position.{Position}
use Rattle.ksv_schema_names.specs.Names.{name_faults, list_faults, least}
use Rattle.ksv_schema_names.specs.Numbered.{enum_member, numbered, all_numbered}
use Rattle.ksv_desc.specs.Names.{dotted, all_dotted, has_names}
use Rattle.ksv_desc.specs.Description.{Description}
use Rattle.ksv_desc.specs.Resolved.{parameters, IsMemberOf, IsResolvedTree, AreResolvedTrees}

-- a description that has all that is declared: types with their parameters, enums with their entries, and the names
-- of all members
pub record Fits (d : Declared) (x : Description) : Type 0 where
  pub types : length x.types ≡ length d.types
  pub enums : length x.enums ≡ length d.enums
  pub parameters : (t : ℕ) → t < length d.types → length (parameters_within d.types t) ≡ length (parameters x t)
  pub members : IsTrue (has_names x.names (map (λ m. m.name) (all_members d.types)))
  pub entries : (e : ℕ) (id : List ℕ) (z : ℤ) → number_of_id d.enums e id ≡ Some z → IsMemberOf x (enum_member e z)

-- ---- the least fault

abbrev pub is_unknown : NameFault → Bool
is_unknown Unknown = true
is_unknown LeftOut = false

abbrev pub left_out_of : List NameFault → Option NameFault
left_out_of [] = None
left_out_of (k ∷ ks) = Some LeftOut

-- an unknown name if there is one; otherwise one that may not be used in this way, if there is one
abbrev pub LeastIsTold : Type 0
LeastIsTold = (ks : List NameFault) → least None ks ≡ (if list_any is_unknown ks then Some Unknown else left_out_of ks)

-- ---- laws of expressions

-- If nothing is wrong with an expression, each of its names leads somewhere in a description that has all that is
-- declared and the names after the expression's dots, once they are numbered by the description's table of names.
abbrev pub FaultlessIsResolved : Type 0
FaultlessIsResolved = (d : Declared) (x : Description) (n : ℕ) (p : Position) (e : Tree) → Fits d x → IsTrue (has_names x.names (dotted e)) → name_faults d n p e ≡ [] → IsResolvedTree x (numbered d x.names n e)

-- the same for a type's arguments
abbrev pub FaultlessAreResolved : Type 0
FaultlessAreResolved = (d : Declared) (x : Description) (n : ℕ) (p : Position) (es : Arguments) → Fits d x → IsTrue (has_names x.names (all_dotted es)) → list_faults d n p es ≡ [] → AreResolvedTrees x (all_numbered d x.names n es)
