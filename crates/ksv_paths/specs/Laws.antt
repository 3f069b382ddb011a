-- Laws of the texts of paths. They speak of the definitions alone: an error that a definition and its function had in common
-- would break them. These laws are this project's own.
use Rattle.std.specs.Prelude.{◌≡◌, ℕ, ◌<◌, ◌≤◌, nat_le, ◌==◌, ◌&&◌, ◌||◌, IsTrue, Bool, false, List, [], ◌∷◌, length, Some}
use Rattle.std.specs.List.{list_all, AllByRecursion}
use Rattle.ksv_expr_value.specs.Trail.{Trail}
use Rattle.ksv_expr_value.specs.declared.step.Step.{Step}
use Rattle.ksv_expr_value.specs.declared.step.Step.TheVariants.{Index, Name}
use Rattle.ksv_desc.specs.Names.{AreDistinct}
use Rattle.ksv_desc.specs.Description.{Description, name}
use Rattle.ksv_paths.specs.PathTexts.{path_text, path_named}

-- an id of the Kaitai Struct User Guide: a letter a to z, and then letters, digits and `_`
abbrev pub is_letter : ℕ → Bool
is_letter c = nat_le 97 c && nat_le c 122

abbrev pub is_id_byte : ℕ → Bool
is_id_byte c = is_letter c || (nat_le 48 c && nat_le c 57) || c == 95

abbrev pub is_id : List ℕ → Bool
is_id [] = false
is_id (c ∷ cs) = is_letter c && list_all is_id_byte cs

-- each name of the table is there once, and those of members are ids
pub record HasIds (d : Description) : Type 0 where
  pub distinct : AreDistinct d.names
  pub known : d.known ≤ length d.names
  pub ids : (n : ℕ) → n < d.known → IsTrue (is_id (name d n))

-- a step to a member has the number of a member's name; an index may be any that a path has
abbrev pub IsKnown : Description → Step → Type 0
IsKnown d (Name n) = n < d.known
IsKnown d (Index i) = Unit {0}

-- The text of a path, read, gives the path again, where each name in it is one of a member. So a path that a fault names can be
-- asked.
abbrev pub PathsAreRead : Type 0
PathsAreRead = (d : Description) → HasIds d → (path : Trail) → AllByRecursion (IsKnown d) path.upward → path_named d (path_text d path) ≡ Some path
