-- The plain data of the code's values; only private contracts cite it.
use Rattle.std.specs.declared.alloc.Global.{Global}
use Rattle.std.specs.Prelude.{◌≡◌, ◌≤◌, ◌^◌, ℕ, ℤ, Bool, cond, List, Some, length, String}
use Rattle.std.specs.HashMap.{HashMap, get, get_by_text}
use Rattle.std.specs.List.{position_from}
use Rattle.std.specs.Ordering.{int_eq}
use Rattle.ksv_expr_tree.specs.declared.tree.Expr.{Expr}
use Rattle.ksv_expr_tree.specs.Tree.{view}
use Rattle.ksv_desc.specs.declared.enums.EnumEntry.{EnumEntry}
use Rattle.ksv_desc.specs.Names.{dotted, number_in}

-- the names after the dots of an expression as the code holds it
unfoldable pub dotted_in : Expr → List (List ℕ)
dotted_in e = dotted (view e)

-- a map has the number of each of these names, and of no other text
pub record AreNumbered {S : Type 0} (names : List (List ℕ)) (numbers : HashMap (String Global) ℕ S) : Type 0 where
  pub few : length names ≤ 2 ^ 32
  pub found : (name : List ℕ) → get_by_text numbers name ≡ number_in names name

-- whether an entry has a number
abbrev pub has_number : ℤ → EnumEntry → Bool
has_number number e = int_eq number e.number

-- afterwards a map has this place for a number
pub record Puts {S : Type 0} (old new : HashMap ℤ ℕ S) (number : ℤ) (place : ℕ) : Type 0 where
  pub found : (other : ℤ) → get int_eq new other ≡ cond (int_eq number other) (Some place) (get int_eq old other)

-- a map has the place of the first entry of each number, and of no other number
pub record AreFirst {S : Type 0} (entries : List EnumEntry) (places : HashMap ℤ ℕ S) : Type 0 where
  pub found : (number : ℤ) → get int_eq places number ≡ position_from (has_number number) 0 entries
