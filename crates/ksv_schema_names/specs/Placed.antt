-- The places of rows, by the type that each is in and its name.
use Rattle.std.specs.Prelude.{◌≡◌, ℕ, ◌&&◌, ◌==◌, cond, List, map, Option, Some}
use Rattle.std.specs.Borrow.{Bor}
use Rattle.std.specs.HashMap.{HashMap, get_by}
use Rattle.std.specs.Str.{bytes_eq}
use Rattle.ksv_schema_names.specs.declared.row.Row.{Row as RowOfCode}
use Rattle.ksv_schema_names.specs.Rows.{Row, is_within, row_in}
use Rattle.ksv_schema_names.specs.View.{row_of}

-- a table of places
abbrev pub Places : Type 0 → Type 0
Places S = HashMap (ℕ × Bor (List ℕ)) ℕ S

-- the place that it has for a name in the type n
abbrev pub place_at : {S : Type 0} → Places S → ℕ → List ℕ → Option ℕ
place_at places n name = get_by (λ k. n == k.0 && bytes_eq name k.1.now) places

-- afterwards it has that of a row
pub record Puts {S : Type 0} (old new : Places S) (place : ℕ) (row : Row) : Type 0 where
  pub found : (n : ℕ) (name : List ℕ) → place_at new n name ≡ cond (is_within n row && bytes_eq row.id name) (Some place) (place_at old n name)

-- it has the place of the first row of each name in each type
pub record ArePlaced {S : Type 0} (rows : List RowOfCode) (places : Places S) : Type 0 where
  pub found : (n : ℕ) (name : List ℕ) → place_at places n name ≡ row_in (map row_of rows) name n
