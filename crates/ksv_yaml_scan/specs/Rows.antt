-- The rows of a block scalar one after another, and what is between them: the same text as in Blocks, from front to
-- back.
use Rattle.std.specs.Prelude.{ℕ, suc, ◌++◌, Bool, true, false, ◌||◌, List, [], ◌∷◌, replicate, map, Option, Some, None, if◌then◌else◌}
use Rattle.ksv_yaml_scan.specs.Lines.{Line, is_nil}
use Rattle.ksv_yaml_scan.specs.Blocks.{Row, row, starts_white, between}

-- between the row before, if there is one (whether it begins with white space), and a row (whether it does), with k
-- empty ones between them
abbrev pub gap : Bool → Option Bool → Bool → ℕ → List ℕ
gap fold None w k = replicate k 10
gap false (Some v) w k = replicate (suc k) 10
gap true (Some v) w k = between (v || w) k

-- the text of rows after a row that isn't empty, if there is one, and k empty ones
abbrev pub rows_on : Bool → Option Bool → ℕ → List Row → List ℕ
rows_on fold b k [] = []
rows_on fold b k (r ∷ rs) = if is_nil r.text then rows_on fold b (suc k) rs else gap fold b (starts_white r.text) k ++ (r.text ++ rows_on fold (Some (starts_white r.text)) 0 rs)

-- whether the last row that isn't empty has a line end; and the default if there is no such row
abbrev pub last_ended : Bool → List Row → Bool
last_ended e [] = e
last_ended e (r ∷ rs) = if is_nil r.text then last_ended e rs else last_ended r.ended rs

-- the rows of lines
abbrev pub rows : ℕ → List Line → List Row
rows m ls = map (row m) ls
