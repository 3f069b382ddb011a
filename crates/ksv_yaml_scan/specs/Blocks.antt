-- Block scalars: the text of their lines together (YAML 1.2, chapter 8.1, without indentation indicators and `+`,
-- and with a rule of this subset: a blank line that is longer than the indentation is content, also at the end).
use Rattle.std.specs.Prelude.{ℕ, zero, suc, ◌-◌, ◌++◌, Bool, true, false, not, ◌||◌, ◌&&◌, List, [], ◌∷◌, map, replicate, Option, Some, None, nat_le, if◌then◌else◌}
use Rattle.ksv_yaml_scan.specs.Lines.{Line, is_white, is_nil}

-- spaces alone, or nothing; a tab is content
abbrev pub is_blank : Line → Bool
is_blank l = is_nil l.content

-- a line of a block scalar whose lines don't begin before column n: blank, or deep enough
abbrev pub is_inner : ℕ → Line → Bool
is_inner n l = is_blank l || nat_le n l.indent

-- ---- the indentation

-- the indentation of the first line that isn't blank
abbrev pub inner_indent : List Line → Option ℕ
inner_indent [] = None
inner_indent (l ∷ ls) = if is_blank l then inner_indent ls else Some l.indent

-- no line that isn't blank begins before this column
abbrev pub is_level : ℕ → List Line → Bool
is_level m [] = true
is_level m (l ∷ ls) = (is_blank l || nat_le m l.indent) && is_level m ls

-- the blank lines at the front have no more spaces than this
abbrev pub is_led : ℕ → List Line → Bool
is_led m [] = true
is_led m (l ∷ ls) = not (is_blank l) || (nat_le l.indent m && is_led m ls)

-- ---- rows

-- A line without the indentation, and whether it has a line end.
pub record Row : Type 0 where
  pub text : List ℕ
  pub ended : Bool

-- this many spaces, and what comes after them
abbrev pub make_row : ℕ → List ℕ → Bool → Row
make_row k content ended = record { text = replicate k 32 ++ content; ended = ended }

-- a line without an indentation of m, blank or not
abbrev pub row : ℕ → Line → Row
row m l = make_row (l.indent - m) l.content l.ended

-- one more row at the front, unless it is empty and the last
abbrev pub add_row : Row → List Row → List Row
add_row r [] = if is_nil r.text then [] else (r ∷ [])
add_row r (s ∷ ss) = r ∷ s ∷ ss

-- without the empty rows at the end
abbrev pub filled : List Row → List Row
filled [] = []
filled (r ∷ rs) = add_row r (filled rs)

-- ---- the text

-- `|` joins the rows by LF
abbrev pub literal : List Row → List ℕ
literal [] = []
literal (r ∷ []) = r.text
literal (r ∷ s ∷ rs) = r.text ++ 10 ∷ literal (s ∷ rs)

-- a row begins with white space
abbrev pub starts_white : List ℕ → Bool
starts_white [] = false
starts_white (c ∷ cs) = is_white c

-- what `>` puts between two rows that aren't empty, with k empty ones between them, given whether one of the two
-- begins with white space
abbrev pub between : Bool → ℕ → List ℕ
between true k = replicate (suc k) 10
between false zero = 32 ∷ []
between false (suc k) = replicate (suc k) 10

-- what `>` gives for the rows after one that isn't empty (whether it begins with white space) and k empty ones
abbrev pub folded_on : Bool → ℕ → List Row → List ℕ
folded_on w k [] = []
folded_on w k (r ∷ rs) = if is_nil r.text then folded_on w (suc k) rs else between (w || starts_white r.text) k ++ (r.text ++ folded_on (starts_white r.text) 0 rs)

-- `>` joins the rows; empty ones at the start give one LF each
abbrev pub folded : List Row → List ℕ
folded [] = []
folded (r ∷ rs) = if is_nil r.text then 10 ∷ folded rs else r.text ++ folded_on (starts_white r.text) 0 rs

-- the line end of the last row, if it has one
abbrev pub last_end : List Row → List ℕ
last_end [] = []
last_end (r ∷ []) = if r.ended then 10 ∷ [] else []
last_end (r ∷ s ∷ rs) = last_end (s ∷ rs)

-- the text of rows without empty ones at the end; whether it is folded, and whether the last line end is kept
abbrev pub text_of_rows : Bool → Bool → List Row → List ℕ
text_of_rows fold keep rs = (if fold then folded rs else literal rs) ++ (if keep then last_end rs else [])

-- the text of lines, by their indentation; if all are blank, the empty text
abbrev pub text_at : Bool → Bool → List Line → Option ℕ → Option (List ℕ)
text_at fold keep ls None = Some []
text_at fold keep ls (Some m) = if is_level m ls && is_led m ls then Some (text_of_rows fold keep (filled (map (row m) ls))) else None

-- the text of a block scalar's lines
abbrev pub block_text : Bool → Bool → List Line → Option (List ℕ)
block_text fold keep ls = text_at fold keep ls (inner_indent ls)
