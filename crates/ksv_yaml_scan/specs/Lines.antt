-- Lines, white space and comments (YAML 1.2, sections 5.5, 6.1, 6.2 and 6.6).
use Rattle.std.specs.Prelude.{◌≡◌, ℕ, suc, Bool, true, false, ◌||◌, ◌&&◌, List, [], ◌∷◌, ◌==◌, ◌⊎◌, nat_le, if◌then◌else◌}

-- A line: its number from 1, how many spaces it begins with (its indentation), the bytes after them, and whether it
-- has a line end.
pub record Line : Type 0 where
  pub number : ℕ
  pub indent : ℕ
  pub content : List ℕ
  pub ended : Bool

-- white space is space and tab
abbrev pub is_white : ℕ → Bool
is_white c = (c == 32) || (c == 9)

-- no bytes
abbrev pub is_nil : List ℕ → Bool
is_nil [] = true
is_nil (c ∷ cs) = false

-- white space or the line's end is here
abbrev pub white_or_end : List ℕ → Bool
white_or_end [] = true
white_or_end (c ∷ cs) = is_white c

-- after the white space at the front
abbrev pub skip : List ℕ → List ℕ
skip [] = []
skip (c ∷ cs) = if is_white c then skip cs else (c ∷ cs)

-- the same; a comment counts as nothing
abbrev pub shown : List ℕ → List ℕ
shown [] = []
shown (c ∷ cs) = if is_white c then shown cs else (if c == 35 then [] else (c ∷ cs))

-- nothing is here but white space, perhaps with a comment after it
abbrev pub is_clear : List ℕ → Bool
is_clear [] = true
is_clear (c ∷ cs) = is_white c && is_nil (shown cs)

-- the line is quiet: white space, perhaps with a comment after it
abbrev pub is_quiet : Line → Bool
is_quiet l = is_nil (shown l.content)

-- how many columns of white space are at the front
abbrev pub columns : List ℕ → ℕ
columns [] = 0
columns (c ∷ cs) = if is_white c then suc (columns cs) else 0

-- a tab is among the white space at the front
abbrev pub has_tab : List ℕ → Bool
has_tab [] = false
has_tab (c ∷ cs) = (c == 9) || ((c == 32) && has_tab cs)

-- ---- runs of lines

-- after the quiet lines at the front
abbrev pub loud : List Line → List Line
loud [] = []
loud (l ∷ ls) = if is_quiet l then loud ls else (l ∷ ls)

-- the longest front of elements that pass a test
abbrev pub front : {L : Type 0} → (L → Bool) → List L → List L
front p [] = []
front p (l ∷ ls) = if p l then l ∷ front p ls else []

-- what comes after that front
abbrev pub behind : {L : Type 0} → (L → Bool) → List L → List L
behind p [] = []
behind p (l ∷ ls) = if p l then behind p ls else (l ∷ ls)

-- a flow node may continue over this line: it is quiet, or doesn't begin before column n
abbrev pub is_within : ℕ → Line → Bool
is_within n l = is_quiet l || nat_le n l.indent

-- one of the lines has this number
abbrev pub HasNumber : List Line → ℕ → Type 0
HasNumber [] n = ⊥
HasNumber (l ∷ ls) n = (l.number ≡ n) ⊎ HasNumber ls n
