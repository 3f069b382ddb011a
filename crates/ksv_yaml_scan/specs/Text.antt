-- A text's lines (YAML 1.2, sections 5.1, 5.2 and 5.4), and which texts are refused before their lines are read.
use Rattle.std.specs.Prelude.{◌≡◌, ℕ, suc, ◌<◌, ◌≤◌, Bool, true, false, not, ◌||◌, ◌&&◌, List, [], ◌∷◌, length, take, max, count_by, Option, Some, None, is_none, ◌==◌, nat_lt, nat_le, if◌then◌else◌, IsUtf8}
use Rattle.std.specs.Str.Lossy.{utf8_valid_len}
use Rattle.ksv_yaml_scan.specs.Lines.{Line}

-- The bytes up to a line end or the end of the text, and whether there is a line end.
pub record Raw : Type 0 where
  pub bytes : List ℕ
  pub ended : Bool

-- one more byte at the front of the first line
abbrev pub push : ℕ → List Raw → List Raw
push c [] = record { bytes = c ∷ []; ended = false } ∷ []
push c (r ∷ rs) = record { bytes = c ∷ r.bytes; ended = r.ended } ∷ rs

-- the lines, each up to an LF
abbrev pub cut_lines : List ℕ → List Raw
cut_lines [] = []
cut_lines (c ∷ cs) = if c == 10 then record { bytes = []; ended = true } ∷ cut_lines cs else push c (cut_lines cs)

-- without a CR at the end
abbrev pub without_return : List ℕ → List ℕ
without_return [] = []
without_return (c ∷ []) = if c == 13 then [] else (c ∷ [])
without_return (c ∷ d ∷ cs) = c ∷ without_return (d ∷ cs)

-- a line ends at LF or CR LF
abbrev pub line_bytes : Raw → List ℕ
line_bytes r = if r.ended then without_return r.bytes else r.bytes

-- a byte below 128 that is no control character, or a tab
abbrev pub is_clean_byte : ℕ → Bool
is_clean_byte c = nat_le 32 c && not (c == 127) || (c == 9)

-- in UTF-8 the control characters from U+0080 to U+009F are byte 194 and then one below 160
abbrev pub is_wide_control : ℕ → ℕ → Bool
is_wide_control c d = (c == 194) && nat_lt d 160

-- these bytes of UTF-8 have no control character except tabs
abbrev pub is_clean : List ℕ → Bool
is_clean [] = true
is_clean (c ∷ []) = is_clean_byte c
is_clean (c ∷ d ∷ cs) = is_clean_byte c && (not (is_wide_control c d) && is_clean (d ∷ cs))

-- the number of the first line with a control character, if the first line has this number
abbrev pub stray_from : ℕ → List Raw → Option ℕ
stray_from n [] = None
stray_from n (r ∷ rs) = if is_clean (line_bytes r) then stray_from (suc n) rs else Some n

-- how many spaces are at the front
abbrev pub spaces : List ℕ → ℕ
spaces [] = 0
spaces (c ∷ cs) = if c == 32 then suc (spaces cs) else 0

-- what comes after them
abbrev pub behind_spaces : List ℕ → List ℕ
behind_spaces [] = []
behind_spaces (c ∷ cs) = if c == 32 then behind_spaces cs else (c ∷ cs)

-- the line with these bytes
abbrev pub line_of : ℕ → Bool → List ℕ → Line
line_of number ended bytes = record { number = number; indent = spaces bytes; content = behind_spaces bytes; ended = ended }

-- the lines, if the first has this number
abbrev pub number_from : ℕ → List Raw → List Line
number_from n [] = []
number_from n (r ∷ rs) = line_of n r.ended (line_bytes r) ∷ number_from (suc n) rs

-- after a byte order mark, U+FEFF in UTF-8
abbrev pub unmarked : List ℕ → List ℕ
unmarked (a ∷ b ∷ c ∷ cs) = if (a == 239) && ((b == 187) && (c == 191)) then cs else (a ∷ b ∷ c ∷ cs)
unmarked cs = cs

-- the lines of a text
abbrev pub lines_of : List ℕ → List Line
lines_of text = number_from 1 (cut_lines (unmarked text))

-- the number of the first line with a control character
abbrev pub stray_line : List ℕ → Option ℕ
stray_line text = stray_from 1 (cut_lines (unmarked text))

-- the text has no control character except tabs and line ends
abbrev pub is_allowed : List ℕ → Bool
is_allowed text = is_none (stray_line text)

-- ---- refusals

-- the number of the line of the byte at a place
abbrev pub line_at : List ℕ → ℕ → ℕ
line_at text place = suc (count_by (λ c. c == 10) (take place text))

-- the number of one of the text's lines, or 1
abbrev pub IsLine : List ℕ → ℕ → Type 0
IsLine text n = (0 < n) × (n ≤ max 1 (length (cut_lines (unmarked text))))

-- the most bytes that a text may have: 1 MiB
abbrev pub text_limit : ℕ
text_limit = 1048576

-- A text of no more bytes than that, in UTF-8, has these lines, and its first control character on that one.
pub record IsCut (text : List ℕ) (ls : List Line) (first : Option ℕ) : Type 0 where
  pub small : length text ≤ text_limit
  pub utf8 : IsUtf8 text
  pub lines : lines_of text ≡ ls
  pub stray : stray_line text ≡ first

-- Longer than that.
abbrev pub IsTooLong : List ℕ → Type 0
IsTooLong text = text_limit < length text

-- Small enough, but not UTF-8; the first bad byte is on this line.
pub record IsNotUtf8 (text : List ℕ) (number : ℕ) : Type 0 where
  pub small : length text ≤ text_limit
  pub bad : IsUtf8 text → ⊥
  pub line : number ≡ line_at text (utf8_valid_len text)
