-- How bytes are cut: an input into lines, a line into words.
use Rattle.std.specs.Prelude.{ℕ, ◌≡◌, ◌≤◌, ◌-◌, ◌==◌, ◌&&◌, ◌||◌, not, nat_lt, Bool, true, false, List, [], ◌∷◌, length, slice_index, take, if◌then◌else◌}
use Rattle.std.specs.List.{filter, slice_split}

-- the most bytes of a line without its LF; and one more, since the length of a line shows whether it is too long
abbrev pub line_limit : ℕ
line_limit = 4096

abbrev pub line_room : ℕ
line_room = 4097

abbrev pub is_line_end : ℕ → Bool
is_line_end c = c == 10

-- the lines of an input, cut at each LF and at its end: after a last LF comes an empty line
abbrev pub lines_of : List ℕ → List (List ℕ)
lines_of input = slice_split is_line_end input

-- without the one carriage return that may come before a line's end
abbrev pub without_carriage_return : List ℕ → List ℕ
without_carriage_return line =
    if nat_lt 0 (length line) && slice_index line (length line - 1) == 13 then take (length line - 1) line
    else line

-- a space or a tab
abbrev pub is_blank : ℕ → Bool
is_blank c = c == 32 || c == 9

abbrev pub is_filled : List ℕ → Bool
is_filled [] = false
is_filled (c ∷ cs) = true

-- the words of a line: what is between spaces and tabs
abbrev pub words_of : List ℕ → List (List ℕ)
words_of line = filter is_filled (slice_split is_blank line)

-- a word is in front
abbrev pub is_word_start : List ℕ → Bool
is_word_start [] = false
is_word_start (c ∷ cs) = not (is_blank c)

-- the end of a text that has the same words and begins with one
pub record BeginsWord (text rest : List ℕ) : Type 0 where
  pub same : words_of rest ≡ words_of text
  pub starts : is_word_start rest ≡ true
  pub within : length rest ≤ length text
