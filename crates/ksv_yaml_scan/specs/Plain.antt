-- Plain scalars (YAML 1.2, section 7.3.3, without those that begin with an indicator and `:`, `?` or `-`).
use Rattle.std.specs.Prelude.{ℕ, ◌++◌, Bool, true, false, not, ◌||◌, ◌&&◌, List, [], ◌∷◌, Option, Some, None, ◌==◌, nat_le, if◌then◌else◌}
use Rattle.ksv_yaml_scan.specs.Got.{Got, got, ◌>>=◌}
use Rattle.ksv_yaml_scan.specs.Lines.{Line, is_white, white_or_end, skip, is_quiet, loud}

-- , [ ] { }
abbrev pub is_bracket : ℕ → Bool
is_bracket c = (c == 44) || ((c == 91) || ((c == 93) || ((c == 123) || (c == 125))))

-- # & * ! | > ' " % @ `
abbrev pub is_indicator : ℕ → Bool
is_indicator c = (c == 35) || ((c == 38) || ((c == 42) || ((c == 33) || ((c == 124) || ((c == 62) || ((c == 39) || ((c == 34) || ((c == 37) || ((c == 64) || (c == 96))))))))))

-- no plain scalar begins with these
abbrev pub is_special : ℕ → Bool
is_special c = is_bracket c || (is_white c || is_indicator c)

-- - ? :
abbrev pub is_lone : ℕ → Bool
is_lone c = (c == 45) || ((c == 63) || (c == 58))

-- a plain scalar begins here: not with a special byte, nor with - ? : before white space or the line's end
abbrev pub starts_plain : List ℕ → Bool
starts_plain [] = false
starts_plain (c ∷ cs) = if is_special c then false else not (is_lone c && white_or_end cs)

-- Why a plain run ends: at a colon before white space or the end (with what comes after it), at a bracket or comma
-- of a flow node (with all from it on), at a comment, or at the line's end.
pub data Ending : Type 0 where
  Colon : List ℕ → Ending
  Bracket : List ℕ → Ending
  Comment : Ending
  End : Ending

-- The text of a plain run, and why it ends.
pub record Run : Type 0 where
  pub text : List ℕ
  pub ending : Ending

-- one more byte at the front; white space at the end is dropped
abbrev pub join : ℕ → List ℕ → List ℕ
join c [] = if is_white c then [] else (c ∷ [])
join c (d ∷ ds) = c ∷ d ∷ ds

-- why a plain run ends at the byte here, if it does; given whether it is in a flow node, and whether white space is
-- before the byte
abbrev pub stop : Bool → Bool → List ℕ → Option Ending
stop flow w [] = None
stop flow w (c ∷ cs) =
    if w && (c == 35) then Some Comment
    else (if (c == 58) && white_or_end cs then Some (Colon cs)
    else (if flow && is_bracket c then Some (Bracket (c ∷ cs)) else None))

-- a run ends here, or continues with this byte and what comes after it
abbrev pub run_by : Option Ending → ℕ → Run → Run
run_by (Some ending) c r = record { text = []; ending = ending }
run_by None c r = record { text = join c r.text; ending = r.ending }

-- a plain run, given whether it is in a flow node, and whether white space is before it
abbrev pub run : Bool → Bool → List ℕ → Run
run flow w [] = record { text = []; ending = End }
run flow w (c ∷ cs) = run_by (stop flow w (c ∷ cs)) c (run flow (is_white c) cs)

-- the run is a value's: its text, and whether a comment ends it
abbrev pub plain_of_run : List ℕ → Ending → Option (List ℕ × Bool)
plain_of_run text End = Some (text, false)
plain_of_run text Comment = Some (text, true)
plain_of_run text e = None

-- the text of a line that continues a plain scalar, and whether a comment ends it
abbrev pub more_of : List ℕ → Option (List ℕ × Bool)
more_of cs = let r = run false false (skip cs) in plain_of_run r.text r.ending

-- A line after a plain scalar. Given are whether it is quiet, whether a comment ended what is before it, whether it
-- is deep enough, its text, the lines after the quiet ones, all lines from it on, and what continues after it.
abbrev pub line_on : Bool → Bool → Bool → Option (List ℕ × Bool) → List Line → List Line → (Bool → Option (Got Line (List ℕ))) → Option (Got Line (List ℕ))
line_on true c deep text after stay f = got [] after
line_on false true deep text after stay f = got [] stay
line_on false false false text after stay f = got [] stay
line_on false false true None after stay f = None
line_on false false true (Some x) after stay f = f x.1 >>= λ r. got (32 ∷ (x.0 ++ r.value)) r.rest

-- what the lines that continue a plain scalar add to it, none of them before column n; given whether a comment
-- ended it already
abbrev pub goes_on : ℕ → Bool → List Line → Option (Got Line (List ℕ))
goes_on n c [] = got [] []
goes_on n c (l ∷ ls) = line_on (is_quiet l) c (nat_le n l.indent) (more_of l.content) (loud ls) (l ∷ ls) (λ c. goes_on n c ls)

-- a plain scalar with this text on its first line, and what comes after it
abbrev pub plain_text : List ℕ → ℕ → Bool → List Line → Option (Got Line (List ℕ))
plain_text text n c ls = goes_on n c ls >>= λ r. got (text ++ r.value) r.rest
