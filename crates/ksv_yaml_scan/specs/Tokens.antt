-- The parts of flow nodes (YAML 1.2, sections 7.4 and 7.3.3, in the forms of this subset).
use Rattle.std.specs.Prelude.{ℕ, zero, suc, ◌++◌, Bool, true, false, ◌||◌, List, [], ◌∷◌, length, Option, Some, None, ◌==◌, if◌then◌else◌}
use Rattle.ksv_yaml_scan.specs.Lines.{Line, is_white, skip}
use Rattle.ksv_yaml_scan.specs.Plain.{Ending, Colon, Bracket, Comment, End, Run, starts_plain, run}
use Rattle.ksv_yaml_scan.specs.Quoted.{Quote, quote_of}

-- A part, some with the number of their line.
pub data Token : Type 0 where
  Open : ℕ → Token
  Close : Token
  OpenMap : ℕ → Token
  CloseMap : Token
  Comma : Token
  -- whether it is quoted, and its text
  Scalar : ℕ → Bool → List ℕ → Token
  -- a scalar with a colon after it on its line
  Key : ℕ → List ℕ → Token

-- What is at the front: no part, nothing more on the line, white space, or a part, each with what comes after it.
pub data Cut : Type 0 where
  Bad : Cut
  Over : Cut
  White : List ℕ → Cut
  Part : Token → List ℕ → Cut

-- a quoted scalar, by what comes after it and the white space; its colon needs no white space after it
abbrev pub quoted_part : ℕ → Quote → List ℕ → Cut
quoted_part number q [] = Part (Scalar number true q.text) []
quoted_part number q (c ∷ cs) = if c == 58 then Part (Key number q.text) cs else Part (Scalar number true q.text) q.rest

-- a part that is a quoted scalar
abbrev pub quoted_cut : ℕ → Option Quote → Cut
quoted_cut number None = Bad
quoted_cut number (Some q) = quoted_part number q (skip q.rest)

-- a plain scalar, by why its run ends
abbrev pub plain_cut : ℕ → List ℕ → Ending → Cut
plain_cut number text (Colon rest) = Part (Key number text) rest
plain_cut number text (Bracket rest) = Part (Scalar number false text) rest
plain_cut number text Comment = Part (Scalar number false text) []
plain_cut number text End = Part (Scalar number false text) []

-- a part that is a plain run
abbrev pub plain_part : ℕ → Run → Cut
plain_part number r = plain_cut number r.text r.ending

-- what is at the front; given whether white space or the line's start is before it, as a comment requires
abbrev pub cut : ℕ → Bool → List ℕ → Cut
cut number w [] = Over
cut number w (c ∷ cs) =
    if is_white c then White cs
    else (if c == 35 then (if w then Over else Bad)
    else (if c == 91 then Part (Open number) cs
    else (if c == 93 then Part Close cs
    else (if c == 123 then Part (OpenMap number) cs
    else (if c == 125 then Part CloseMap cs
    else (if c == 44 then Part Comma cs
    else (if (c == 39) || (c == 34) then quoted_cut number (quote_of (c ∷ cs))
    else (if starts_plain (c ∷ cs) then plain_part number (run true false (c ∷ cs))
    else Bad))))))))

-- a part before others
abbrev pub with_token : Token → Option (List Token) → Option (List Token)
with_token t None = None
with_token t (Some ts) = Some (t ∷ ts)

-- what is at the front, and the parts after it
abbrev pub line_by : Cut → (Bool → List ℕ → Option (List Token)) → Option (List Token)
line_by Bad f = None
line_by Over f = Some []
line_by (White cs) f = f true cs
line_by (Part t cs) f = with_token t (f false cs)

-- the parts on a line; the first number bounds them
abbrev pub line_tokens : ℕ → ℕ → Bool → List ℕ → Option (List Token)
line_tokens zero number w cs = None
line_tokens (suc f) number w cs = line_by (cut number w cs) (λ w cs. line_tokens f number w cs)

-- parts before others
abbrev pub both : Option (List Token) → Option (List Token) → Option (List Token)
both None o = None
both (Some ts) None = None
both (Some ts) (Some us) = Some (ts ++ us)

-- the parts on lines; each part is on one line
abbrev pub tokens_of : List Line → Option (List Token)
tokens_of [] = Some []
tokens_of (l ∷ ls) = both (line_tokens (suc (length l.content)) l.number true l.content) (tokens_of ls)
