-- What begins on a line (YAML 1.2, sections 7.4, 8.1.1, 8.2.1 and 8.2.2, in the forms of this subset).
use Rattle.std.specs.Prelude.{ℕ, suc, Bool, true, false, ◌||◌, ◌&&◌, List, [], ◌∷◌, Option, Some, None, ◌==◌, if◌then◌else◌}
use Rattle.ksv_yaml_scan.specs.Lines.{is_nil, white_or_end, skip, shown, is_clear, columns, has_tab}
use Rattle.ksv_yaml_scan.specs.Plain.{starts_plain, Ending, Colon, run, plain_of_run}
use Rattle.ksv_yaml_scan.specs.Quoted.{Quote, quote_of}

-- A scalar or a flow node.
pub data InlineKind : Type 0 where
  -- the text on this line, and whether a comment ends it
  Plain : List ℕ → Bool → InlineKind
  Quoted : List ℕ → InlineKind
  -- whether it is folded, and whether its last line end is kept
  Block : Bool → Bool → InlineKind
  Flowing : InlineKind

-- A dash: how many columns after it its content begins, whether a tab is between them, and the content.
pub record Dashed : Type 0 where
  pub columns : ℕ
  pub tab : Bool
  pub behind : List ℕ

-- What begins on a line.
pub data Start : Type 0 where
  Nothing : Start
  Dash : Dashed → Start
  -- the key, and what comes after its colon
  Key : List ℕ → List ℕ → Start
  Inline : InlineKind → Start
  Refused : Start

-- a quote is here
abbrev pub starts_quote : List ℕ → Bool
starts_quote [] = false
starts_quote (c ∷ cs) = (c == 39) || (c == 34)

-- a dash before white space or the line's end
abbrev pub dash_of : List ℕ → Option Dashed
dash_of [] = None
dash_of (c ∷ cs) = if (c == 45) && white_or_end cs then Some (record { columns = suc (columns cs); tab = has_tab cs; behind = shown cs }) else None

-- a quoted key, if a colon before white space or the line's end is here
abbrev pub key_at_colon : List ℕ → List ℕ → Option (List ℕ × List ℕ)
key_at_colon key [] = None
key_at_colon key (c ∷ cs) = if (c == 58) && white_or_end cs then Some (key, shown cs) else None

-- a quoted key; white space may come before its colon
abbrev pub key_of_quote : Option Quote → Option (List ℕ × List ℕ)
key_of_quote None = None
key_of_quote (Some q) = key_at_colon q.text (skip q.rest)

-- a plain key
abbrev pub key_of_run : List ℕ → Ending → Option (List ℕ × List ℕ)
key_of_run text (Colon rest) = Some (text, shown rest)
key_of_run text e = None

-- a key, and what comes after its colon
abbrev pub key_of : List ℕ → Option (List ℕ × List ℕ)
key_of cs = if starts_plain cs then (let r = run false false cs in key_of_run r.text r.ending) else key_of_quote (quote_of cs)

-- a plain scalar
abbrev pub plain_kind : Option (List ℕ × Bool) → Option InlineKind
plain_kind None = None
plain_kind (Some p) = Some (Plain p.0 p.1)

-- a quoted scalar with nothing after it but a comment
abbrev pub quoted_kind : Option Quote → Option InlineKind
quoted_kind None = None
quoted_kind (Some q) = if is_clear q.rest then Some (Quoted q.text) else None

-- a block scalar, by what comes after | or >: perhaps a dash, and then nothing but a comment
abbrev pub block_kind : Bool → List ℕ → Option InlineKind
block_kind folded [] = Some (Block folded true)
block_kind folded (c ∷ cs) = if c == 45 then (if is_clear cs then Some (Block folded false) else None) else (if is_clear (c ∷ cs) then Some (Block folded true) else None)

-- a scalar or a flow node
abbrev pub kind_of : List ℕ → Option InlineKind
kind_of [] = None
kind_of (c ∷ cs) =
    if starts_plain (c ∷ cs) then (let r = run false false (c ∷ cs) in plain_kind (plain_of_run r.text r.ending))
    else (if (c == 39) || (c == 34) then quoted_kind (quote_of (c ∷ cs))
    else (if (c == 91) || (c == 123) then Some Flowing
    else (if c == 124 then block_kind false cs
    else (if c == 62 then block_kind true cs
    else None))))

-- the first of these: nothing, a dash, a key, a scalar or flow node
abbrev pub start_by : Bool → Option Dashed → Option (List ℕ × List ℕ) → Option InlineKind → Start
start_by true d k i = Nothing
start_by false (Some d) k i = Dash d
start_by false None (Some k) i = Key k.0 k.1
start_by false None None (Some i) = Inline i
start_by false None None None = Refused

-- what begins on a line with this content; except for Nothing, only one of the cases is true
abbrev pub start_of : List ℕ → Start
start_of cs = start_by (is_nil (shown cs)) (dash_of cs) (key_of cs) (kind_of cs)

-- a dash begins
abbrev pub is_dash : Start → Bool
is_dash (Dash d) = true
is_dash s = false

-- a key begins
abbrev pub is_key : Start → Bool
is_key (Key key behind) = true
is_key s = false
