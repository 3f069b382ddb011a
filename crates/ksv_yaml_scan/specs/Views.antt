-- The plain data of the code's values.
use Rattle.std.specs.Prelude.{◌≡◌, ℕ, suc, true, ◌+◌, ◌<◌, ◌≤◌, Bool, List, length, map, Option, Some, None}
use Rattle.std.specs.Borrow.{Bor}
use Rattle.ksv_yaml_scan.specs.declared.line.Line.{Line as CodeLine}
use Rattle.ksv_yaml_scan.specs.declared.fault.ScanError.{ScanError}
use Rattle.ksv_yaml_scan.specs.declared.fault.ScanError.TheVariants as scan
use Rattle.ksv_yaml_scan.specs.declared.fault.LineError.{LineError}
use Rattle.ksv_yaml_scan.specs.declared.fault.LineError.TheVariants as on_line
use Rattle.ksv_yaml_scan.specs.declared.fault.TextError.{TextError}
use Rattle.ksv_yaml_scan.specs.declared.fault.TextError.TheVariants as of_text
use Rattle.ksv_yaml_scan.specs.declared.fault.LineFault.{LineFault}
use Rattle.ksv_yaml_scan.specs.declared.start.InlineKind.{InlineKind as CodeKind}
use Rattle.ksv_yaml_scan.specs.declared.start.InlineKind.TheVariants as kinds
use Rattle.ksv_yaml_scan.specs.declared.start.Start.{Start as CodeStart}
use Rattle.ksv_yaml_scan.specs.declared.start.Start.TheVariants as starts
use Rattle.ksv_yaml_scan.specs.declared.flow.Token.{Token as CodeToken}
use Rattle.ksv_yaml_scan.specs.declared.flow.Part.{Part}
use Rattle.ksv_yaml_scan.specs.declared.flow.Part.TheVariants as parts
use Rattle.ksv_yaml_scan.specs.declared.flow.Cut.{Cut as CodeCut}
use Rattle.ksv_yaml_scan.specs.declared.flow.Cut.TheVariants as cuts
use Rattle.ksv_yaml_scan.specs.declared.plain.Ending.{Ending as CodeEnding}
use Rattle.ksv_yaml_scan.specs.declared.plain.Ending.TheVariants as endings
use Rattle.ksv_yaml_scan.specs.declared.plain.Run.{Run as CodeRun}
use Rattle.ksv_yaml_scan.specs.declared.quoted.Quote.{Quote as CodeQuote}
use Rattle.ksv_yaml_scan.specs.Lines.{Line, HasNumber}
use Rattle.ksv_yaml_scan.specs.Quoted.{Quote}
use Rattle.ksv_yaml_scan.specs.Plain.{Ending, Colon, Bracket, Comment, End, Run}
use Rattle.ksv_yaml_scan.specs.Text.{IsTooLong, IsNotUtf8}
use Rattle.ksv_yaml_scan.specs.Starts.{InlineKind, Plain, Quoted, Block, Flowing, Start, Nothing, Dash, Key, Inline}
use Rattle.ksv_yaml_scan.specs.Tokens.{Token, Open, Close, OpenMap, CloseMap, Comma, Scalar, Key as KeyToken, Cut, Bad, Over, White, Part as PartCut, line_tokens, both}

-- a line as plain data
abbrev pub line_view : CodeLine → Line
line_view l = record { number = l.number; indent = l.indent; content = l.content.now; ended = l.ended }

-- lines as plain data
abbrev pub lines_view : List CodeLine → List Line
lines_view ls = map line_view ls

-- why a plain run ends
abbrev pub ending_view : CodeEnding → Ending
ending_view (endings.Colon rest) = Colon rest.now
ending_view (endings.Bracket rest) = Bracket rest.now
ending_view endings.Comment = Comment
ending_view endings.End = End

-- the text of a plain run, and why it ends
abbrev pub run_view : CodeRun → Run
run_view r = record { text = r.text.now; ending = ending_view r.ending }

-- the text of a line, and whether a comment ends it
abbrev pub more_view : Bor (List ℕ) × Bool → List ℕ × Bool
more_view x = (x.0.now, x.1)

-- what comes after a plain run has at most this length, and less after a colon
abbrev pub EndsWithin : ℕ → CodeEnding → Type 0
EndsWithin n (endings.Colon rest) = length rest.now < n
EndsWithin n (endings.Bracket rest) = length rest.now ≤ n
EndsWithin n e = Unit {0}

-- a quoted scalar, and what comes after it
abbrev pub quote_view : CodeQuote → Quote
quote_view q = record { text = q.text.items; rest = q.rest.now }

-- the kind of a scalar, or a flow node
abbrev pub kind_view : CodeKind → InlineKind
kind_view (kinds.Plain text commented) = Plain text.items commented
kind_view (kinds.Quoted text) = Quoted text.items
kind_view (kinds.Block folded keep) = Block folded keep
kind_view kinds.Flow = Flowing

-- what begins on a line
abbrev pub start_view : CodeStart → Start
start_view starts.Nothing = Nothing
start_view (starts.Dash columns tab behind) = Dash (record { columns = columns; tab = tab; behind = behind.now })
start_view (starts.Key key behind) = Key key.items behind.now
start_view (starts.Inline kind) = Inline (kind_view kind)

-- what comes after a key is shorter than the content; the columns of a dash, at least one, and what comes after it
-- are together no longer than the content
abbrev pub StartsWithin : ℕ → CodeStart → Type 0
StartsWithin n (starts.Dash columns tab behind) = (0 < columns) × (columns + length behind.now ≤ n)
StartsWithin n (starts.Key key behind) = length behind.now < n
StartsWithin n s = Unit {0}

-- a part on a line of this number
abbrev pub part_view : ℕ → Part → Token
part_view n parts.Open = Open n
part_view n parts.Close = Close
part_view n parts.OpenMap = OpenMap n
part_view n parts.CloseMap = CloseMap
part_view n parts.Comma = Comma
part_view n (parts.Scalar quoted text) = Scalar n quoted text.items
part_view n (parts.Key quoted text) = KeyToken n text.items

-- a part
abbrev pub token_view : CodeToken → Token
token_view t = part_view t.line t.part

-- parts
abbrev pub tokens_view : List CodeToken → List Token
tokens_view ts = map token_view ts

-- what is at the front of a line's content, on a line of this number
abbrev pub cut_view : ℕ → CodeCut → Cut
cut_view n cuts.Over = Over
cut_view n (cuts.Bad fault) = Bad
cut_view n (cuts.White rest) = White rest.now
cut_view n (cuts.Part part rest) = PartCut (part_view n part) rest.now

-- the parts on a line
abbrev pub parts_of : Line → Option (List Token)
parts_of l = line_tokens (suc (length l.content)) l.number true l.content

-- the parts of a line were added, or it has a fault
abbrev pub LineAdds : Line → List CodeToken → List CodeToken → Option LineFault → Type 0
LineAdds l old new None = both (Some (tokens_view old)) (parts_of l) ≡ Some (tokens_view new)
LineAdds l old new (Some fault) = (parts_of l ≡ None) × (fault.line ≡ l.number)

-- this follows from a refusal of a line, unless memory ran out
abbrev pub Unless : ScanError → Type 0 → Type 0
Unless (scan.Fault fault) P = P
Unless scan.NoMemory P = Unit {0}

-- this follows from a refusal of lines, which names one of them, unless memory ran out
abbrev pub UnlessOn : LineError → List Line → Type 0 → Type 0
UnlessOn (on_line.Fault fault) ls P = P × HasNumber ls fault.line
UnlessOn on_line.NoMemory ls P = Unit {0}

-- what the refusal of a text means, unless memory ran out
abbrev pub RefusesText : List ℕ → TextError → Type 0
RefusesText text of_text.TooLong = IsTooLong text
RefusesText text (of_text.NotUtf8 line) = IsNotUtf8 text line
RefusesText text of_text.NoMemory = Unit {0}

-- the parts on lines, or a fault of one of these
abbrev pub PartsAre : List Line → Option (List Token) → List CodeToken → Option LineFault → Type 0
PartsAre ls o ts None = o ≡ Some (tokens_view ts)
PartsAre ls o ts (Some fault) = (o ≡ None) × HasNumber ls fault.line
