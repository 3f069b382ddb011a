-- One step of a run, from what is before it, and what a whole run yields.
use Rattle.std.proofs.Common.{◌≡◌, ◌∙◌, ◌&&◌, ◌+◌, min, ℕ, suc, Bool, true, false, None, List, [], ◌∷◌, ◌++◌, length, map, fold, take, ap, ap₂, sym, refl}
use Rattle.std.proofs.Common.{arith, append_assoc, if◌then◌else◌, inl, inr, subst}
use Rattle.std.specs.Prelude.{IsTrue}
use Rattle.std.proofs.lemmas.Bool.{cases_lt, lt-ltb}
use Rattle.std.proofs.lemmas.List.{append-nil, length-append, length-take, length_push, map-append, take-append-le, drop_at, take_all, take_at, take_min}
use Rattle.std.proofs.Math.Seq.{take-add}
use Rattle.std.proofs.lemmas.List.Sums.{fold_push, fold-append}
use Rattle.ksv_commands.specs.Commands.{command_of}
use Rattle.ksv_desc.specs.Description.{Description}
use Rattle.ksv_lines.specs.Lines.{is_line_end, lines_of}
use Rattle.ksv_session.specs.Replies.{Replied, Event, answer, answer_to, is_fair, may_be_refused, no_memory_text, said}
use Rattle.ksv_session.specs.Code.{Stands}
use Rattle.ksv_session.specs.Explored.{Explored}
use Rattle.ksv_session.specs.Kept.{Holds, Memory, Remembers, nothing_kept}
use Rattle.ksv_session.specs.Runs.{Breaks, Serves, Taken, flushed_by}
use Rattle.ksv_session.specs.Session.{Standing, after_event, answered, begun, lines_in, session}
use Rattle.ksv_session.specs.Tallies.{Keeps, Tells, tally_in}
use Rattle.ksv_lines.proofs.CutLemmas.{split_at, split_more}
use Rattle.ksv_session.proofs.TallyLemmas.{keeps_append, keeps_end, keeps_line}

-- A line of more than 4,096 bytes is told by its first 4,097.

pub cut_reads : (d : Description) (line : List ℕ) → command_of d (take 4097 line) ≡ command_of d line
cut_reads d line = elim (cases_lt 4096 (length line)) [
  | inl long ↦ rw (lt-ltb 4096 (length line) long, lt-ltb 4096 (length (take 4097 line)) (omega (arith, length-take 4097 line))) refl
  | inr short ↦ ap (command_of d) (take_all 4097 line (omega arith))
]

-- the event of the same line, gathered as a whole
abbrev pub whole : List ℕ → Event → Event
whole line event = record { line = line; refused = event.refused; tally = event.tally }

same_answer : (d : Description) (b line : List ℕ) (event : Event) → event.line ≡ take 4097 line → answer d b event ≡ answer d b (whole line event)
same_answer d b line event is = ap (λ k. if event.refused then said b no_memory_text else answer_to d b event.tally k) (ap (command_of d) is ∙ cut_reads d line)

same_fair : (d : Description) (b line : List ℕ) (event : Event) → event.line ≡ take 4097 line → is_fair d b event ≡ is_fair d b (whole line event)
same_fair d b line event is = ap (λ k. if event.refused then may_be_refused b k else true) (ap (command_of d) is ∙ cut_reads d line)

pub take_push : (rest : List ℕ) (byte : ℕ) → take 4097 (take 4097 rest ++ byte ∷ []) ≡ take 4097 (rest ++ byte ∷ [])
take_push rest byte = elim (cases_lt 4097 (length rest)) [
  | inl long ↦
      take-append-le 4097 (take 4097 rest) (byte ∷ []) (omega (arith, length-take 4097 rest))
      ∙ take_all 4097 (take 4097 rest) (omega (arith, length-take 4097 rest))
      ∙ sym (take-append-le 4097 rest (byte ∷ []) (omega arith))
  | inr short ↦ ap (λ t. take 4097 (t ++ byte ∷ [])) (take_all 4097 rest short)
]

-- One more line of a session.

pub session_push : (d : Description) (begin : List ℕ) (events : List Event) (e : Event) → (session d begin events).ended ≡ false
    → session d begin (events ++ e ∷ []) ≡ answered (session d begin events) (answer d (session d begin events).bytes e)
    (is_fair d (session d begin events).bytes e)
session_push d begin events e goes_on = fold_push (after_event d) (begun begin) events e ∙ rw goes_on refl

lines_push : (events : List Event) (e : Event) → lines_in (events ++ e ∷ []) ≡ lines_in events ++ e.line ∷ []
lines_push events e = map-append (λ (x : Event). x.line) events (e ∷ [])

-- Lines after those that were answered, of which none was refused memory.

abbrev pub event_of : List ℕ → Event
event_of line = record { line = line; refused = false; tally = record { kept = 0; turns = None } }

abbrev pub unrefused : List (List ℕ) → List Event
unrefused lines = map event_of lines

unrefused_lines : (lines : List (List ℕ)) → lines_in (unrefused lines) ≡ lines
unrefused_lines [] = refl
unrefused_lines (line ∷ lines) = ap (λ ls. line ∷ ls) (unrefused_lines lines)

-- after some events: the output begins as it was, and what was fair stays so
record Goes (d : Description) (s : Standing) (lines : List (List ℕ)) : Type 0 where
  more : List ℕ
  output : (fold (after_event d) s (unrefused lines)).output ≡ s.output ++ more
  fair : s.fair ≡ true → (fold (after_event d) s (unrefused lines)).fair ≡ true

goes_back : (d : Description) (s t : Standing) (lines : List (List ℕ)) (text : List ℕ) → t.output ≡ s.output ++ text → (s.fair ≡ true → t.fair ≡ true)
    → Goes d t lines → (more : List ℕ) × ((fold (after_event d) t (unrefused lines)).output ≡ s.output ++ more)
    × (s.fair ≡ true → (fold (after_event d) t (unrefused lines)).fair ≡ true)
goes_back d s t lines text is fair g =
    (text ++ g.more, g.output ∙ ap (λ o. o ++ g.more) is ∙ append_assoc s.output text g.more, λ h. g.fair (fair h))

step_output : (d : Description) (s : Standing) (line : List ℕ) (b : Bool) → s.ended ≡ b
    → (text : List ℕ) × ((after_event d s (event_of line)).output ≡ s.output ++ text) × (s.fair ≡ true → (after_event d s (event_of line)).fair ≡ true)
step_output d s line true is = ([], rw is (sym (append-nil s.output)), λ h. rw is h)
step_output d s line false is = ((answer d s.bytes (event_of line)).text, rw is refl, λ h. rw (is, h) refl)

carries_on : (d : Description) (s : Standing) (lines : List (List ℕ)) → Goes d s lines
carries_on d s [] = record { more = []; output = sym (append-nil s.output); fair = λ h. h }
carries_on d s (line ∷ lines) =
    let step = step_output d s line s.ended refl in
    let later = goes_back d s (after_event d s (event_of line)) lines step.0 step.1 step.2 (carries_on d (after_event d s (event_of line)) lines) in
    record { more = later.0; output = later.1; fair = later.2 }

-- a session that has ended stays as it is
idle : (d : Description) (s : Standing) (events : List Event) → s.ended ≡ true → fold (after_event d) s events ≡ s
idle d s [] h = refl
idle d s (e ∷ events) h = let same : after_event d s e ≡ s = rw h refl in ap (λ t. fold (after_event d) t events) same ∙ idle d s events h

-- all events of an input, of which some stand at its front
all_lines : (events : List Event) (e : Event) (rest : List ℕ) (tail : List (List ℕ)) (input : List ℕ) → e.line ≡ rest
    → lines_of input ≡ (lines_in events ++ rest ∷ []) ++ tail → lines_in ((events ++ e ∷ []) ++ unrefused tail) ≡ lines_of input
all_lines events e rest tail input is cut =
    map-append (λ (x : Event). x.line) (events ++ e ∷ []) (unrefused tail)
    ∙ ap₂ (λ a b. a ++ b) (lines_push events e ∙ ap (λ l. lines_in events ++ l ∷ []) is) (unrefused_lines tail) ∙ sym cut

session_more : (d : Description) (begin : List ℕ) (front more : List Event)
    → session d begin (front ++ more) ≡ fold (after_event d) (session d begin front) more
session_more d begin front more = fold-append (after_event d) (begun begin) front more

-- A byte that ends no line.
pub pushed : (d : Description) (begin taken : List ℕ) (now : Explored) (line : List ℕ) (before written : Taken) (tells : Bool) (byte : ℕ)
    → is_line_end byte ≡ false
    → Stands d begin taken now line tells before written
    → Stands d begin (taken ++ byte ∷ []) now (take 4097 (line ++ byte ∷ [])) tells before written
pushed d begin taken now line before written tells byte other s = record {
  events = s.events;
  rest = s.rest ++ byte ∷ [];
  lines = split_more is_line_end taken byte (lines_in s.events) s.rest other s.lines;
  gathered = ap (λ l. take 4097 (l ++ byte ∷ [])) s.gathered ∙ take_push s.rest byte;
  fair = s.fair;
  bytes = s.bytes;
  output = s.output;
  flushed = s.flushed;
  goes_on = s.goes_on;
  kept = s.kept;
  holds = s.holds;
  stats = s.stats;
}

-- The session with one more line, by its answer.
pub record Next (d : Description) (begin : List ℕ) (events : List Event) (e : Event) (a : Replied) : Type 0 where
  pub bytes : (session d begin (events ++ e ∷ [])).bytes ≡ a.bytes
  pub output : (session d begin (events ++ e ∷ [])).output ≡ (session d begin events).output ++ a.text
  pub ended : (session d begin (events ++ e ∷ [])).ended ≡ a.ends
  pub fair : (session d begin (events ++ e ∷ [])).fair ≡ true
  pub same : answer d (session d begin events).bytes e ≡ a

pub next : (d : Description) (begin taken : List ℕ) (now : Explored) (line : List ℕ) (before written : Taken) (tells : Bool)
    (s : Stands d begin taken now line tells before written)
    (event : Event) → event.line ≡ line → is_fair d now.bytes event ≡ true → Next d begin s.events (whole s.rest event) (answer d now.bytes event)
next d begin taken now line before written tells s event line_is fair =
    let e = whole s.rest event in
    let gathered : event.line ≡ take 4097 s.rest = line_is ∙ s.gathered in
    let same : answer d (session d begin s.events).bytes e ≡ answer d now.bytes event =
    sym (same_answer d now.bytes s.rest event gathered ∙ ap (λ b. answer d b e) s.bytes) in
    let fair_too : is_fair d (session d begin s.events).bytes e ≡ true =
    sym (same_fair d now.bytes s.rest event gathered ∙ ap (λ b. is_fair d b e) s.bytes) ∙ fair in
    let push = session_push d begin s.events e s.goes_on in
    record {
      bytes = ap (λ (t : Standing). t.bytes) push ∙ ap (λ (a : Replied). a.bytes) same;
      output = ap (λ (t : Standing). t.output) push ∙ ap (λ (a : Replied). (session d begin s.events).output ++ a.text) same;
      ended = ap (λ (t : Standing). t.ended) push ∙ ap (λ (a : Replied). a.ends) same;
      fair = ap (λ (t : Standing). t.fair) push ∙ ap₂ (λ a b. a && b) s.fair fair_too;
      same = same;
    }

-- What a line has told and left, by what is kept before it.
abbrev pub KeepsOne : Description → Explored → Event → Explored → Type 0
KeepsOne d now event now' = (m : Memory) → Holds now m → (event.tally ≡ tally_in m) × Remembers d now.bytes (command_of d event.line) event.refused m now'

-- What is kept with one more line.
pub record Kept (d : Description) (begin : List ℕ) (events : List Event) (e : Event) (ends : Bool) (now : Explored) : Type 0 where
  pub last : Memory
  pub stats : Keeps d begin nothing_kept (events ++ e ∷ []) last
  pub holds : ends ≡ false → Holds now last

-- (the line is the same, gathered as a whole)
told_whole : (d : Description) (begin taken : List ℕ) (now : Explored) (line : List ℕ) (before written : Taken) (tells : Bool)
    (s : Stands d begin taken now line tells before written)
    (event : Event) (now' : Explored) → event.line ≡ line → KeepsOne d now event now'
    → ((whole s.rest event).tally ≡ tally_in s.kept) × Remembers d (session d begin s.events).bytes (command_of d s.rest) event.refused s.kept now'
told_whole d begin taken now line before written tells s event now' line_is keeps =
    let told = keeps s.kept s.holds in (
      told.0,
      subst (λ b. Remembers d b (command_of d s.rest) event.refused s.kept now') s.bytes
          (subst (λ k. Remembers d now.bytes k event.refused s.kept now') (ap (command_of d) (line_is ∙ s.gathered) ∙ cut_reads d s.rest) told.1),
    )

pub kept_next : (d : Description) (begin taken : List ℕ) (now : Explored) (line : List ℕ) (before written : Taken) (tells : Bool)
    (s : Stands d begin taken now line tells before written)
    (event : Event) (now' : Explored) → event.line ≡ line → is_fair d now.bytes event ≡ true → KeepsOne d now event now'
    → Kept d begin s.events (whole s.rest event) (answer d now.bytes event).ends now'
kept_next d begin taken now line before written tells s event now' line_is fair keeps =
    let e = whole s.rest event in
    let n = next d begin taken now line before written tells s event line_is fair in
    let told = told_whole d begin taken now line before written tells s event now' line_is keeps in
    let one = keeps_line d (session d begin s.events).bytes s.kept e now' told.0 told.1 in
    record {
      last = one.0;
      stats = keeps_append d (begun begin) nothing_kept s.events (e ∷ []) s.kept one.0 refl s.stats s.goes_on one.1;
      holds = λ ends. one.2 (ap (λ (a : Replied). a.ends) n.same ∙ ends);
    }

-- The same where the line ends the session, whatever comes after it.
pub kept_end : (d : Description) (begin taken : List ℕ) (now : Explored) (line : List ℕ) (before written : Taken) (tells : Bool)
    (s : Stands d begin taken now line tells before written)
    (event : Event) (now' : Explored) (tail : List Event) → event.line ≡ line → is_fair d now.bytes event ≡ true → KeepsOne d now event now'
    → (answer d now.bytes event).ends ≡ true
    → Tells d begin ((s.events ++ whole s.rest event ∷ []) ++ tail)
kept_end d begin taken now line before written tells s event now' tail line_is fair keeps ends =
    let e = whole s.rest event in
    let n = next d begin taken now line before written tells s event line_is fair in
    let told = told_whole d begin taken now line before written tells s event now' line_is keeps in
    let end = keeps_end d (session d begin s.events).bytes s.kept e tail told.0 (ap (λ (a : Replied). a.ends) n.same ∙ ends) in (
      s.kept,
      subst (λ events. Keeps d begin nothing_kept events s.kept) (sym (append_assoc s.events (e ∷ []) tail))
          (keeps_append d (begun begin) nothing_kept s.events (e ∷ tail) s.kept s.kept refl s.stats s.goes_on end),
    )

-- The output after that line.
written_next : (d : Description) (begin before written written' : List ℕ) (events : List Event) (e : Event) (a : Replied) → Next d begin events e a
    → written ≡ before ++ (session d begin events).output → written' ≡ written ++ a.text → written' ≡ before ++ (session d begin (events ++ e ∷ [])).output
written_next d begin before written written' events e a n is more =
    more ∙ ap (λ w. w ++ a.text) is ∙ append_assoc before (session d begin events).output a.text ∙ ap (λ o. before ++ o) (sym n.output)

-- how much is passed on after that line
flushed_next : (before : Taken) (output bytes : List ℕ) (f n k : ℕ) → n ≡ suc k → f ≡ length bytes → bytes ≡ before.bytes ++ output
    → f ≡ flushed_by before output n
flushed_next before output bytes f n k is all same = all ∙ ap length same ∙ length-append before.bytes output ∙ sym (ap (flushed_by before output) is)

-- An LF after a line that is answered.
pub answered_line : (d : Description) (begin taken : List ℕ) (now : Explored) (line : List ℕ) (before written : Taken) (now' : Explored) (written' : Taken)
    (tells : Bool) (s : Stands d begin taken now line tells before written)
    (event : Event) → event.line ≡ line → is_fair d now.bytes event ≡ true → (answer d now.bytes event).ends ≡ false
    → now'.bytes ≡ (answer d now.bytes event).bytes → KeepsOne d now event now'
    → (IsTrue tells → (written'.bytes ≡ written.bytes ++ (answer d now.bytes event).text) × (written'.flushed ≡ length written'.bytes))
    → Stands d begin (taken ++ 10 ∷ []) now' [] tells before written'
answered_line d begin taken now line before written now' written' tells s event line_is fair ends is keeps more =
    let e = whole s.rest event in
    let n = next d begin taken now line before written tells s event line_is fair in
    let k = kept_next d begin taken now line before written tells s event now' line_is fair keeps in
    record {
      events = s.events ++ e ∷ [];
      rest = [];
      lines = ap (λ ls. ls ++ [] ∷ []) (lines_push s.events e ∙ s.lines) ∙ sym (split_at is_line_end taken 10 [] refl);
      gathered = refl;
      fair = n.fair;
      bytes = is ∙ sym n.bytes;
      output = λ told. written_next d begin before.bytes written.bytes written'.bytes s.events e _ n (s.output told) (more told).0;
      flushed = λ told.
          flushed_next before (session d begin (s.events ++ e ∷ [])).output written'.bytes written'.flushed (length (s.events ++ e ∷ [])) (length s.events)
          (omega (arith, length_push s.events e))
          (more told).1 (written_next d begin before.bytes written.bytes written'.bytes s.events e _ n (s.output told) (more told).0);
      goes_on = n.ended ∙ ends;
      kept = k.last;
      holds = k.holds ends;
      stats = k.stats;
    }

-- The lines of an input that goes on after an LF.
pub lines_behind : (d : Description) (begin taken : List ℕ) (now : Explored) (line : List ℕ) (before written : Taken) (more : List ℕ) (tells : Bool)
    (s : Stands d begin taken now line tells before written)
    → lines_of (taken ++ 10 ∷ more) ≡ (lines_in s.events ++ s.rest ∷ []) ++ lines_of more
lines_behind d begin taken now line before written more tells s =
    split_at is_line_end taken 10 more refl ∙ ap (λ ls. ls ++ lines_of more) (sym s.lines)

-- A line that ends the session, whatever comes after it.
pub quit_line : (d : Description) (begin taken : List ℕ) (now : Explored) (line : List ℕ) (before written : Taken) (now' : Explored) (written' : Taken)
    (input : List ℕ) (tail : List (List ℕ)) (tells : Bool)
    (s : Stands d begin taken now line tells before written) → lines_of input ≡ (lines_in s.events ++ s.rest ∷ []) ++ tail
    → (event : Event) → event.line ≡ line → is_fair d now.bytes event ≡ true → (answer d now.bytes event).ends ≡ true
    → now'.bytes ≡ (answer d now.bytes event).bytes → KeepsOne d now event now'
    → (IsTrue tells → (written'.bytes ≡ written.bytes ++ (answer d now.bytes event).text) × (written'.flushed ≡ length written'.bytes))
    → Serves d begin input now'.bytes tells before written' true
quit_line d begin taken now line before written now' written' input tail tells s cut event line_is fair ends is keeps more =
    let e = whole s.rest event in
    let n = next d begin taken now line before written tells s event line_is fair in
    let over : session d begin ((s.events ++ e ∷ []) ++ unrefused tail) ≡ session d begin (s.events ++ e ∷ []) =
    session_more d begin (s.events ++ e ∷ []) (unrefused tail) ∙ idle d (session d begin (s.events ++ e ∷ [])) (unrefused tail) (n.ended ∙ ends) in
    record {
      events = (s.events ++ e ∷ []) ++ unrefused tail;
      lines = all_lines s.events e s.rest tail input refl cut;
      fair = ap (λ (t : Standing). t.fair) over ∙ n.fair;
      bytes = is ∙ sym n.bytes ∙ sym (ap (λ (t : Standing). t.bytes) over);
      output = λ told. written_next d begin before.bytes written.bytes written'.bytes s.events e _ n (s.output told) (more told).0
          ∙ sym (ap (λ (t : Standing). before.bytes ++ t.output) over);
      flushed = λ told. (more told).1;
      ends = ap (λ (t : Standing). t.ended) over ∙ n.ended ∙ ends;
      stats = kept_end d begin taken now line before written tells s event now' (unrefused tail) line_is fair keeps ends;
    }

-- The line at the end of the input.
pub last_line : (d : Description) (begin taken : List ℕ) (now : Explored) (line : List ℕ) (before written : Taken) (now' : Explored) (written' : Taken)
    (tells : Bool)
    (s : Stands d begin taken now line tells before written) (event : Event) → event.line ≡ line → is_fair d now.bytes event ≡ true
    → now'.bytes ≡ (answer d now.bytes event).bytes → KeepsOne d now event now'
    → (IsTrue tells → (written'.bytes ≡ written.bytes ++ (answer d now.bytes event).text) × (written'.flushed ≡ length written'.bytes))
    → Serves d begin taken now'.bytes tells before written' (answer d now.bytes event).ends
last_line d begin taken now line before written now' written' tells s event line_is fair is keeps more =
    let e = whole s.rest event in
    let n = next d begin taken now line before written tells s event line_is fair in
    let k = kept_next d begin taken now line before written tells s event now' line_is fair keeps in
    record {
      events = s.events ++ e ∷ [];
      lines = lines_push s.events e ∙ s.lines;
      fair = n.fair;
      bytes = is ∙ sym n.bytes;
      output = λ told. written_next d begin before.bytes written.bytes written'.bytes s.events e _ n (s.output told) (more told).0;
      flushed = λ told. (more told).1;
      ends = n.ended;
      stats = (k.last, k.stats);
    }

front_events : (events : List Event) (e : Event) (more : List Event) → take (suc (length events)) ((events ++ e ∷ []) ++ more) ≡ events ++ e ∷ []
front_events events e more = take_at (events ++ e ∷ []) more (suc (length events)) (omega (arith, length_push events e))

earlier_events : (events : List Event) (e : Event) (more : List Event) → take (length events) ((events ++ e ∷ []) ++ more) ≡ events
earlier_events events e more = ap (take (length events)) (append_assoc events (e ∷ []) more) ∙ take_at events (e ∷ more) (length events) refl

take_past : (out text : List ℕ) (n : ℕ) → take (length out + n) (out ++ text) ≡ out ++ take n text
take_past out text n = take-add (length out) n (out ++ text)
    ∙ ap₂ (λ a b. a ++ b) (take_at out text (length out) refl) (ap (take n) (drop_at out text (length out) refl))

-- a beginning of a text, after a whole one and before more
front_text : (out text more : List ℕ) (count : ℕ) → out ++ take count text ≡ take (length out + min count (length text)) ((out ++ text) ++ more)
front_text out text more count =
    let n = min count (length text) in
    sym (take-append-le (length out + n) (out ++ text) more (omega (arith, length-append out text))
    ∙ take_past out text n ∙ ap (λ t. out ++ t) (take_min count text))

-- A write that fails in the reply to a line.
pub broken_line : (d : Description) (begin taken : List ℕ) (now : Explored) (line : List ℕ) (before written : Taken) (now' : Explored) (written' : Taken)
    (input : List ℕ) (tail : List (List ℕ)) (tells : Bool)
    (s : Stands d begin taken now line tells before written) → lines_of input ≡ (lines_in s.events ++ s.rest ∷ []) ++ tail
    → (event : Event) → event.line ≡ line → is_fair d now.bytes event ≡ true
    → now'.bytes ≡ (answer d now.bytes event).bytes → KeepsOne d now event now'
    → (IsTrue tells → (count : ℕ) × (written'.bytes ≡ written.bytes ++ take count (answer d now.bytes event).text) × (written'.flushed ≡ written.flushed))
    → Breaks d begin input now'.bytes tells before written'
broken_line d begin taken now line before written now' written' input tail tells s cut event line_is fair is keeps more =
    let e = whole s.rest event in
    let a = answer d now.bytes event in
    let n = next d begin taken now line before written tells s event line_is fair in
    let k = kept_next d begin taken now line before written tells s event now' line_is fair keeps in
    let out = (session d begin s.events).output in
    let all = (s.events ++ e ∷ []) ++ unrefused tail in
    let over = session_more d begin (s.events ++ e ∷ []) (unrefused tail) in
    let later = carries_on d (session d begin (s.events ++ e ∷ [])) tail in
    let size : length (session d begin (s.events ++ e ∷ [])).output ≡ length out + length a.text = ap length n.output ∙ length-append out a.text in
    record {
      events = all;
      lines = all_lines s.events e s.rest tail input refl cut;
      fair = ap (λ (t : Standing). t.fair) over ∙ later.fair n.fair;
      place = length s.events;
      is_line = omega (arith, length-append (s.events ++ e ∷ []) (unrefused tail), length_push s.events e);
      goes_on = ap (λ es. (session d begin es).ended) (earlier_events s.events e (unrefused tail)) ∙ s.goes_on;
      stats = subst (Tells d begin) (sym (front_events s.events e (unrefused tail))) (k.last, k.stats);
      bytes = is ∙ sym n.bytes ∙ sym (ap (λ es. (session d begin es).bytes) (front_events s.events e (unrefused tail)));
      taken = λ told. length out + min (more told).0 (length a.text);
      output = λ told.
          (more told).1 ∙ ap (λ w. w ++ take (more told).0 a.text) (s.output told) ∙ append_assoc before.bytes out (take (more told).0 a.text)
          ∙ ap (λ o. before.bytes ++ o) (front_text out a.text later.more (more told).0
          ∙ ap (λ o. take (length out + min (more told).0 (length a.text)) (o ++ later.more)) (sym n.output)
          ∙ ap (take (length out + min (more told).0 (length a.text))) (sym later.output ∙ sym (ap (λ (t : Standing). t.output) over)));
      whole = λ told. omega (arith, ap (λ es. length (session d begin es).output) (earlier_events s.events e (unrefused tail)));
      part = λ told. omega (arith, size, ap (λ es. length (session d begin es).output) (front_events s.events e (unrefused tail)));
      flushed = λ told. (more told).2 ∙ s.flushed told ∙ ap (λ es. flushed_by before (session d begin es).output (length s.events))
          (sym (earlier_events s.events e (unrefused tail)));
    }

-- The beginning.
pub begun_stands : (d : Description) (now : Explored) (before : Taken) (tells : Bool) → Holds now nothing_kept
    → Stands d now.bytes [] now [] tells before before
unfolding Keeps
begun_stands d now before tells holds = record {
  events = [];
  rest = [];
  lines = refl;
  gathered = refl;
  fair = refl;
  bytes = refl;
  output = λ told. sym (append-nil before.bytes);
  flushed = λ told. refl;
  goes_on = refl;
  kept = nothing_kept;
  holds = holds;
  stats = refl;
}

-- The same, by equal values.
pub moved : (d : Description) (begin taken taken' : List ℕ) (now now' : Explored) (line line' : List ℕ) (before written written' : Taken) (tells : Bool)
    → taken' ≡ taken → now' ≡ now → line' ≡ line → written' ≡ written
    → Stands d begin taken now line tells before written → Stands d begin taken' now' line' tells before written'
moved d begin taken taken' now now' line line' before written written' tells t n l w s = record {
  events = s.events;
  rest = s.rest;
  lines = s.lines ∙ sym (ap lines_of t);
  gathered = l ∙ s.gathered;
  fair = s.fair;
  bytes = ap (λ (x : Explored). x.bytes) n ∙ s.bytes;
  output = λ told. ap (λ (x : Taken). x.bytes) w ∙ s.output told;
  flushed = λ told. ap (λ (x : Taken). x.flushed) w ∙ s.flushed told;
  goes_on = s.goes_on;
  kept = s.kept;
  holds = subst (λ x. Holds x s.kept) (sym n) s.holds;
  stats = s.stats;
}
