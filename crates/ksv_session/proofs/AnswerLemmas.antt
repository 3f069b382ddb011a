-- One line that is answered over a device, in the terms of a run.
use Rattle.std.proofs.Common.{◌≡◌, ◌∙◌, ◌+◌, ◌<◌, ℕ, Bool, true, false, List, [], ◌∷◌, ◌++◌, length, take, drop, get_or, Result, Ok, Err, ap, sym, subst, refl}
use Rattle.std.proofs.Common.{append_assoc, inl, inr, true≢false, if◌then◌else◌}
use Rattle.std.specs.Prelude.{IsTrue}
use Rattle.std.proofs.lemmas.Bool.Decides.{eqb_tells}
use Rattle.std.proofs.lemmas.List.{append-nil, drop_more, take-append-drop, take_more}
use Rattle.ksv_session.specs.Code.{Answered, Fed, Stands, Wrote}
use Rattle.ksv_commands.specs.Commands.{command_of}
use Rattle.ksv_desc.specs.Description.{Description}
use Rattle.ksv_session.specs.Explored.{Explored, description_of, tally_of}
use Rattle.ksv_session.specs.Kept.{Holds, Memory, Remembers}
use Rattle.ksv_lines.specs.Lines.{is_line_end, lines_of}
use Rattle.ksv_session.specs.Replies.{Replied, Event, answer, is_fair, may_be_refused}
use Rattle.ksv_session.specs.Runs.{Breaks, Serves, Taken}
use Rattle.ksv_session.specs.Seen.{answer_seen, is_refusal}
use Rattle.ksv_lines.specs.declared.device.Failed.{Failed}
use Rattle.ksv_session.specs.declared.reply.Reply.{Reply}
use Rattle.ksv_session.proofs.RunLemmas.{KeepsOne, answered_line, broken_line, last_line, lines_behind, quit_line}
use Rattle.ksv_session.proofs.TallyLemmas.{holds_tally}

fair_if : (refused fair : Bool) → (IsTrue refused → fair ≡ true) → (if refused then fair else true) ≡ true
fair_if true fair h = h refl
fair_if false fair h = refl

-- What `line` says of its reply.
pub answers : (old new : Explored) (line : List ℕ) (tells : Bool) (before written : Taken) (reply : Reply) (result : Result Bool Failed)
    → answer_seen new.bytes reply ≡ answer (description_of old) old.bytes (record { line = line; refused = is_refusal reply; tally = tally_of old })
    → (IsTrue (is_refusal reply) → may_be_refused old.bytes (command_of (description_of old) line) ≡ true)
    → description_of new ≡ description_of old
    → ((m : Memory) → Holds old m → Remembers (description_of old) old.bytes (command_of (description_of old) line) (is_refusal reply) m new)
    → Wrote (answer_seen new.bytes reply) tells before written result
    → Answered old line new tells before written result
answers old new line tells before written reply result is fair kept remembers wrote = record {
  event = record { line = line; refused = is_refusal reply; tally = tally_of old };
  line_is = refl;
  fair = fair_if (is_refusal reply) (may_be_refused old.bytes (command_of (description_of old) line)) fair;
  description = kept;
  bytes = ap (λ (a : Replied). a.bytes) is;
  keeps = λ m h. (holds_tally old m h, remembers m h);
  wrote = subst (λ a. Wrote a tells before written result) is wrote;
}

-- The same by a description of the run.
pub record Answers (d : Description) (now : Explored) (line : List ℕ) (now' : Explored) (tells : Bool) (before written : Taken)
    (result : Result Bool Failed) : Type 0 where
  pub event : Event
  pub line_is : event.line ≡ line
  pub fair : is_fair d now.bytes event ≡ true
  pub bytes : now'.bytes ≡ (answer d now.bytes event).bytes
  pub keeps : KeepsOne d now event now'
  pub wrote : Wrote (answer d now.bytes event) tells before written result

pub in_run : (d : Description) (old new : Explored) (line line' : List ℕ) (tells : Bool) (before written : Taken) (result : Result Bool Failed)
    → description_of old ≡ d → line ≡ line' → Answered old line new tells before written result → Answers d old line' new tells before written result
in_run d old new line line' tells before written result is same a = subst (λ d. Answers d old line' new tells before written result) is (record {
  event = a.event;
  line_is = a.line_is ∙ same;
  fair = a.fair;
  bytes = a.bytes;
  keeps = a.keeps;
  wrote = a.wrote;
})

-- The end of the input, with what is left after an LF in a piece.
pub split_input : (taken piece left : List ℕ) (i : ℕ) → i < length piece → get_or piece i 0 ≡ 10
    → taken ++ (piece ++ left) ≡ (taken ++ take i piece) ++ 10 ∷ (drop (i + 1) piece ++ left)
split_input taken piece left i lt is =
    ap (λ p. taken ++ (p ++ left)) (sym (take-append-drop i piece) ∙ ap (λ p. take i piece ++ p) (drop_more piece i 0 lt ∙ ap (λ b. b ∷ drop (i + 1) piece) is))
    ∙ ap (λ p. taken ++ p) (append_assoc (take i piece) (10 ∷ drop (i + 1) piece) left)
    ∙ sym (append_assoc taken (take i piece) (10 ∷ (drop (i + 1) piece ++ left)))

-- An LF in a piece: the session goes on, or ends, or a write fails.
pub at_line_end : (d : Description) (begin taken : List ℕ) (now : Explored) (line : List ℕ) (before written : Taken) (now' : Explored) (written' : Taken)
    (piece left : List ℕ) (i : ℕ) (tells : Bool)
    → i < length piece → get_or piece i 0 ≡ 10
    → Stands d begin (taken ++ take i piece) now line tells before written
    → (result : Result Bool Failed) → Answers d now line now' tells written written' result
    → Fed d begin ((taken ++ take i piece) ++ 10 ∷ []) (taken ++ (piece ++ left)) now' [] tells before written' result
at_line_end d begin taken now line before written now' written' piece left i tells lt is s (Ok true) a =
    quit_line d begin (taken ++ take i piece) now line before written now' written' (taken ++ (piece ++ left)) (lines_of (drop (i + 1) piece ++ left)) tells s
    (ap lines_of (split_input taken piece left i lt is)
    ∙ lines_behind d begin (taken ++ take i piece) now line before written (drop (i + 1) piece ++ left) tells s)
    a.event a.line_is a.fair (sym a.wrote.0) a.bytes a.keeps a.wrote.1
at_line_end d begin taken now line before written now' written' piece left i tells lt is s (Ok false) a =
    answered_line d begin (taken ++ take i piece) now line before written now' written' tells s a.event a.line_is a.fair (sym a.wrote.0) a.bytes a.keeps
    a.wrote.1
at_line_end d begin taken now line before written now' written' piece left i tells lt is s (Err failed) a =
    broken_line d begin (taken ++ take i piece) now line before written now' written' (taken ++ (piece ++ left)) (lines_of (drop (i + 1) piece ++ left)) tells s
    (ap lines_of (split_input taken piece left i lt is)
    ∙ lines_behind d begin (taken ++ take i piece) now line before written (drop (i + 1) piece ++ left) tells s)
    a.event a.line_is a.fair a.bytes a.keeps a.wrote

-- The same by what `answer_line` says.
pub fed_at : (d : Description) (begin taken line line' : List ℕ) (before written written' : Taken) (piece left : List ℕ) (i : ℕ) (tells : Bool)
    (old new : Explored)
    → i < length piece → get_or piece i 0 ≡ 10 → description_of old ≡ d → line' ≡ line
    → Stands d begin (taken ++ take i piece) old line tells before written
    → (result : Result Bool Failed) → Answered old line' new tells written written' result
    → Fed d begin ((taken ++ take i piece) ++ 10 ∷ []) (taken ++ (piece ++ left)) new [] tells before written' result
fed_at d begin taken line line' before written written' piece left i tells old new lt is kept same s result a =
    at_line_end d begin taken old line before written new written' piece left i tells lt is s result
    (in_run d old new line' line tells written written' result kept same a)

pub fed_true : (d : Description) (begin taken input : List ℕ) (now : Explored) (line : List ℕ) (before written : Taken) (tells b : Bool) → b ≡ true
    → Fed d begin taken input now line tells before written (Ok b) → Serves d begin input now.bytes tells before written true
fed_true d begin taken input now line before written tells true is fed = fed
fed_true d begin taken input now line before written tells false is fed = absurd (true≢false (sym is))

pub fed_false : (d : Description) (begin taken input : List ℕ) (now : Explored) (line : List ℕ) (before written : Taken) (tells b : Bool) → b ≡ false
    → Fed d begin taken input now line tells before written (Ok b) → Stands d begin taken now line tells before written
fed_false d begin taken input now line before written tells true is fed = absurd (true≢false is)
fed_false d begin taken input now line before written tells false is fed = fed

-- A piece with one byte more.
pub more_taken : (taken piece : List ℕ) (i : ℕ) → i < length piece → taken ++ take (i + 1) piece ≡ (taken ++ take i piece) ++ get_or piece i 0 ∷ []
more_taken taken piece i lt = ap (λ t. taken ++ t) (take_more piece i 0 lt) ∙ sym (append_assoc taken (take i piece) (get_or piece i 0 ∷ []))

pub not_line_end : (byte : ℕ) → (byte ≡ 10 → ⊥) → is_line_end byte ≡ false
not_line_end byte other = elim (eqb_tells byte 10) [ inl p ↦ absurd (other p.1) | inr p ↦ p.0 ]

-- The end of the input: the session has ended or not, or a write fails.
pub at_input_end : (d : Description) (begin taken line line' : List ℕ) (before written written' : Taken) (tells : Bool) (old new : Explored)
    → description_of old ≡ d → line' ≡ line → Stands d begin taken old line tells before written
    → (b ended : Bool) → ended ≡ b → Answered old line' new tells written written' (Ok ended) → Serves d begin taken new.bytes tells before written' b
at_input_end d begin taken line line' before written written' tells old new kept same s b ended is answered =
    let a = in_run d old new line' line tells written written' (Ok ended) kept same answered in
    subst (λ e. Serves d begin taken new.bytes tells before written' e) (sym a.wrote.0 ∙ is)
    (last_line d begin taken old line before written new written' tells s a.event a.line_is a.fair a.bytes a.keeps a.wrote.1)

pub at_input_broken : (d : Description) (begin taken line line' : List ℕ) (before written written' : Taken) (tells : Bool) (old new : Explored)
    → description_of old ≡ d → line' ≡ line → Stands d begin taken old line tells before written
    → (failed : Failed) → Answered old line' new tells written written' (Err failed) → Breaks d begin taken new.bytes tells before written'
at_input_broken d begin taken line line' before written written' tells old new kept same s failed answered =
    let a = in_run d old new line' line tells written written' (Err failed) kept same answered in
    broken_line d begin taken old line before written new written' taken [] tells s (sym s.lines ∙ sym (append-nil _))
    a.event a.line_is a.fair a.bytes a.keeps a.wrote
