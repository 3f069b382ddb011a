-- Words that only private contracts cite: a reader of the public contracts may skip this file.
use Rattle.std.specs.Prelude.{◌≡◌, ℕ, Bool, true, false, List, [], ◌∷◌, ◌++◌, length, codes, decimal, take, IsTrue, Result, Ok, Err}
use Rattle.ksv_bytes.specs.declared.edit.EditRefusal.{EditRefusal}
use Rattle.ksv_bytes.specs.declared.edit.EditRefusal.TheVariants as edits
use Rattle.ksv_desc.specs.Description.{Description}
use Rattle.ksv_lines.specs.Lines.{line_room, lines_of}
use Rattle.ksv_lines.specs.declared.device.Failed.{Failed}
use Rattle.ksv_questions.specs.Answers.{failure_text, failure_told}
use Rattle.ksv_questions.specs.Asking.{Failure}
use Rattle.ksv_questions.specs.Seen.{overwrite_of}
use Rattle.ksv_questions.specs.Writing.{Overwrite}
use Rattle.ksv_questions.specs.declared.put.Overwrite.{Overwrite as CodeOverwrite}
use Rattle.ksv_commands.specs.Commands.{command_of}
use Rattle.ksv_session.specs.Explored.{Explored, description_of}
use Rattle.ksv_session.specs.Kept.{Holds, Memory, Remembers, nothing_kept}
use Rattle.ksv_session.specs.Replies.{Replied, Event, Form, answer, edit_refusal_text, is_fair, told_form}
use Rattle.ksv_session.specs.Runs.{Breaks, Serves, Taken, flushed_by}
use Rattle.ksv_session.specs.Seen.{form_of, is_last, is_refusal, reply_text}
use Rattle.ksv_session.specs.declared.reply.Reply.{Reply}
use Rattle.ksv_session.specs.Session.{lines_in, session}
use Rattle.ksv_session.specs.Tallies.{Keeps, tally_in}

-- ---- edits

-- the reply to an edit that was tried, with the bytes after it
abbrev pub edit_text : {A : Type 0} → List ℕ → Result A EditRefusal → List ℕ
edit_text b (Ok done) = codes "ok " ++ decimal (length b) ++ codes "\n"
edit_text b (Err refusal) = edit_refusal_text refusal

-- whether an edit was refused memory
abbrev pub wants_memory : {A : Type 0} → Result A EditRefusal → Bool
wants_memory (Ok done) = false
wants_memory (Err edits.NoMemory) = true
wants_memory (Err edits.Outside) = false
wants_memory (Err edits.NothingToDo) = false
wants_memory (Err edits.TooLarge) = false

-- ---- a `put`

-- a reply of this text and form, which tells of no refused memory and isn't the last
pub record IsReply (text : List ℕ) (form : Form) (reply : Reply) : Type 0 where
  pub text_is : reply_text reply ≡ text
  pub form_is : form_of reply ≡ form
  pub answers : is_refusal reply ≡ false
  pub goes_on : is_last reply ≡ false

-- what a `put` yields: the bytes to write, or the reply
abbrev pub PutSays : Description → Result Overwrite Failure → Result CodeOverwrite Reply → Type 0
PutSays d (Ok o) (Ok x) = o ≡ overwrite_of x
PutSays d (Err e) (Err reply) = IsReply (failure_text d e ++ codes "\n") (told_form (failure_told d e)) reply
PutSays d (Ok o) (Err reply) = ⊥
PutSays d (Err e) (Ok x) = ⊥

-- ---- a line over a device

-- of a reply's text all was written and flushed, and it says whether the session ends; or a beginning was
abbrev pub Wrote : Replied → Bool → Taken → Taken → Result Bool Failed → Type 0
Wrote a tells before written (Ok ended) = (ended ≡ a.ends) × (IsTrue tells → (written.bytes ≡ before.bytes ++ a.text) × (written.flushed ≡ length written.bytes))
Wrote a tells before written (Err failed) = IsTrue tells → (count : ℕ) × (written.bytes ≡ before.bytes ++ take count a.text) × (written.flushed ≡ before.flushed)

-- a line was answered as it must be, whether or not memory was refused, and the reply written
pub record Answered (old : Explored) (line : List ℕ) (new : Explored) (tells : Bool) (before written : Taken) (result : Result Bool Failed) : Type 0 where
  pub event : Event
  pub line_is : event.line ≡ line
  pub fair : is_fair (description_of old) old.bytes event ≡ true
  pub description : description_of new ≡ description_of old
  pub bytes : new.bytes ≡ (answer (description_of old) old.bytes event).bytes
  pub keeps : (m : Memory) → Holds old m → (event.tally ≡ tally_in m) × Remembers (description_of old) old.bytes (command_of (description_of old) event.line) event.refused m new
  pub wrote : Wrote (answer (description_of old) old.bytes event) tells before written result

-- ---- the lines of an input that is taken in pieces

-- While the session goes on: of what was taken the whole lines are answered, and of the line after them the first
-- `line_room` bytes are gathered, which show whether it is too long.
pub record Stands (d : Description) (begin taken : List ℕ) (now : Explored) (line : List ℕ) (tells : Bool) (before written : Taken) : Type 0 where
  pub events : List Event
  pub rest : List ℕ
  pub lines : lines_in events ++ rest ∷ [] ≡ lines_of taken
  pub gathered : line ≡ take line_room rest
  pub fair : (session d begin events).fair ≡ true
  pub bytes : now.bytes ≡ (session d begin events).bytes
  pub output : IsTrue tells → written.bytes ≡ before.bytes ++ (session d begin events).output
  pub flushed : IsTrue tells → written.flushed ≡ flushed_by before (session d begin events).output (length events)
  pub goes_on : (session d begin events).ended ≡ false
  pub kept : Memory
  pub holds : Holds now kept
  pub stats : Keeps d begin nothing_kept events kept

-- After a piece of the input: a line in it ended the session, or all of it was taken, or a write failed.
abbrev pub Fed : Description → List ℕ → List ℕ → List ℕ → Explored → List ℕ → Bool → Taken → Taken → Result Bool Failed → Type 0
Fed d begin taken input now line tells before written (Ok true) = Serves d begin input now.bytes tells before written true
Fed d begin taken input now line tells before written (Ok false) = Stands d begin taken now line tells before written
Fed d begin taken input now line tells before written (Err f) = Breaks d begin input now.bytes tells before written
