-- The reply to a line, and the bytes after it.
use Rattle.std.specs.Prelude.{ℕ, ◌+◌, Bool, true, false, List, [], ◌++◌, length, codes, decimal, nat_le, Option, Some, None, Result, Ok, Err, is_ok, if◌then◌else◌}
use Rattle.ksv_bytes.specs.Edits.{append, delete, insert, overwrite}
use Rattle.ksv_bytes.specs.declared.edit.EditRefusal.{EditRefusal}
use Rattle.ksv_bytes.specs.declared.edit.EditRefusal.TheVariants as edits
use Rattle.ksv_commands.specs.Commands.{command_of}
use Rattle.ksv_commands.specs.declared.command.Command.{Command}
use Rattle.ksv_commands.specs.declared.command.Command.TheVariants.{App, Ask, Blank, Bytes, Del, Ins, Put, Quit, Refused, Set, Size, Stats}
use Rattle.ksv_desc.specs.Description.{Description}
use Rattle.ksv_questions.specs.Answers.{failure_text, failure_told, outcome, question_text, question_told}
use Rattle.ksv_questions.specs.Asking.{Failure}
use Rattle.ksv_texts.specs.Texts.{bytes_text}
use Rattle.ksv_texts.specs.declared.refusal.Refusal.{Refusal}
use Rattle.ksv_questions.specs.Writing.{Overwrite, put_question}
use Rattle.ksv_commands.specs.declared.refusal.LineRefusal.{LineRefusal}
use Rattle.ksv_commands.specs.declared.refusal.LineRefusal.TheVariants as refusals

-- The texts of refusals.

abbrev pub line_refusal_text : LineRefusal → List ℕ
line_refusal_text refusals.UnknownCommand = codes "error: unknown command\n"
line_refusal_text refusals.WrongArguments = codes "error: wrong arguments\n"
line_refusal_text refusals.BadNumber = codes "error: bad number\n"
line_refusal_text refusals.BadHex = codes "error: bad hex\n"
line_refusal_text refusals.BadPath = codes "error: bad path\n"
line_refusal_text refusals.LineTooLong = codes "error: line too long\n"
line_refusal_text refusals.TooLarge = codes "error: too large\n"

abbrev pub edit_refusal_text : EditRefusal → List ℕ
edit_refusal_text edits.Outside = codes "error: outside\n"
edit_refusal_text edits.NothingToDo = codes "error: nothing to do\n"
edit_refusal_text edits.TooLarge = codes "error: file too large\n"
edit_refusal_text edits.NoMemory = codes "error: no memory\n"

abbrev pub no_memory_text : List ℕ
no_memory_text = codes "error: no memory\n"

-- The bytes after the line, the text of the reply with its LF, and whether the session ends.
pub record Replied : Type 0 where
  pub bytes : List ℕ
  pub text : List ℕ
  pub ends : Bool

-- a reply that changes nothing
abbrev pub said : List ℕ → List ℕ → Replied
said b text = record { bytes = b; text = text; ends = false }

-- an edit's reply is the size after it, or its refusal, which changes nothing
abbrev pub edited : List ℕ → Result (List ℕ) EditRefusal → Replied
edited b (Ok after) = said after (codes "ok " ++ decimal (length after) ++ codes "\n")
edited b (Err refusal) = said b (edit_refusal_text refusal)

-- whether a file has these bytes
abbrev pub has : List ℕ → ℕ → ℕ → Bool
has b at count = nat_le (at + count) (length b)

-- the bytes from a place on
abbrev pub shown_text : List ℕ → ℕ → ℕ → List ℕ
shown_text b at count = if has b at count then bytes_text b at (at + count) ++ codes "\n" else edit_refusal_text edits.Outside

-- an integer is written over another, or the reply tells why it isn't
abbrev pub put_answer : Description → List ℕ → Result Overwrite Failure → Replied
put_answer d b (Ok o) = edited b (overwrite b o.at o.bytes)
put_answer d b (Err e) = said b (failure_text d e ++ codes "\n")

-- What `stats` tells: how many nodes are kept, and the turns of the last question where they are known. Which numbers these are is no
-- part of a session's replies: `Session::line` says it by `Kept`.
pub record Tally : Type 0 where
  pub kept : ℕ
  pub turns : Option ℕ

abbrev pub turns_text : Option ℕ → List ℕ
turns_text (Some turns) = decimal turns
turns_text None = codes "-"

abbrev pub tally_text : Tally → List ℕ
tally_text t = codes "kept " ++ decimal t.kept ++ codes " turns " ++ turns_text t.turns ++ codes "\n"

abbrev pub answer_to : Description → List ℕ → Tally → Command → Replied
answer_to d b t Blank = said b []
answer_to d b t (Refused refusal) = said b (line_refusal_text refusal)
answer_to d b t (Ask question) = said b (question_text d b question ++ codes "\n")
answer_to d b t (Put path n) = put_answer d b (outcome d b (put_question d b path n))
answer_to d b t (Set at bytes) = edited b (overwrite b at bytes)
answer_to d b t (Ins at bytes) = edited b (insert b at bytes)
answer_to d b t (Del at count) = edited b (delete b at count)
answer_to d b t (App bytes) = edited b (append b bytes)
answer_to d b t (Bytes at count) = said b (shown_text b at count)
answer_to d b t Size = said b (codes "size " ++ decimal (length b) ++ codes "\n")
answer_to d b t Stats = said b (tally_text t)
answer_to d b t Quit = record { bytes = b; text = codes "bye\n"; ends = true }

-- The form of a reply. A short one has at most 64 bytes, and takes no memory.
pub data Form : Type 0 where
  Nothing : Form
  ShortText : Form
  LongText : Form
  OutOfMemory : Form
  Bye : Form

-- a text of any length that is told, or a refusal, which is short
abbrev pub told_form : Result (List ℕ) Refusal → Form
told_form (Ok text) = LongText
told_form (Err refusal) = ShortText

-- an edit's reply is short, whether it was done or refused, and so is that to an integer that isn't written, unless it tells a fault
abbrev pub put_form : Description → Result Overwrite Failure → Form
put_form d (Ok o) = ShortText
put_form d (Err e) = told_form (failure_told d e)

abbrev pub form_to : Description → List ℕ → Command → Form
form_to d b Blank = Nothing
form_to d b (Refused refusal) = ShortText
form_to d b (Ask question) = told_form (question_told d b question)
form_to d b (Put path n) = put_form d (outcome d b (put_question d b path n))
form_to d b (Set at bytes) = ShortText
form_to d b (Ins at bytes) = ShortText
form_to d b (Del at count) = ShortText
form_to d b (App bytes) = ShortText
form_to d b (Bytes at count) = if has b at count then LongText else ShortText
form_to d b Size = ShortText
form_to d b Stats = ShortText
form_to d b Quit = Bye

-- Whether a command may be refused memory: a question and a `put` for the nodes that they ask and for a reply that isn't short, `bytes`
-- for its reply unless that is short, and an edit that is accepted for its growth.
abbrev pub may_be_refused : List ℕ → Command → Bool
may_be_refused b Blank = false
may_be_refused b (Refused refusal) = false
may_be_refused b (Ask question) = true
may_be_refused b (Put path n) = true
may_be_refused b (Set at bytes) = false
may_be_refused b (Ins at bytes) = is_ok (insert b at bytes)
may_be_refused b (Del at count) = false
may_be_refused b (App bytes) = is_ok (append b bytes)
may_be_refused b (Bytes at count) = has b at count
may_be_refused b Size = false
may_be_refused b Stats = false
may_be_refused b Quit = false

-- A line as it came, whether memory was refused while it was answered, and what `stats` would tell then.
pub record Event : Type 0 where
  pub line : List ℕ
  pub refused : Bool
  pub tally : Tally

-- the reply to a line; if memory was refused it is `error: no memory`, and nothing changes
abbrev pub answer : Description → List ℕ → Event → Replied
answer d b event = if event.refused then said b no_memory_text else answer_to d b event.tally (command_of d event.line)

-- the form of that reply
abbrev pub form : Description → List ℕ → Event → Form
form d b event = if event.refused then OutOfMemory else form_to d b (command_of d event.line)

-- a line that was refused memory is one that may be
abbrev pub is_fair : Description → List ℕ → Event → Bool
is_fair d b event = if event.refused then may_be_refused b (command_of d event.line) else true
