-- A run of a session over devices: what holds when it ends.
use Rattle.std.specs.Prelude.{◌≡◌, ℕ, ◌+◌, zero, suc, ◌<◌, ◌≤◌, Bool, true, false, List, [], ◌∷◌, ◌++◌, length, take, IsTrue}
use Rattle.ksv_desc.specs.Description.{Description}
use Rattle.ksv_lines.specs.Lines.{lines_of}
use Rattle.ksv_session.specs.Replies.{Event}
use Rattle.ksv_session.specs.Session.{lines_in, session}
use Rattle.ksv_session.specs.Tallies.{Tells}
use Rattle.ksv_session.specs.declared.serve.End.{End}
use Rattle.ksv_session.specs.declared.serve.End.TheVariants as ends

-- what a writer has taken, and how many of these bytes it has passed on
pub record Taken : Type 0 where
  pub bytes : List ℕ
  pub flushed : ℕ

abbrev pub took : List ℕ → ℕ → Taken
took bytes flushed = record { bytes = bytes; flushed = flushed }

-- how many bytes it has passed on once this many replies, with this output in all, were each written and flushed
abbrev pub flushed_by : Taken → List ℕ → ℕ → ℕ
flushed_by before output zero = before.flushed
flushed_by before output (suc n) = length before.bytes + length output

-- The headline. Each line of the whole input has a mark whether memory was refused in it, and only lines that may
-- be refused memory were. The bytes are those of the session over these lines. What was written is the session's
-- output, after what the writer held before, and all of it was flushed. Which numbers `stats` told in it is a fold beside
-- that of the bytes.
pub record Serves (d : Description) (begin input now : List ℕ) (tells : Bool) (before written : Taken) (ended : Bool) : Type 0 where
  pub events : List Event
  pub lines : lines_in events ≡ lines_of input
  pub fair : (session d begin events).fair ≡ true
  pub bytes : now ≡ (session d begin events).bytes
  pub output : IsTrue tells → written.bytes ≡ before.bytes ++ (session d begin events).output
  pub flushed : IsTrue tells → written.flushed ≡ length written.bytes
  pub ends : (session d begin events).ended ≡ ended
  pub stats : Tells d begin events

-- A write or a flush failed in the reply to one of the lines, before which the session had not ended. What was written is
-- a beginning of the session's output, which has all replies before that line, and those were flushed; the bytes are those
-- after that line.
pub record Breaks (d : Description) (begin input now : List ℕ) (tells : Bool) (before written : Taken) : Type 0 where
  pub events : List Event
  pub lines : lines_in events ≡ lines_of input
  pub fair : (session d begin events).fair ≡ true
  pub place : ℕ
  pub is_line : place < length events
  pub goes_on : (session d begin (take place events)).ended ≡ false
  pub stats : Tells d begin (take (suc place) events)
  pub bytes : now ≡ (session d begin (take (suc place) events)).bytes
  pub taken : IsTrue tells → ℕ
  pub output : (told : IsTrue tells) → written.bytes ≡ before.bytes ++ take (taken told) (session d begin events).output
  pub whole : (told : IsTrue tells) → length (session d begin (take place events)).output ≤ taken told
  pub part : (told : IsTrue tells) → taken told ≤ length (session d begin (take (suc place) events)).output
  pub flushed : IsTrue tells → written.flushed ≡ flushed_by before (session d begin (take place events)).output place

-- A read failed. Of what was taken until then the whole lines are answered; the rest, in which no line ends, has no
-- reply and no effect.
pub record Stops (d : Description) (begin input left now : List ℕ) (tells : Bool) (before written : Taken) : Type 0 where
  pub taken : List ℕ
  pub split : input ≡ taken ++ left
  pub events : List Event
  pub rest : List ℕ
  pub lines : lines_in events ++ rest ∷ [] ≡ lines_of taken
  pub fair : (session d begin events).fair ≡ true
  pub bytes : now ≡ (session d begin events).bytes
  pub output : IsTrue tells → written.bytes ≡ before.bytes ++ (session d begin events).output
  pub flushed : IsTrue tells → written.flushed ≡ flushed_by before (session d begin events).output (length events)
  pub goes_on : (session d begin events).ended ≡ false
  pub stats : Tells d begin events

-- The session ended at a line `quit` or at the end of the input, or a device failed.
abbrev pub Ended : End → Description → List ℕ → List ℕ → List ℕ → List ℕ → Bool → Taken → Taken → Type 0
Ended ends.Quit d begin input left now tells before written = Serves d begin input now tells before written true
Ended ends.Input d begin input left now tells before written = Serves d begin input now tells before written false × (left ≡ [])
Ended ends.ReadFailed d begin input left now tells before written = Stops d begin input left now tells before written
Ended ends.WriteFailed d begin input left now tells before written = Breaks d begin input now tells before written
