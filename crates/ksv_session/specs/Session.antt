-- A whole session: a fold over its lines, whose state is the current bytes.
use Rattle.std.specs.Prelude.{ℕ, ◌&&◌, Bool, true, false, List, [], ◌++◌, fold, map, if◌then◌else◌}
use Rattle.ksv_desc.specs.Description.{Description}
use Rattle.ksv_session.specs.Replies.{Replied, Event, answer, is_fair}

-- the current bytes, what was written, whether the session has ended, and whether each line that was refused memory
-- is one that may be
pub record Standing : Type 0 where
  pub bytes : List ℕ
  pub output : List ℕ
  pub ended : Bool
  pub fair : Bool

abbrev pub answered : Standing → Replied → Bool → Standing
answered s a fair = record { bytes = a.bytes; output = s.output ++ a.text; ended = a.ends; fair = s.fair && fair }

-- a line after `quit` has no reply and no effect
abbrev pub after_event : Description → Standing → Event → Standing
after_event d s event = if s.ended then s else answered s (answer d s.bytes event) (is_fair d s.bytes event)

abbrev pub begun : List ℕ → Standing
begun b = record { bytes = b; output = []; ended = false; fair = true }

abbrev pub session : Description → List ℕ → List Event → Standing
session d b events = fold (after_event d) (begun b) events

abbrev pub lines_in : List Event → List (List ℕ)
lines_in events = map (λ event. event.line) events
