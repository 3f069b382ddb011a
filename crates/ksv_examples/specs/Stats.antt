-- Whole sessions with lines `stats`: what such a line tells is what is kept before it by the definitions, and the turns of the last
-- question.
use Rattle.std.specs.Prelude.{◌≡◌, ℕ, true, false, List, [], ◌∷◌, codes, length, replicate, Option, Some, None, option_and_then}
use Rattle.ksv_commands.specs.Commands.{command_of}
use Rattle.ksv_desc.specs.Description.{Description}
use Rattle.ksv_session.specs.Kept.{Memory, memory_after, nothing_kept}
use Rattle.ksv_session.specs.Replies.{Event, Tally}
use Rattle.ksv_session.specs.Session.{Standing, after_event, answered, begun, session}
use Rattle.ksv_examples.specs.Depth.{line_answer}
use Rattle.ksv_examples.specs.Descriptions.{text_of_lines, description}
use Rattle.ksv_examples.specs.Dialogues.{Dialogue, left_by, typed}
use Rattle.ksv_examples.specs.Walks.{memory_to}

-- what `stats` tells of this
abbrev pub tally_of : Memory → Tally
tally_of m = record { kept = length m.kept; turns = m.turns }

-- a line for which no memory is refused
abbrev pub event_of : Memory → List ℕ → Event
event_of m line = record { line = line; refused = false; tally = tally_of m }

-- lines for which no memory is refused, from here on: what is kept is carried along by `memory_after`
abbrev pub events_from : Description → Standing → Memory → List (List ℕ) → List Event
events_from d s m [] = []
events_from d s m (line ∷ lines) = event_of m line ∷ events_from d (after_event d s (event_of m line)) (memory_after d s.bytes (command_of d line) m) lines

-- over a description the session is the stated one
abbrev pub TellsSo : Dialogue → Option Description → Type 0
TellsSo r None = ⊥
TellsSo r (Some d) = session d r.file (events_from d (begun r.file) nothing_kept (typed r)) ≡ left_by r

-- the text states a description, over which the session is the stated one
abbrev pub Tells : Dialogue → Type 0
Tells r = TellsSo r (description r.lines)

-- the session after lines, to a depth
unfoldable pub told_to : Description → ℕ → Standing → Memory → List (List ℕ) → Option Standing
told_to d depth s m [] = Some s
told_to d depth s m (line ∷ lines) = elim (s.ended) [
  | true ↦ Some s
  | false ↦ option_and_then (λ a. option_and_then (λ kept. told_to d depth (answered s a true) kept lines) (memory_to d depth s.bytes (command_of d line) m)) (line_answer d depth s.bytes (tally_of m) line)
]

-- ---- the dialogues

-- a list of five bytes, and one byte more at its end: the end of the last element and what comes from each element on are taken
abbrev pub list_grows : Dialogue
list_grows = record {
  lines =
      codes "meta: {id: a}" ∷
      codes "seq: [{id: xs, type: u1, repeat: eos}]" ∷
      [];
  file = 0x01 ∷ 0x02 ∷ 0x03 ∷ 0x04 ∷ 0x05 ∷ [];
  input = text_of_lines (
      codes "stats" ∷
      codes "get /xs" ∷
      codes "stats" ∷
      codes "app 07" ∷
      codes "stats" ∷
      codes "get /xs" ∷
      codes "stats" ∷
      []);
  output = text_of_lines (
      codes "kept 0 turns 0" ∷
      codes "[5]" ∷
      codes "kept 18 turns 49" ∷
      codes "ok 6" ∷
      codes "kept 12 turns 49" ∷
      codes "[6]" ∷
      codes "kept 21 turns 27" ∷
      []);
  left = 0x01 ∷ 0x02 ∷ 0x03 ∷ 0x04 ∷ 0x05 ∷ 0x07 ∷ [];
  ended = false;
}

-- a list that is long enough for an engine to keep its nodes by numbers alone: elements are asked one after another, between bytes that are written over,
-- inserted and deleted
abbrev pub long_list : Dialogue
long_list = record {
  lines =
      codes "meta: {id: a}" ∷
      codes "seq: [{id: xs, type: u1, repeat: eos}]" ∷
      [];
  file = replicate 600 0x07;
  input = text_of_lines (
      codes "get /xs/3" ∷
      codes "stats" ∷
      codes "get /xs/5" ∷
      codes "stats" ∷
      codes "set 2 09" ∷
      codes "get /xs/2" ∷
      codes "stats" ∷
      codes "ins 4 0102" ∷
      codes "stats" ∷
      codes "get /xs/5" ∷
      codes "stats" ∷
      codes "del 0 1" ∷
      codes "stats" ∷
      codes "get /xs/1" ∷
      codes "stats" ∷
      []);
  output = text_of_lines (
      codes "7" ∷
      codes "kept 10 turns 25" ∷
      codes "7" ∷
      codes "kept 15 turns 14" ∷
      codes "ok 600" ∷
      codes "9" ∷
      codes "kept 16 turns 2" ∷
      codes "ok 602" ∷
      codes "kept 11 turns 2" ∷
      codes "2" ∷
      codes "kept 16 turns 14" ∷
      codes "ok 601" ∷
      codes "kept 1 turns 14" ∷
      codes "9" ∷
      codes "kept 6 turns 12" ∷
      []);
  left = 0x07 ∷ 0x09 ∷ 0x07 ∷ 0x01 ∷ 0x02 ∷ replicate 596 0x07;
  ended = false;
}

-- a list of 150 elements that say the size of their last field, which is long enough too: elements are asked between a size that is written over, so that a
-- body takes two bytes more, a byte that is inserted in that body, and the list's first byte that is deleted
abbrev pub long_sized_list : Dialogue
long_sized_list = record {
  lines =
      codes "meta: {id: a}" ∷
      codes "seq: [{id: xs, type: item, repeat: eos}]" ∷
      codes "types: {item: {seq: [{id: len, type: u1}, {id: body, size: len}]}}" ∷
      [];
  file = replicate 150 0x00;
  input = text_of_lines (
      codes "get /xs/2/body" ∷
      codes "stats" ∷
      codes "set 1 02" ∷
      codes "stats" ∷
      codes "get /xs/1/body" ∷
      codes "stats" ∷
      codes "get /xs/2/len" ∷
      codes "stats" ∷
      codes "ins 3 01" ∷
      codes "stats" ∷
      codes "get /xs/1/body" ∷
      codes "get /xs/2/body" ∷
      codes "stats" ∷
      codes "del 0 1" ∷
      codes "stats" ∷
      codes "get /xs/0/body" ∷
      codes "stats" ∷
      []);
  output = text_of_lines (
      codes "hex " ∷
      codes "kept 22 turns 55" ∷
      codes "ok 150" ∷
      codes "kept 12 turns 55" ∷
      codes "hex 0000" ∷
      codes "kept 15 turns 8" ∷
      codes "0" ∷
      codes "kept 20 turns 13" ∷
      codes "ok 151" ∷
      codes "kept 13 turns 13" ∷
      codes "hex 0001" ∷
      codes "hex " ∷
      codes "kept 23 turns 21" ∷
      codes "ok 150" ∷
      codes "kept 1 turns 21" ∷
      codes "hex 0001" ∷
      codes "kept 8 turns 16" ∷
      []);
  left = 0x02 ∷ 0x00 ∷ 0x01 ∷ replicate 147 0x00;
  ended = false;
}

-- an empty field stays where a byte after it is deleted, and goes with a byte before it
abbrev pub deleted_around : Dialogue
deleted_around = record {
  lines =
      codes "meta: {id: t}" ∷
      codes "seq: [{id: a, type: u1}, {id: b, size: 0}, {id: c, type: u1}]" ∷
      [];
  file = 0x05 ∷ 0x06 ∷ 0x07 ∷ [];
  input = text_of_lines (
      codes "get /b" ∷
      codes "stats" ∷
      codes "del 1 1" ∷
      codes "stats" ∷
      codes "del 0 1" ∷
      codes "stats" ∷
      codes "get /b" ∷
      codes "stats" ∷
      []);
  output = text_of_lines (
      codes "hex " ∷
      codes "kept 5 turns 10" ∷
      codes "ok 2" ∷
      codes "kept 5 turns 10" ∷
      codes "ok 1" ∷
      codes "kept 1 turns 10" ∷
      codes "hex " ∷
      codes "kept 5 turns 9" ∷
      []);
  left = 0x07 ∷ [];
  ended = false;
}

-- bytes are written over before an attribute after an object of a size, and in it
abbrev pub written_behind : Dialogue
written_behind = record {
  lines =
      codes "meta: {id: t}" ∷
      codes "seq: [{id: o, type: inner, size: 4}, {id: z, type: u1}]" ∷
      codes "types: {inner: {seq: [{id: p, type: u4be}, {id: q, type: u2be}]}}" ∷
      [];
  file = 0x00 ∷ 0x00 ∷ 0x00 ∷ 0x07 ∷ 0x09 ∷ 0x0a ∷ [];
  input = text_of_lines (
      codes "get /z" ∷
      codes "stats" ∷
      codes "set 0 01" ∷
      codes "stats" ∷
      codes "set 4 0b" ∷
      codes "stats" ∷
      codes "get /z" ∷
      codes "stats" ∷
      []);
  output = text_of_lines (
      codes "9" ∷
      codes "kept 5 turns 10" ∷
      codes "ok 6" ∷
      codes "kept 5 turns 10" ∷
      codes "ok 6" ∷
      codes "kept 4 turns 10" ∷
      codes "11" ∷
      codes "kept 5 turns 2" ∷
      []);
  left = 0x01 ∷ 0x00 ∷ 0x00 ∷ 0x07 ∷ 0x0b ∷ 0x0a ∷ [];
  ended = false;
}

-- a value is checked against the one before it: an edit of that one takes both values, and no head
abbrev pub checked_against : Dialogue
checked_against = record {
  lines =
      codes "meta: {id: t}" ∷
      codes "seq: [{id: m, type: u1}, {id: n, type: u1, valid: {max: m}}]" ∷
      [];
  file = 0x05 ∷ 0x03 ∷ [];
  input = text_of_lines (
      codes "get /n" ∷
      codes "stats" ∷
      codes "set 0 01" ∷
      codes "stats" ∷
      codes "get /n" ∷
      codes "stats" ∷
      []);
  output = text_of_lines (
      codes "3" ∷
      codes "kept 6 turns 13" ∷
      codes "ok 2" ∷
      codes "kept 4 turns 13" ∷
      codes "fault invalid at /n" ∷
      codes "kept 6 turns 5" ∷
      []);
  left = 0x01 ∷ 0x03 ∷ [];
  ended = false;
}

-- two halves of a byte: an overwrite of it takes the value of each that was asked, and no head
abbrev pub halves : Dialogue
halves = record {
  lines =
      codes "meta: {id: t}" ∷
      codes "seq: [{id: hi, type: b4}, {id: lo, type: b4}, {id: z, type: u1}]" ∷
      [];
  file = 0xa5 ∷ 0x03 ∷ [];
  input = text_of_lines (
      codes "get /lo" ∷
      codes "stats" ∷
      codes "set 0 f5" ∷
      codes "stats" ∷
      codes "get /lo" ∷
      codes "stats" ∷
      codes "at /hi" ∷
      codes "at /lo" ∷
      codes "get /z" ∷
      []);
  output = text_of_lines (
      codes "5" ∷
      codes "kept 5 turns 10" ∷
      codes "ok 2" ∷
      codes "kept 4 turns 10" ∷
      codes "5" ∷
      codes "kept 5 turns 2" ∷
      codes "at 0 0.4" ∷
      codes "at 0.4 1" ∷
      codes "3" ∷
      []);
  left = 0xf5 ∷ 0x03 ∷ [];
  ended = false;
}

-- a circle: what it is met by isn't kept, and turns aren't told
abbrev pub circle_told : Dialogue
circle_told = record {
  lines =
      codes "meta: {id: a}" ∷
      codes "instances: {a: {value: b}, b: {value: a}}" ∷
      [];
  file = [];
  input = text_of_lines (
      codes "get /a" ∷
      codes "stats" ∷
      codes "get /b" ∷
      []);
  output = text_of_lines (
      codes "fault circle at /a" ∷
      codes "kept 3 turns -" ∷
      codes "fault circle at /b" ∷
      []);
  left = [];
  ended = false;
}
