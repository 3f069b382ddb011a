-- Whole sessions worked out: the text of a description, the bytes of a file and what is typed, with all that is written and the
-- bytes in the end.
use Rattle.std.specs.Prelude.{◌≡◌, ℕ, Bool, true, false, List, [], ◌∷◌, ◌++◌, replicate, codes, Option, Some, None}
use Rattle.std.specs.List.{AllByRecursion}
use Rattle.ksv_desc.specs.Description.{Description}
use Rattle.ksv_lines.specs.Lines.{lines_of}
use Rattle.ksv_session.specs.Replies.{Event}
use Rattle.ksv_session.specs.Session.{Standing, session}
use Rattle.ksv_examples.specs.Descriptions.{text_of_lines, description}
use Rattle.ksv_examples.specs.Depth.{spoken, untold}

-- the lines of a description, the bytes of a file, and those of an input; what is written, the bytes in the end, and whether
-- `quit` ended the session
pub record Dialogue : Type 0 where
  pub lines : List (List ℕ)
  pub file : List ℕ
  pub input : List ℕ
  pub output : List ℕ
  pub left : List ℕ
  pub ended : Bool

-- the session in the end, where no line was refused memory
abbrev pub left_by : Dialogue → Standing
left_by r = record { bytes = r.left; output = r.output; ended = r.ended; fair = true }

-- the lines of the whole input
abbrev pub typed : Dialogue → List (List ℕ)
typed r = lines_of r.input

-- over a description the session is the stated one
abbrev pub GoesSo : Dialogue → Option Description → Type 0
GoesSo r None = ⊥
GoesSo r (Some d) = session d r.file (spoken (typed r)) ≡ left_by r

-- the text states a description, over which the session is the stated one
abbrev pub Goes : Dialogue → Type 0
Goes r = GoesSo r (description r.lines)

-- ---- the dialogues

-- a size that another field tells, and edits of it
abbrev pub edited_size : Dialogue
edited_size = record {
  lines =
      codes "meta:" ∷
      codes "  id: k" ∷
      codes "seq:" ∷
      codes "  - id: magic" ∷
      codes "    contents: [0x4b, 0x53]" ∷
      codes "  - id: n" ∷
      codes "    type: u1" ∷
      codes "  - id: items" ∷
      codes "    type: item" ∷
      codes "    repeat: expr" ∷
      codes "    repeat-expr: n" ∷
      codes "types:" ∷
      codes "  item:" ∷
      codes "    seq:" ∷
      codes "      - id: len" ∷
      codes "        type: u1" ∷
      codes "      - id: body" ∷
      codes "        size: len" ∷
      [];
  file = 0x4b ∷ 0x53 ∷ 0x02 ∷ 0x01 ∷ 0xaa ∷ 0x02 ∷ 0xbb ∷ 0xcc ∷ [];
  input = text_of_lines (
      codes "get /items/1/body" ∷
      codes "get /items" ∷
      codes "get /items/1" ∷
      codes "get /magic" ∷
      codes "get /items/2" ∷
      codes "get /items/1048575" ∷
      codes "get /items/1048576" ∷
      codes "get /items/01" ∷
      codes "get /items/-1" ∷
      codes "get /n/len" ∷
      codes "get /n/0" ∷
      codes "set 3 02" ∷
      codes "get /items/1/body" ∷
      codes "set 3 01" ∷
      codes "get /items/1/body" ∷
      codes "set 2 00" ∷
      codes "get /items" ∷
      codes "get /items/0" ∷
      []);
  output = text_of_lines (
      codes "hex bbcc" ∷
      codes "[2]" ∷
      codes "object item" ∷
      codes "hex 4b53" ∷
      codes "fault bad-index at /items/2" ∷
      codes "fault bad-index at /items/1048575" ∷
      codes "error: bad path" ∷
      codes "error: bad path" ∷
      codes "error: bad path" ∷
      codes "fault no-such at /n/len" ∷
      codes "fault no-such at /n/0" ∷
      codes "ok 8" ∷
      codes "fault end-of-bytes at /items/1/body" ∷
      codes "ok 8" ∷
      codes "hex bbcc" ∷
      codes "ok 8" ∷
      codes "[0]" ∷
      codes "fault bad-index at /items/0" ∷
      []);
  left = 0x4b ∷ 0x53 ∷ 0x00 ∷ 0x01 ∷ 0xaa ∷ 0x02 ∷ 0xbb ∷ 0xcc ∷ [];
  ended = false;
}

-- bytes that come later
abbrev pub later_bytes : Dialogue
later_bytes = record {
  lines =
      codes "meta:" ∷
      codes "  id: k" ∷
      codes "seq:" ∷
      codes "  - id: magic" ∷
      codes "    contents: [0x4b, 0x53]" ∷
      codes "  - id: n" ∷
      codes "    type: u1" ∷
      codes "  - id: items" ∷
      codes "    type: item" ∷
      codes "    repeat: expr" ∷
      codes "    repeat-expr: n" ∷
      codes "types:" ∷
      codes "  item:" ∷
      codes "    seq:" ∷
      codes "      - id: len" ∷
      codes "        type: u1" ∷
      codes "      - id: body" ∷
      codes "        size: len" ∷
      [];
  file = 0x4b ∷ 0x53 ∷ 0x02 ∷ [];
  input = text_of_lines (
      codes "get /items" ∷
      codes "app 01aa02bbcc" ∷
      codes "get /items" ∷
      []);
  output = text_of_lines (
      codes "fault end-of-bytes at /items/0/len" ∷
      codes "ok 8" ∷
      codes "[2]" ∷
      []);
  left = 0x4b ∷ 0x53 ∷ 0x02 ∷ 0x01 ∷ 0xaa ∷ 0x02 ∷ 0xbb ∷ 0xcc ∷ [];
  ended = false;
}

-- a size that is read after what it sizes
abbrev pub circle : Dialogue
circle = record {
  lines =
      codes "meta: {id: a}" ∷
      codes "seq: [{id: a, size: b}, {id: b, type: u1}]" ∷
      [];
  file = 0x01 ∷ 0x01 ∷ [];
  input = text_of_lines (
      codes "get /a" ∷
      codes "get /b" ∷
      []);
  output = text_of_lines (
      codes "fault circle at /a" ∷
      codes "fault circle at /b" ∷
      []);
  left = 0x01 ∷ 0x01 ∷ [];
  ended = false;
}

-- bytes up to a comma, and lines of every kind
abbrev pub up_to_a_comma : Dialogue
up_to_a_comma = record {
  lines =
      codes "meta: {id: a}" ∷
      codes "seq: [{id: a, terminator: 0x2c}, {id: b, type: u1}]" ∷
      [];
  file = 0x61 ∷ 0x62 ∷ 0x2c ∷ 0x63 ∷ [];
  input = text_of_lines (
      codes "# a comment" ∷
      codes "get /a" ∷
      codes "" ∷
      codes "frob /a" ∷
      codes " get\t/b " ∷
      codes "get b" ∷
      codes "get /c" ∷
      codes "get /a/" ∷
      codes "get" ∷
      codes "get /a /b" ∷
      codes "size" ∷
      codes "size 4" ∷
      codes "set 2 2" ∷
      codes "set x 2" ∷
      codes "set 18446744073709551616 2b" ∷
      codes "set 18446744073709551615 2b" ∷
      codes "set 000000000000000000002 2b" ∷
      codes "GET /a" ∷
      codes "set 4 2b" ∷
      codes "set 3 2b2b" ∷
      codes "set 2" ∷
      codes "set 00000000000000000002 2B" ∷
      codes "get /a" ∷
      codes "app 2C64" ∷
      codes "get /b" ∷
      codes "quit" ∷
      codes "get /b" ∷
      []);
  output = text_of_lines (
      codes "hex 6162" ∷
      codes "error: unknown command" ∷
      codes "99" ∷
      codes "error: bad path" ∷
      codes "error: bad path" ∷
      codes "error: bad path" ∷
      codes "error: wrong arguments" ∷
      codes "error: wrong arguments" ∷
      codes "size 4" ∷
      codes "error: wrong arguments" ∷
      codes "error: bad hex" ∷
      codes "error: bad number" ∷
      codes "error: bad number" ∷
      codes "error: outside" ∷
      codes "error: bad number" ∷
      codes "error: unknown command" ∷
      codes "error: outside" ∷
      codes "error: outside" ∷
      codes "error: wrong arguments" ∷
      codes "ok 4" ∷
      codes "fault no-terminator at /a" ∷
      codes "ok 6" ∷
      codes "100" ∷
      codes "bye" ∷
      []);
  left = 0x61 ∷ 0x62 ∷ 0x2b ∷ 0x63 ∷ 0x2c ∷ 0x64 ∷ [];
  ended = true;
}

-- terminators: a part of the value, left for what follows, before the end of a size, and not required
abbrev pub terminators : Dialogue
terminators = record {
  lines =
      codes "meta: {id: a}" ∷
      codes "seq:" ∷
      codes "  - {id: a, terminator: 0x2c, include: true}" ∷
      codes "  - {id: b, terminator: 0x2c, consume: false}" ∷
      codes "  - {id: c, type: u1}" ∷
      codes "  - {id: d, size: 3, terminator: 0x2c}" ∷
      codes "  - {id: e, size: 3, terminator: 0x2c, include: true}" ∷
      codes "  - {id: f, type: strz, encoding: ASCII}" ∷
      codes "  - {id: o, type: t, size: 2}" ∷
      codes "  - {id: h, size-eos: true, terminator: 0x2c}" ∷
      codes "types: {t: {seq: [{id: g, terminator: 0x2c, eos-error: false}]}}" ∷
      [];
  file = 0x61 ∷ 0x2c ∷ 0x62 ∷ 0x2c ∷ 0x78 ∷ 0x2c ∷ 0x79 ∷ 0x7a ∷ 0x2c ∷ 0x77 ∷ 0x22 ∷ 0x5c ∷ 0x00 ∷ 0x71 ∷ 0x72 ∷ 0x73 ∷ 0x74 ∷ 0x2c ∷ 0x75 ∷ [];
  input = text_of_lines (
      codes "get /a" ∷
      codes "get /b" ∷
      codes "get /c" ∷
      codes "get /d" ∷
      codes "get /e" ∷
      codes "get /f" ∷
      codes "get /o/g" ∷
      codes "get /h" ∷
      codes "set 17 2d" ∷
      codes "get /h" ∷
      codes "set 13 2c" ∷
      codes "get /o/g" ∷
      []);
  output = text_of_lines (
      codes "hex 612c" ∷
      codes "hex 62" ∷
      codes "44" ∷
      codes "hex 78" ∷
      codes "hex 7a2c" ∷
      codes "\"\\\"\\\\\"" ∷
      codes "hex 7172" ∷
      codes "hex 7374" ∷
      codes "ok 19" ∷
      codes "hex 73742d75" ∷
      codes "ok 19" ∷
      codes "hex " ∷
      []);
  left = 0x61 ∷ 0x2c ∷ 0x62 ∷ 0x2c ∷ 0x78 ∷ 0x2c ∷ 0x79 ∷ 0x7a ∷ 0x2c ∷ 0x77 ∷ 0x22 ∷ 0x5c ∷ 0x00 ∷ 0x2c ∷ 0x72 ∷ 0x73 ∷ 0x74 ∷ 0x2d ∷ 0x75 ∷ [];
  ended = false;
}

-- elements to a last one and to the end of the file, and a member of an enum
abbrev pub elements : Dialogue
elements = record {
  lines =
      codes "meta: {id: a}" ∷
      codes "seq:" ∷
      codes "  - {id: xs, type: s1, repeat: until, repeat-until: _ < 0 or _index == 3}" ∷
      codes "  - {id: k, type: u1, enum: animal}" ∷
      codes "  - {id: ys, type: u1, repeat: eos}" ∷
      codes "  - {id: zs, size: 1, repeat: until, repeat-until: _io.eof}" ∷
      codes "enums: {animal: {4: cat}}" ∷
      [];
  file = 0x01 ∷ 0x02 ∷ 0xff ∷ 0x04 ∷ 0x05 ∷ 0x06 ∷ [];
  input = text_of_lines (
      codes "get /xs" ∷
      codes "get /xs/2" ∷
      codes "get /k" ∷
      codes "get /ys" ∷
      codes "get /ys/2" ∷
      codes "set 2 7f" ∷
      codes "get /xs" ∷
      codes "get /k" ∷
      codes "get /ys" ∷
      codes "app 07" ∷
      codes "get /ys" ∷
      codes "get /ys/1" ∷
      []);
  output = text_of_lines (
      codes "[3]" ∷
      codes "-1" ∷
      codes "animal::cat (4)" ∷
      codes "[2]" ∷
      codes "fault bad-index at /ys/2" ∷
      codes "ok 6" ∷
      codes "[4]" ∷
      codes "animal::? (5)" ∷
      codes "[1]" ∷
      codes "ok 7" ∷
      codes "[2]" ∷
      codes "7" ∷
      []);
  left = 0x01 ∷ 0x02 ∷ 0x7f ∷ 0x04 ∷ 0x05 ∷ 0x06 ∷ 0x07 ∷ [];
  ended = false;
}

-- byte orders and signs, attributes under a condition, sizes by the index, and no elements
abbrev pub conditional : Dialogue
conditional = record {
  lines =
      codes "meta: {id: a, endian: be}" ∷
      codes "seq:" ∷
      codes "  - {id: a, type: u2}" ∷
      codes "  - {id: b, type: s2le}" ∷
      codes "  - {id: c, type: u1, if: a == 258}" ∷
      codes "  - {id: d, type: u1, if: a != 258}" ∷
      codes "  - {id: e, type: s8}" ∷
      codes "  - {id: f, type: u8le}" ∷
      codes "  - {id: q, size: _index, repeat: expr, repeat-expr: 3}" ∷
      codes "  - {id: rest, size-eos: true}" ∷
      codes "  - {id: none, type: u1, repeat: eos}" ∷
      codes "  - {id: o, type: t, if: a != 258}" ∷
      codes "  - {id: l, type: u1, repeat: eos, if: a != 258}" ∷
      codes "types: {t: {seq: [{id: x, type: u1}]}}" ∷
      [];
  file = 0x01 ∷ 0x02 ∷ 0xfe ∷ 0xff ∷ 0x07 ∷ 0x80 ∷ 0x00 ∷ 0x00 ∷ 0x00 ∷ 0x00 ∷ 0x00 ∷ 0x00 ∷ 0x00 ∷ 0xff ∷ 0xff ∷ 0xff ∷ 0xff ∷ 0xff ∷ 0xff ∷ 0xff ∷ 0xff ∷ 0x21 ∷ 0x22 ∷ 0x23 ∷ 0x08 ∷ [];
  input = text_of_lines (
      codes "get /a" ∷
      codes "get /b" ∷
      codes "get /c" ∷
      codes "get /d" ∷
      codes "get /e" ∷
      codes "get /f" ∷
      codes "get /q/0" ∷
      codes "get /q/1" ∷
      codes "get /q/2" ∷
      codes "get /rest" ∷
      codes "get /none" ∷
      codes "get /none/0" ∷
      codes "get /o" ∷
      codes "get /o/x" ∷
      codes "get /l" ∷
      codes "get /l/0" ∷
      codes "get /" ∷
      []);
  output = text_of_lines (
      codes "258" ∷
      codes "-2" ∷
      codes "7" ∷
      codes "fault absent at /d" ∷
      codes "-9223372036854775808" ∷
      codes "18446744073709551615" ∷
      codes "hex " ∷
      codes "hex 21" ∷
      codes "hex 2223" ∷
      codes "hex 08" ∷
      codes "[0]" ∷
      codes "fault bad-index at /none/0" ∷
      codes "fault absent at /o" ∷
      codes "fault absent at /o" ∷
      codes "fault absent at /l" ∷
      codes "fault absent at /l" ∷
      codes "object a" ∷
      []);
  left = 0x01 ∷ 0x02 ∷ 0xfe ∷ 0xff ∷ 0x07 ∷ 0x80 ∷ 0x00 ∷ 0x00 ∷ 0x00 ∷ 0x00 ∷ 0x00 ∷ 0x00 ∷ 0x00 ∷ 0xff ∷ 0xff ∷ 0xff ∷ 0xff ∷ 0xff ∷ 0xff ∷ 0xff ∷ 0xff ∷ 0x21 ∷ 0x22 ∷ 0x23 ∷ 0x08 ∷ [];
  ended = false;
}

-- streams of objects, which begin where they do, and a cast
abbrev pub streams : Dialogue
streams = record {
  lines =
      codes "meta: {id: t}" ∷
      codes "seq:" ∷
      codes "  - {id: lead, type: u1}" ∷
      codes "  - {id: blk, type: body, size: 3}" ∷
      codes "  - {id: z, type: u1}" ∷
      codes "  - {id: n, size: blk._io.size}" ∷
      codes "  - {id: m, size: blk.as<body>.c}" ∷
      codes "  - {id: none, size: _root._io.size - 13}" ∷
      codes "  - {id: tail, type: tail, size-eos: true}" ∷
      codes "  - {id: wrong, size: blk.as<t>.z}" ∷
      codes "types:" ∷
      codes "  body:" ∷
      codes "    seq:" ∷
      codes "      - {id: c, type: u1}" ∷
      codes "      - {id: rest, size: _io.size - _io.pos}" ∷
      codes "  tail:" ∷
      codes "    seq:" ∷
      codes "      - {id: a, type: u1}" ∷
      codes "      - {id: b, size: _io.pos}" ∷
      codes "      - {id: c, size: _io.size - 3}" ∷
      codes "      - {id: d, size-eos: true}" ∷
      [];
  file = 0x09 ∷ 0x01 ∷ 0x0b ∷ 0x0c ∷ 0x0d ∷ 0x0e ∷ 0x0f ∷ 0x10 ∷ 0x11 ∷ 0x21 ∷ 0x22 ∷ 0x23 ∷ 0x24 ∷ [];
  input = text_of_lines (
      codes "get /blk" ∷
      codes "get /blk/rest" ∷
      codes "get /z" ∷
      codes "get /n" ∷
      codes "get /m" ∷
      codes "get /none" ∷
      codes "get /tail/b" ∷
      codes "get /tail/c" ∷
      codes "get /tail/d" ∷
      codes "get /wrong" ∷
      []);
  output = text_of_lines (
      codes "object body" ∷
      codes "hex 0b0c" ∷
      codes "13" ∷
      codes "hex 0e0f10" ∷
      codes "hex 11" ∷
      codes "hex " ∷
      codes "hex 22" ∷
      codes "hex 23" ∷
      codes "hex 24" ∷
      codes "fault bad-type at /wrong" ∷
      []);
  left = 0x09 ∷ 0x01 ∷ 0x0b ∷ 0x0c ∷ 0x0d ∷ 0x0e ∷ 0x0f ∷ 0x10 ∷ 0x11 ∷ 0x21 ∷ 0x22 ∷ 0x23 ∷ 0x24 ∷ [];
  ended = false;
}

-- a size from the object around, which is read after it, and elements to the end of an object
abbrev pub parents : Dialogue
parents = record {
  lines =
      codes "meta: {id: t}" ∷
      codes "seq: [{id: a, type: x, size: 2}, {id: c, type: u1}, {id: d, type: y, size: 2}, {id: e, type: u1}]" ∷
      codes "types: {x: {seq: [{id: b, size: _parent.c}]}, y: {seq: [{id: xs, type: u1, repeat: eos}]}}" ∷
      [];
  file = 0xaa ∷ 0xbb ∷ 0x01 ∷ 0x05 ∷ 0x06 ∷ 0x07 ∷ [];
  input = text_of_lines (
      codes "get /a/b" ∷
      codes "set 2 02" ∷
      codes "get /a/b" ∷
      codes "set 2 03" ∷
      codes "get /a/b" ∷
      codes "get /d/xs" ∷
      codes "get /d/xs/1" ∷
      codes "get /d/xs/2" ∷
      codes "get /e" ∷
      []);
  output = text_of_lines (
      codes "hex aa" ∷
      codes "ok 6" ∷
      codes "hex aabb" ∷
      codes "ok 6" ∷
      codes "fault end-of-bytes at /a/b" ∷
      codes "[2]" ∷
      codes "6" ∷
      codes "fault bad-index at /d/xs/2" ∷
      codes "7" ∷
      []);
  left = 0xaa ∷ 0xbb ∷ 0x03 ∷ 0x05 ∷ 0x06 ∷ 0x07 ∷ [];
  ended = false;
}

-- each kind of fault but path-too-long, where it arises
abbrev pub faults : Dialogue
faults = record {
  lines =
      codes "meta: {id: a}" ∷
      codes "seq:" ∷
      codes "  - {id: n, type: s1}" ∷
      codes "  - {id: o0, type: t0, size: 0}" ∷
      codes "  - {id: o1, type: t1, size: 0}" ∷
      codes "  - {id: o2, type: t2, size: 0}" ∷
      codes "  - {id: o3, type: t3, size: 0}" ∷
      codes "  - {id: o4, type: t4, size: 0}" ∷
      codes "  - {id: o5, type: t5, size: 0}" ∷
      codes "  - {id: o6, type: t6, size: 1}" ∷
      codes "  - {id: o7, type: t7, size: 1}" ∷
      codes "  - {id: o8, type: t8, size: 1}" ∷
      codes "  - {id: o9, type: t9, size: 1}" ∷
      codes "  - {id: o10, type: t10, size: 0}" ∷
      codes "  - {id: o11, type: t11, size: 0}" ∷
      codes "  - {id: o12, type: t12, size: 1}" ∷
      codes "  - {id: o13, type: t13, size: 0}" ∷
      codes "  - {id: o14, type: t14, size: 0}" ∷
      codes "  - {id: o15, type: t15, size: 1}" ∷
      codes "  - {id: o16, type: t16, size: 1}" ∷
      codes "  - {id: o17, type: t17, size: 0}" ∷
      codes "types:" ∷
      codes "  t0: {seq: [{id: x, size: 1 / 0}]}" ∷
      codes "  t1: {seq: [{id: x, size: 1 << 64}]}" ∷
      codes "  t2: {seq: [{id: x, size: true}]}" ∷
      codes "  t3: {seq: [{id: x, size: _root.n}]}" ∷
      codes "  t4: {seq: [{id: x, size: \"'1x'.to_i\"}]}" ∷
      codes "  t5: {seq: [{id: x, type: u1, repeat: expr, repeat-expr: 1048577}]}" ∷
      codes "  t6: {seq: [{id: x, size: 0, repeat: eos}]}" ∷
      codes "  t7: {seq: [{id: x, contents: [1]}]}" ∷
      codes "  t8: {seq: [{id: x, type: str, size: 1, encoding: ASCII}]}" ∷
      codes "  t9: {seq: [{id: x, terminator: 0}]}" ∷
      codes "  t10: {seq: [{id: x, type: u1, if: 1 == 2}]}" ∷
      codes "  t11: {seq: [{id: x, size: \"'abc'.substring(2, 1).length\"}]}" ∷
      codes "  t12: {seq: [{id: x, type: u2le}]}" ∷
      codes "  t13: {seq: [{id: x, size: _parent._parent.n}]}" ∷
      codes "  t14: {seq: [{id: x, size: x}]}" ∷
      codes "  t15: {seq: [{id: x, size: 0, repeat: until, repeat-until: 1 == 2}]}" ∷
      codes "  t16: {seq: [{id: x, type: e, repeat: eos}]}" ∷
      codes "  t17: {seq: [{id: x, type: u1, repeat: expr, repeat-expr: 1048576}]}" ∷
      codes "  e: {}" ∷
      [];
  file = 0xff ∷ 0x00 ∷ 0x02 ∷ 0x80 ∷ 0x01 ∷ 0x00 ∷ 0x00 ∷ 0x00 ∷ [];
  input = text_of_lines (
      codes "get /o0/x" ∷
      codes "get /o1/x" ∷
      codes "get /o2/x" ∷
      codes "get /o3/x" ∷
      codes "get /o4/x" ∷
      codes "get /o5/x" ∷
      codes "get /o6/x" ∷
      codes "get /o7/x" ∷
      codes "get /o8/x" ∷
      codes "get /o9/x" ∷
      codes "get /o10/x" ∷
      codes "get /o11/x" ∷
      codes "get /o12/x" ∷
      codes "get /o13/x" ∷
      codes "get /o14/x" ∷
      codes "get /o15/x" ∷
      codes "get /o16/x" ∷
      codes "get /o0/n" ∷
      codes "get /o5/x/0" ∷
      codes "get /o17/x/0" ∷
      []);
  output = text_of_lines (
      codes "fault zero-divisor at /o0/x" ∷
      codes "fault overflow at /o1/x" ∷
      codes "fault bad-type at /o2/x" ∷
      codes "fault bad-size at /o3/x" ∷
      codes "fault bad-number at /o4/x" ∷
      codes "fault too-many at /o5/x" ∷
      codes "fault no-bytes at /o6/x/0" ∷
      codes "fault contents at /o7/x" ∷
      codes "fault bad-text at /o8/x" ∷
      codes "fault no-terminator at /o9/x" ∷
      codes "fault absent at /o10/x" ∷
      codes "fault bad-index at /o11/x" ∷
      codes "fault end-of-bytes at /o12/x" ∷
      codes "fault no-parent at /o13/x" ∷
      codes "fault circle at /o14/x" ∷
      codes "fault no-bytes at /o15/x/0" ∷
      codes "fault no-bytes at /o16/x/0" ∷
      codes "fault no-such at /o0/n" ∷
      codes "fault too-many at /o5/x" ∷
      codes "fault end-of-bytes at /o17/x/0" ∷
      []);
  left = 0xff ∷ 0x00 ∷ 0x02 ∷ 0x80 ∷ 0x01 ∷ 0x00 ∷ 0x00 ∷ 0x00 ∷ [];
  ended = false;
}

-- an object within itself, of which paths have 64 steps at most
abbrev pub too_deep : Dialogue
too_deep = record {
  lines =
      codes "meta: {id: t}" ∷
      codes "seq: [{id: x, type: t}, {id: y, type: u1}]" ∷
      [];
  file = [];
  input = text_of_lines (
      codes "get /x" ∷
      codes "get /y" ∷
      codes "get /x/x/x/x/x/x/x/x/x/x/x/x/x/x/x/x/x/x/x/x/x/x/x/x/x/x/x/x/x/x/x/x/x/x/x/x/x/x/x/x/x/x/x/x/x/x/x/x/x/x/x/x/x/x/x/x/x/x/x/x/x/x/x/x" ∷
      codes "get /x/x/x/x/x/x/x/x/x/x/x/x/x/x/x/x/x/x/x/x/x/x/x/x/x/x/x/x/x/x/x/x/x/x/x/x/x/x/x/x/x/x/x/x/x/x/x/x/x/x/x/x/x/x/x/x/x/x/x/x/x/x/x/x/x" ∷
      []);
  output = text_of_lines (
      codes "object t" ∷
      codes "fault path-too-long at /x/x/x/x/x/x/x/x/x/x/x/x/x/x/x/x/x/x/x/x/x/x/x/x/x/x/x/x/x/x/x/x/x/x/x/x/x/x/x/x/x/x/x/x/x/x/x/x/x/x/x/x/x/x/x/x/x/x/x/x/x/x/x/x" ∷
      codes "object t" ∷
      codes "error: bad path" ∷
      []);
  left = [];
  ended = false;
}

-- line ends of two bytes, lines of 4,096 and of 4,097 bytes, and a last line without its end
abbrev pub line_ends : Dialogue
line_ends = record {
  lines =
      codes "meta: {id: a}" ∷
      codes "seq: [{id: e, size: 0}]" ∷
      [];
  file = 0x07 ∷ [];
  input = codes "size\r\n\t size \n" ++ codes "size" ++ replicate 4092 32 ++ codes "\nsize" ++ replicate 4093 32 ++ codes "\nget /e\nsize";
  output = codes "size 1\nsize 1\nsize 1\nerror: line too long\nhex \nsize 1\n";
  left = 0x07 ∷ [];
  ended = false;
}

-- elements, bytes, members of enums and places in expressions
abbrev pub places : Dialogue
places = record {
  lines =
      codes "meta: {id: a}" ∷
      codes "seq:" ∷
      codes "  - {id: magic, size: 2}" ∷
      codes "  - {id: xs, type: u1, repeat: expr, repeat-expr: 3}" ∷
      codes "  - {id: k, type: u1, enum: animal}" ∷
      codes "  - {id: p0, size: xs.size - 1}" ∷
      codes "  - {id: p1, size: xs.first}" ∷
      codes "  - {id: p2, size: 'xs.last - xs[1]'}" ∷
      codes "  - {id: p3, size: 'magic[1] - 0x40'}" ∷
      codes "  - {id: p4, size: magic.length - 2}" ∷
      codes "  - {id: p5, size: k.to_i - 3}" ∷
      codes "  - {id: p6, size: 1, if: 'k == animal::cat'}" ∷
      codes "  - {id: p7, size: 1, if: 'k == animal::dog'}" ∷
      codes "  - {id: p8, size: _io.pos - 13}" ∷
      codes "  - {id: p9, size: 1, if: not _io.eof}" ∷
      codes "  - {id: p10, size: 0, if: _io.eof}" ∷
      codes "  - {id: p11, size: 0, if: not _io.eof}" ∷
      codes "  - {id: p12, size: 0, if: 'magic.to_s(\"ASCII\") == \"AB\"'}" ∷
      codes "  - {id: p13, size: 'p3[1] - 0xff'}" ∷
      codes "  - {id: o, type: o, size: 0}" ∷
      codes "  - {id: p14, size: 'xs[3]'}" ∷
      codes "enums: {animal: {4: cat, 5: dog}}" ∷
      codes "types: {o: {seq: [{id: p, size: '_root.p3[2]'}]}}" ∷
      [];
  file = 0x41 ∷ 0x42 ∷ 0x01 ∷ 0x02 ∷ 0x03 ∷ 0x04 ∷ 0xaa ∷ 0xbb ∷ 0xcc ∷ 0xdd ∷ 0xee ∷ 0xff ∷ 0x11 ∷ 0x12 ∷ 0x13 ∷ 0x14 ∷ [];
  input = text_of_lines (
      codes "get /p0" ∷
      codes "get /p1" ∷
      codes "get /p2" ∷
      codes "get /p3" ∷
      codes "get /p4" ∷
      codes "get /p5" ∷
      codes "get /p6" ∷
      codes "get /p7" ∷
      codes "get /p8" ∷
      codes "get /p9" ∷
      codes "get /p10" ∷
      codes "get /p11" ∷
      codes "get /p12" ∷
      codes "get /p13" ∷
      codes "get /o/p" ∷
      codes "get /p14" ∷
      []);
  output = text_of_lines (
      codes "hex aabb" ∷
      codes "hex cc" ∷
      codes "hex dd" ∷
      codes "hex eeff" ∷
      codes "hex " ∷
      codes "hex 11" ∷
      codes "hex 12" ∷
      codes "fault absent at /p7" ∷
      codes "hex 13" ∷
      codes "hex 14" ∷
      codes "hex " ∷
      codes "fault absent at /p11" ∷
      codes "hex " ∷
      codes "hex " ∷
      codes "fault bad-index at /o/p" ∷
      codes "fault bad-index at /xs/3" ∷
      []);
  left = 0x41 ∷ 0x42 ∷ 0x01 ∷ 0x02 ∷ 0x03 ∷ 0x04 ∷ 0xaa ∷ 0xbb ∷ 0xcc ∷ 0xdd ∷ 0xee ∷ 0xff ∷ 0x11 ∷ 0x12 ∷ 0x13 ∷ 0x14 ∷ [];
  ended = false;
}

-- the example of the README
abbrev pub first : Dialogue
first = record {
  lines =
      codes "meta:" ∷
      codes "  id: p" ∷
      codes "seq:" ∷
      codes "  - id: a" ∷
      codes "    type: u1" ∷
      codes "  - id: b" ∷
      codes "    type: s2le" ∷
      [];
  file = 0x07 ∷ 0xfe ∷ 0xff ∷ [];
  input = text_of_lines (
      codes "# the first field, and the second: two bytes, the lower one first" ∷
      codes "get /a" ∷
      codes "get /b" ∷
      codes "# write over the second field, and ask again" ∷
      codes "set 1 0080" ∷
      codes "get /b" ∷
      codes "# a byte more at the end" ∷
      codes "app 01" ∷
      codes "size" ∷
      codes "get /" ∷
      codes "quit" ∷
      []);
  output = text_of_lines (
      codes "7" ∷
      codes "-2" ∷
      codes "ok 3" ∷
      codes "-32768" ∷
      codes "ok 4" ∷
      codes "size 4" ∷
      codes "object p" ∷
      codes "bye" ∷
      []);
  left = 0x07 ∷ 0x00 ∷ 0x80 ∷ 0x01 ∷ [];
  ended = true;
}

-- the header of a bitmap of 2 by 2 pixels
abbrev pub bitmap : Dialogue
bitmap = record {
  lines =
      codes "meta:" ∷
      codes "  id: bmp" ∷
      codes "  endian: le" ∷
      codes "seq:" ∷
      codes "  - id: magic" ∷
      codes "    type: u2" ∷
      codes "  - id: file_size" ∷
      codes "    type: u4" ∷
      codes "  - id: reserved1" ∷
      codes "    type: u2" ∷
      codes "  - id: reserved2" ∷
      codes "    type: u2" ∷
      codes "  - id: pixels_at" ∷
      codes "    type: u4" ∷
      codes "  - id: header_size" ∷
      codes "    type: u4" ∷
      codes "  - id: width" ∷
      codes "    type: s4" ∷
      codes "  - id: height" ∷
      codes "    type: s4" ∷
      codes "  - id: planes" ∷
      codes "    type: u2" ∷
      codes "  - id: bits_per_pixel" ∷
      codes "    type: u2" ∷
      codes "  - id: compression" ∷
      codes "    type: u4" ∷
      codes "  - id: image_size" ∷
      codes "    type: u4" ∷
      codes "  - id: x_per_meter" ∷
      codes "    type: s4" ∷
      codes "  - id: y_per_meter" ∷
      codes "    type: s4" ∷
      codes "  - id: colors" ∷
      codes "    type: u4" ∷
      codes "  - id: important" ∷
      codes "    type: u4" ∷
      [];
  file = 0x42 ∷ 0x4d ∷ 0x46 ∷ 0x00 ∷ 0x00 ∷ 0x00 ∷ 0x00 ∷ 0x00 ∷ 0x00 ∷ 0x00 ∷ 0x36 ∷ 0x00 ∷ 0x00 ∷ 0x00 ∷ 0x28 ∷ 0x00 ∷ 0x00 ∷ 0x00 ∷ 0x02 ∷ 0x00 ∷ 0x00 ∷ 0x00 ∷ 0xfe ∷ 0xff ∷ 0xff ∷ 0xff ∷ 0x01 ∷ 0x00 ∷ 0x18 ∷ 0x00 ∷ 0x00 ∷ 0x00 ∷ 0x00 ∷ 0x00 ∷ 0x10 ∷ 0x00 ∷ 0x00 ∷ 0x00 ∷ 0x13 ∷ 0x0b ∷ 0x00 ∷ 0x00 ∷ 0x13 ∷ 0x0b ∷ 0x00 ∷ 0x00 ∷ 0x00 ∷ 0x00 ∷ 0x00 ∷ 0x00 ∷ 0x00 ∷ 0x00 ∷ 0x00 ∷ 0x00 ∷ 0x00 ∷ 0x00 ∷ 0xff ∷ 0x00 ∷ 0xff ∷ 0x00 ∷ 0x00 ∷ 0x00 ∷ 0xff ∷ 0x00 ∷ 0x00 ∷ 0xff ∷ 0xff ∷ 0xff ∷ 0x00 ∷ 0x00 ∷ [];
  input = text_of_lines (
      codes "# the header of a bitmap of 2 by 2 pixels: \"BM\" is 19778 in little endian" ∷
      codes "get /magic" ∷
      codes "get /file_size" ∷
      codes "get /pixels_at" ∷
      codes "get /width" ∷
      codes "# a negative height says that the rows stand from the top down" ∷
      codes "get /height" ∷
      codes "get /bits_per_pixel" ∷
      codes "# the file holds as many bytes as its header says" ∷
      codes "size" ∷
      codes "# turn the rows over" ∷
      codes "set 22 02000000" ∷
      codes "get /height" ∷
      codes "# a path into a number leads nowhere" ∷
      codes "get /height/0" ∷
      codes "set 70 00" ∷
      codes "get /colours" ∷
      codes "quit" ∷
      []);
  output = text_of_lines (
      codes "19778" ∷
      codes "70" ∷
      codes "54" ∷
      codes "2" ∷
      codes "-2" ∷
      codes "24" ∷
      codes "size 70" ∷
      codes "ok 70" ∷
      codes "2" ∷
      codes "fault no-such at /height/0" ∷
      codes "error: outside" ∷
      codes "error: bad path" ∷
      codes "bye" ∷
      []);
  left = 0x42 ∷ 0x4d ∷ 0x46 ∷ 0x00 ∷ 0x00 ∷ 0x00 ∷ 0x00 ∷ 0x00 ∷ 0x00 ∷ 0x00 ∷ 0x36 ∷ 0x00 ∷ 0x00 ∷ 0x00 ∷ 0x28 ∷ 0x00 ∷ 0x00 ∷ 0x00 ∷ 0x02 ∷ 0x00 ∷ 0x00 ∷ 0x00 ∷ 0x02 ∷ 0x00 ∷ 0x00 ∷ 0x00 ∷ 0x01 ∷ 0x00 ∷ 0x18 ∷ 0x00 ∷ 0x00 ∷ 0x00 ∷ 0x00 ∷ 0x00 ∷ 0x10 ∷ 0x00 ∷ 0x00 ∷ 0x00 ∷ 0x13 ∷ 0x0b ∷ 0x00 ∷ 0x00 ∷ 0x13 ∷ 0x0b ∷ 0x00 ∷ 0x00 ∷ 0x00 ∷ 0x00 ∷ 0x00 ∷ 0x00 ∷ 0x00 ∷ 0x00 ∷ 0x00 ∷ 0x00 ∷ 0x00 ∷ 0x00 ∷ 0xff ∷ 0x00 ∷ 0xff ∷ 0x00 ∷ 0x00 ∷ 0x00 ∷ 0xff ∷ 0x00 ∷ 0x00 ∷ 0xff ∷ 0xff ∷ 0xff ∷ 0x00 ∷ 0x00 ∷ [];
  ended = true;
}

-- a picture of 2 by 3 pixels in PNG, up to its first chunk
abbrev pub picture : Dialogue
picture = record {
  lines =
      codes "meta:" ∷
      codes "  id: png" ∷
      codes "  endian: be" ∷
      codes "  encoding: ASCII" ∷
      codes "seq:" ∷
      codes "  - id: magic" ∷
      codes "    contents: [137, 80, 78, 71, 13, 10, 26, 10]" ∷
      codes "  - id: header_len" ∷
      codes "    type: u4" ∷
      codes "  - id: header_type" ∷
      codes "    contents: IHDR" ∷
      codes "  - id: header" ∷
      codes "    type: header" ∷
      codes "  - id: header_crc" ∷
      codes "    type: u4" ∷
      codes "  - id: chunks" ∷
      codes "    type: chunk" ∷
      codes "    repeat: until" ∷
      codes "    repeat-until: _.type == \"IEND\"" ∷
      codes "types:" ∷
      codes "  header:" ∷
      codes "    seq:" ∷
      codes "      - {id: width, type: u4}" ∷
      codes "      - {id: height, type: u4}" ∷
      codes "      - {id: bits, type: u1}" ∷
      codes "      - {id: color, type: u1, enum: color}" ∷
      codes "      - {id: compression, type: u1}" ∷
      codes "      - {id: filter, type: u1}" ∷
      codes "      - {id: interlaced, type: u1}" ∷
      codes "  chunk:" ∷
      codes "    seq:" ∷
      codes "      - id: len" ∷
      codes "        type: u4" ∷
      codes "      - id: type" ∷
      codes "        type: str" ∷
      codes "        size: 4" ∷
      codes "      - id: title" ∷
      codes "        type: strz" ∷
      codes "        if: type == \"tEXt\"" ∷
      codes "      - id: text" ∷
      codes "        type: str" ∷
      codes "        size: len - 6" ∷
      codes "        if: type == \"tEXt\"" ∷
      codes "      - id: body" ∷
      codes "        size: len" ∷
      codes "        if: type != \"tEXt\"" ∷
      codes "      - id: crc" ∷
      codes "        type: u4" ∷
      codes "enums:" ∷
      codes "  color: {0: greyscale, 2: truecolor, 3: indexed}" ∷
      [];
  file = 0x89 ∷ 0x50 ∷ 0x4e ∷ 0x47 ∷ 0x0d ∷ 0x0a ∷ 0x1a ∷ 0x0a ∷ 0x00 ∷ 0x00 ∷ 0x00 ∷ 0x0d ∷ 0x49 ∷ 0x48 ∷ 0x44 ∷ 0x52 ∷ 0x00 ∷ 0x00 ∷ 0x00 ∷ 0x02 ∷ 0x00 ∷ 0x00 ∷ 0x00 ∷ 0x03 ∷ 0x08 ∷ 0x02 ∷ 0x00 ∷ 0x00 ∷ 0x00 ∷ 0x36 ∷ 0x88 ∷ 0x49 ∷ 0xd6 ∷ 0x00 ∷ 0x00 ∷ 0x00 ∷ 0x09 ∷ 0x74 ∷ 0x45 ∷ 0x58 ∷ 0x74 ∷ 0x54 ∷ 0x69 ∷ 0x74 ∷ 0x6c ∷ 0x65 ∷ 0x00 ∷ 0x6b ∷ 0x73 ∷ 0x76 ∷ 0xcf ∷ 0x09 ∷ 0x3b ∷ 0xc0 ∷ 0x00 ∷ 0x00 ∷ 0x00 ∷ 0x18 ∷ 0x49 ∷ 0x44 ∷ 0x41 ∷ 0x54 ∷ 0x78 ∷ 0x9c ∷ 0x63 ∷ 0xd0 ∷ 0x60 ∷ 0x62 ∷ 0x07 ∷ 0x22 ∷ 0x86 ∷ 0x0a ∷ 0x16 ∷ 0x76 ∷ 0x20 ∷ 0x62 ∷ 0x38 ∷ 0xc1 ∷ 0xc6 ∷ 0x0e ∷ 0x44 ∷ 0x00 ∷ 0x1a ∷ 0x00 ∷ 0x03 ∷ 0x13 ∷ 0x7b ∷ 0x51 ∷ 0x0d ∷ 0x40 ∷ 0x00 ∷ 0x00 ∷ 0x00 ∷ 0x00 ∷ 0x49 ∷ 0x45 ∷ 0x4e ∷ 0x44 ∷ 0xae ∷ 0x42 ∷ 0x60 ∷ 0x82 ∷ [];
  input = text_of_lines (
      codes "get /header" ∷
      codes "get /header/width" ∷
      codes "get /header/height" ∷
      codes "get /header/color" ∷
      codes "get /header_crc" ∷
      codes "get /chunks/0/type" ∷
      codes "get /chunks/0/title" ∷
      codes "get /chunks/0/text" ∷
      codes "get /chunks/0/body" ∷
      codes "set 16 00010000" ∷
      codes "get /header/width" ∷
      []);
  output = text_of_lines (
      codes "object header" ∷
      codes "2" ∷
      codes "3" ∷
      codes "color::truecolor (2)" ∷
      codes "914901462" ∷
      codes "\"tEXt\"" ∷
      codes "\"Title\"" ∷
      codes "\"ksv\"" ∷
      codes "fault absent at /chunks/0/body" ∷
      codes "ok 102" ∷
      codes "65536" ∷
      []);
  left = 0x89 ∷ 0x50 ∷ 0x4e ∷ 0x47 ∷ 0x0d ∷ 0x0a ∷ 0x1a ∷ 0x0a ∷ 0x00 ∷ 0x00 ∷ 0x00 ∷ 0x0d ∷ 0x49 ∷ 0x48 ∷ 0x44 ∷ 0x52 ∷ 0x00 ∷ 0x01 ∷ 0x00 ∷ 0x00 ∷ 0x00 ∷ 0x00 ∷ 0x00 ∷ 0x03 ∷ 0x08 ∷ 0x02 ∷ 0x00 ∷ 0x00 ∷ 0x00 ∷ 0x36 ∷ 0x88 ∷ 0x49 ∷ 0xd6 ∷ 0x00 ∷ 0x00 ∷ 0x00 ∷ 0x09 ∷ 0x74 ∷ 0x45 ∷ 0x58 ∷ 0x74 ∷ 0x54 ∷ 0x69 ∷ 0x74 ∷ 0x6c ∷ 0x65 ∷ 0x00 ∷ 0x6b ∷ 0x73 ∷ 0x76 ∷ 0xcf ∷ 0x09 ∷ 0x3b ∷ 0xc0 ∷ 0x00 ∷ 0x00 ∷ 0x00 ∷ 0x18 ∷ 0x49 ∷ 0x44 ∷ 0x41 ∷ 0x54 ∷ 0x78 ∷ 0x9c ∷ 0x63 ∷ 0xd0 ∷ 0x60 ∷ 0x62 ∷ 0x07 ∷ 0x22 ∷ 0x86 ∷ 0x0a ∷ 0x16 ∷ 0x76 ∷ 0x20 ∷ 0x62 ∷ 0x38 ∷ 0xc1 ∷ 0xc6 ∷ 0x0e ∷ 0x44 ∷ 0x00 ∷ 0x1a ∷ 0x00 ∷ 0x03 ∷ 0x13 ∷ 0x7b ∷ 0x51 ∷ 0x0d ∷ 0x40 ∷ 0x00 ∷ 0x00 ∷ 0x00 ∷ 0x00 ∷ 0x49 ∷ 0x45 ∷ 0x4e ∷ 0x44 ∷ 0xae ∷ 0x42 ∷ 0x60 ∷ 0x82 ∷ [];
  ended = false;
}

-- a value instance, and a parse instance at a position
abbrev pub instances : Dialogue
instances = record {
  lines =
      codes "meta:" ∷
      codes "  id: k" ∷
      codes "seq:" ∷
      codes "  - id: magic" ∷
      codes "    contents: [0x4b, 0x53]" ∷
      codes "  - id: n" ∷
      codes "    type: u1" ∷
      codes "  - id: items" ∷
      codes "    type: item" ∷
      codes "    repeat: expr" ∷
      codes "    repeat-expr: n" ∷
      codes "types:" ∷
      codes "  item:" ∷
      codes "    seq:" ∷
      codes "      - id: len" ∷
      codes "        type: u1" ∷
      codes "      - id: body" ∷
      codes "        size: len" ∷
      codes "instances:" ∷
      codes "  first:" ∷
      codes "    value: items[0].len" ∷
      codes "  last:" ∷
      codes "    pos: _io.size - 1" ∷
      codes "    type: u1" ∷
      [];
  file = 0x4b ∷ 0x53 ∷ 0x02 ∷ 0x01 ∷ 0xaa ∷ 0x02 ∷ 0xbb ∷ 0xcc ∷ [];
  input = text_of_lines (
      codes "get /items/1/body" ∷
      codes "get /last" ∷
      codes "get /first" ∷
      codes "get /first/0" ∷
      codes "set 3 02" ∷
      codes "get /items/1/body" ∷
      codes "get /first" ∷
      codes "set 3 01" ∷
      codes "get /items/1/body" ∷
      codes "app 07" ∷
      codes "get /last" ∷
      []);
  output = text_of_lines (
      codes "hex bbcc" ∷
      codes "204" ∷
      codes "1" ∷
      codes "fault no-such at /first/0" ∷
      codes "ok 8" ∷
      codes "fault end-of-bytes at /items/1/body" ∷
      codes "2" ∷
      codes "ok 8" ∷
      codes "hex bbcc" ∷
      codes "ok 9" ∷
      codes "7" ∷
      []);
  left = 0x4b ∷ 0x53 ∷ 0x02 ∷ 0x01 ∷ 0xaa ∷ 0x02 ∷ 0xbb ∷ 0xcc ∷ 0x07 ∷ [];
  ended = false;
}

-- instances in the stream of another object, and an object's reach over the one that holds it
abbrev pub windows : Dialogue
windows = record {
  lines =
      codes "meta:" ∷
      codes "  id: w" ∷
      codes "seq:" ∷
      codes "  - id: blk" ∷
      codes "    type: body" ∷
      codes "    size: 3" ∷
      codes "  - id: z" ∷
      codes "    type: u1" ∷
      codes "instances:" ∷
      codes "  p:" ∷
      codes "    io: blk._io" ∷
      codes "    pos: 1" ∷
      codes "    type: u1" ∷
      codes "  r:" ∷
      codes "    io: blk._io" ∷
      codes "    pos: 3" ∷
      codes "    type: u1" ∷
      codes "  f:" ∷
      codes "    pos: 3" ∷
      codes "    type: u1" ∷
      codes "  low:" ∷
      codes "    pos: 0 - 1" ∷
      codes "    type: u1" ∷
      codes "  no:" ∷
      codes "    if: z == 0" ∷
      codes "    pos: 0" ∷
      codes "    type: u1" ∷
      codes "types:" ∷
      codes "  body:" ∷
      codes "    seq:" ∷
      codes "      - id: c" ∷
      codes "        type: u1" ∷
      codes "    instances:" ∷
      codes "      q:" ∷
      codes "        value: _parent.z + 1" ∷
      codes "      t:" ∷
      codes "        pos: 2" ∷
      codes "        size-eos: true" ∷
      [];
  file = 0x0a ∷ 0x0b ∷ 0x0c ∷ 0x0d ∷ [];
  input = text_of_lines (
      codes "get /p" ∷
      codes "get /r" ∷
      codes "get /f" ∷
      codes "get /blk/q" ∷
      codes "get /blk/t" ∷
      codes "get /low" ∷
      codes "get /no" ∷
      codes "set 3 00" ∷
      codes "get /no" ∷
      []);
  output = text_of_lines (
      codes "11" ∷
      codes "fault end-of-bytes at /r" ∷
      codes "13" ∷
      codes "14" ∷
      codes "hex 0c" ∷
      codes "fault bad-size at /low" ∷
      codes "fault absent at /no" ∷
      codes "ok 4" ∷
      codes "10" ∷
      []);
  left = 0x0a ∷ 0x0b ∷ 0x0c ∷ 0x00 ∷ [];
  ended = false;
}

-- parameters, whose arguments are evaluated where the elements are read
abbrev pub parameters : Dialogue
parameters = record {
  lines =
      codes "meta:" ∷
      codes "  id: a" ∷
      codes "seq:" ∷
      codes "  - id: xs" ∷
      codes "    type: t(_index)" ∷
      codes "    repeat: expr" ∷
      codes "    repeat-expr: 3" ∷
      codes "types:" ∷
      codes "  t:" ∷
      codes "    params:" ∷
      codes "      - id: i" ∷
      codes "    instances:" ∷
      codes "      v:" ∷
      codes "        value: i * 10" ∷
      [];
  file = [];
  input = text_of_lines (
      codes "get /xs" ∷
      codes "get /xs/2/v" ∷
      codes "get /xs/1/i" ∷
      codes "get /xs/3" ∷
      []);
  output = text_of_lines (
      codes "[3]" ∷
      codes "20" ∷
      codes "1" ∷
      codes "fault bad-index at /xs/3" ∷
      []);
  left = [];
  ended = false;
}

-- a switch; without a case there is nothing
abbrev pub chosen : Dialogue
chosen = record {
  lines =
      codes "meta:" ∷
      codes "  id: a" ∷
      codes "  endian: be" ∷
      codes "seq:" ∷
      codes "  - id: t" ∷
      codes "    type: u1" ∷
      codes "  - id: b" ∷
      codes "    type:" ∷
      codes "      switch-on: t" ∷
      codes "      cases:" ∷
      codes "        1: u1" ∷
      codes "        2: u2" ∷
      codes "  - id: c" ∷
      codes "    size: 0" ∷
      codes "    type:" ∷
      codes "      switch-on: t" ∷
      codes "      cases:" ∷
      codes "        3: e" ∷
      codes "types:" ∷
      codes "  e: {}" ∷
      [];
  file = 0x03 ∷ [];
  input = text_of_lines (
      codes "get /b" ∷
      codes "get /c" ∷
      codes "set 0 01" ∷
      codes "get /b" ∷
      codes "app 07" ∷
      codes "get /b" ∷
      codes "get /c" ∷
      codes "set 0 02" ∷
      codes "get /b" ∷
      codes "app 01" ∷
      codes "get /b" ∷
      []);
  output = text_of_lines (
      codes "fault absent at /b" ∷
      codes "object e" ∷
      codes "ok 1" ∷
      codes "fault end-of-bytes at /b" ∷
      codes "ok 2" ∷
      codes "7" ∷
      codes "hex " ∷
      codes "ok 2" ∷
      codes "fault end-of-bytes at /b" ∷
      codes "ok 3" ∷
      codes "1793" ∷
      []);
  left = 0x02 ∷ 0x07 ∷ 0x01 ∷ [];
  ended = false;
}

-- instances that need each other
abbrev pub led_back : Dialogue
led_back = record {
  lines =
      codes "meta:" ∷
      codes "  id: a" ∷
      codes "instances:" ∷
      codes "  a:" ∷
      codes "    value: b" ∷
      codes "  b:" ∷
      codes "    value: a" ∷
      [];
  file = [];
  input = text_of_lines (
      codes "get /b" ∷
      codes "get /a" ∷
      codes "get /b" ∷
      []);
  output = text_of_lines (
      codes "fault circle at /b" ∷
      codes "fault circle at /a" ∷
      codes "fault circle at /b" ∷
      []);
  left = [];
  ended = false;
}

-- values that are checked: one of two, whose second condition is a fault; an object by its field; elements, and not their list; and
-- what is calculated, whose own value is a fault where that of the object is one
abbrev pub invalid : Dialogue
invalid = record {
  lines =
      codes "meta: {id: t}" ∷
      codes "seq:" ∷
      codes "  - {id: k, type: u1, valid: {any-of: [1, 1 / 0]}}" ∷
      codes "  - {id: o, type: inner, valid: {expr: _.x == 7}}" ∷
      codes "  - {id: xs, type: u1, repeat: eos, valid: {expr: _ == _index}}" ∷
      codes "instances: {v: {value: o.x, valid: {min: 8}}}" ∷
      codes "types: {inner: {seq: [{id: x, type: u1}]}}" ∷
      [];
  file = 0x01 ∷ 0x07 ∷ 0x00 ∷ 0x05 ∷ [];
  input = text_of_lines (
      codes "get /k" ∷
      codes "get /o" ∷
      codes "get /xs/0" ∷
      codes "get /xs/1" ∷
      codes "get /xs" ∷
      codes "dump /xs" ∷
      codes "get /v" ∷
      codes "set 0 02" ∷
      codes "get /k" ∷
      codes "put /k 1" ∷
      codes "set 1 08" ∷
      codes "get /o" ∷
      codes "get /o/x" ∷
      codes "get /v" ∷
      []);
  output = text_of_lines (
      codes "1" ∷
      codes "object inner" ∷
      codes "0" ∷
      codes "fault invalid at /xs/1" ∷
      codes "[2]" ∷
      codes "[0,{\"fault\":\"invalid at /xs/1\"}]" ∷
      codes "fault invalid at /v" ∷
      codes "ok 4" ∷
      codes "fault zero-divisor at /k" ∷
      codes "ok 4" ∷
      codes "ok 4" ∷
      codes "fault invalid at /o" ∷
      codes "8" ∷
      codes "fault invalid at /o" ∷
      []);
  left = 0x01 ∷ 0x08 ∷ 0x00 ∷ 0x05 ∷ [];
  ended = false;
}

-- fields of bits: one after the other within bytes, what comes after them at the next byte, objects that end at one, and a number written
-- among other bits
abbrev pub packed : Dialogue
packed = record {
  lines =
      codes "meta: {id: t}" ∷
      codes "seq:" ∷
      codes "  - {id: f, type: b3}" ∷
      codes "  - {id: on, type: b1}" ∷
      codes "  - {id: x, type: b12}" ∷
      codes "  - {id: k, type: b3, enum: e}" ∷
      codes "  - {id: z, type: u1}" ∷
      codes "  - {id: ts, type: u, repeat: expr, repeat-expr: 2}" ∷
      codes "  - {id: ns, type: b4, repeat: eos}" ∷
      codes "types: {u: {seq: [{id: h, type: b3}]}}" ∷
      codes "enums: {e: {5: five}}" ∷
      [];
  file = 0xba ∷ 0xbc ∷ 0xa0 ∷ 0x07 ∷ 0x20 ∷ 0x40 ∷ 0xf1 ∷ [];
  input = text_of_lines (
      codes "get /f" ∷
      codes "get /on" ∷
      codes "get /x" ∷
      codes "at /x" ∷
      codes "get /k" ∷
      codes "at /k" ∷
      codes "get /z" ∷
      codes "at /z" ∷
      codes "at /ts/0" ∷
      codes "get /ts/1/h" ∷
      codes "at /ts/1/h" ∷
      codes "get /ns" ∷
      codes "get /ns/1" ∷
      codes "at /ns/0" ∷
      codes "put /x 4095" ∷
      codes "get /f" ∷
      codes "get /on" ∷
      codes "bytes 0 3" ∷
      codes "put /on 0" ∷
      codes "put /k 8" ∷
      codes "put /k 0" ∷
      codes "get /k" ∷
      codes "dump /" ∷
      []);
  output = text_of_lines (
      codes "5" ∷
      codes "true" ∷
      codes "2748" ∷
      codes "at 0.4 2" ∷
      codes "e::five (5)" ∷
      codes "at 2 2.3" ∷
      codes "7" ∷
      codes "at 3 4" ∷
      codes "at 4 5" ∷
      codes "2" ∷
      codes "at 5 5.3" ∷
      codes "[2]" ∷
      codes "1" ∷
      codes "at 6 6.4" ∷
      codes "ok 7" ∷
      codes "5" ∷
      codes "true" ∷
      codes "hex bfffa0" ∷
      codes "error: not an integer" ∷
      codes "error: out of range" ∷
      codes "ok 7" ∷
      codes "e::? (0)" ∷
      codes "{\"f\":5,\"k\":{\"enum\":\"e::?\",\"value\":0},\"ns\":[15,1],\"on\":true,\"ts\":[{\"h\":1},{\"h\":2}],\"x\":4095,\"z\":7}" ∷
      []);
  left = 0xbf ∷ 0xff ∷ 0x00 ∷ 0x07 ∷ 0x20 ∷ 0x40 ∷ 0xf1 ∷ [];
  ended = false;
}

-- where things are and what they have, all of them, and an integer written over another
abbrev pub around : Dialogue
around = record {
  lines =
      codes "meta:" ∷
      codes "  id: k" ∷
      codes "  endian: be" ∷
      codes "seq:" ∷
      codes "  - id: n" ∷
      codes "    type: u1" ∷
      codes "  - id: items" ∷
      codes "    type: item" ∷
      codes "    repeat: expr" ∷
      codes "    repeat-expr: n" ∷
      codes "types:" ∷
      codes "  item:" ∷
      codes "    seq:" ∷
      codes "      - id: w" ∷
      codes "        type: s2" ∷
      codes "      - id: body" ∷
      codes "        size: 1" ∷
      [];
  file = 0x02 ∷ 0xff ∷ 0xfe ∷ 0xaa ∷ 0x00 ∷ 0x07 ∷ 0xbb ∷ [];
  input = text_of_lines (
      codes "at /" ∷
      codes "at /items" ∷
      codes "at /items/1/body" ∷
      codes "at /items/2" ∷
      codes "ls /" ∷
      codes "ls /items" ∷
      codes "ls /items/1" ∷
      codes "ls /n" ∷
      codes "dump /" ∷
      codes "dump /items/0/w" ∷
      codes "dump /items/2" ∷
      codes "put /items/0/w 513" ∷
      codes "put /items/1/w -2" ∷
      codes "put /items/1/w 32768" ∷
      codes "put /items/1/body 1" ∷
      codes "put /items 1" ∷
      codes "put /items/2/w 1" ∷
      codes "put /n 001" ∷
      codes "ls /items" ∷
      codes "put /n -1" ∷
      codes "put /n -0" ∷
      codes "put /n -" ∷
      codes "put /n 18446744073709551616" ∷
      codes "put x -" ∷
      codes "put /n" ∷
      codes "dump /items" ∷
      []);
  output = text_of_lines (
      codes "at 0 7" ∷
      codes "at 1 7" ∷
      codes "at 6 7" ∷
      codes "fault bad-index at /items/2" ∷
      codes "members n items" ∷
      codes "[2]" ∷
      codes "members w body" ∷
      codes "no members" ∷
      codes "{\"items\":[{\"body\":{\"hex\":\"aa\"},\"w\":-2},{\"body\":{\"hex\":\"bb\"},\"w\":7}],\"n\":2}" ∷
      codes "-2" ∷
      codes "fault bad-index at /items/2" ∷
      codes "ok 7" ∷
      codes "ok 7" ∷
      codes "error: out of range" ∷
      codes "error: not an integer" ∷
      codes "error: not an integer" ∷
      codes "fault bad-index at /items/2" ∷
      codes "ok 7" ∷
      codes "[1]" ∷
      codes "error: out of range" ∷
      codes "ok 7" ∷
      codes "error: bad number" ∷
      codes "error: bad number" ∷
      codes "error: bad path" ∷
      codes "error: wrong arguments" ∷
      codes "[]" ∷
      []);
  left = 0x00 ∷ 0x02 ∷ 0x01 ∷ 0xaa ∷ 0xff ∷ 0xfe ∷ 0xbb ∷ [];
  ended = false;
}

-- ---- lines that are refused memory

abbrev pub refused : List ℕ → Event
refused line = record { line = line; refused = true; tally = untold }

-- a question, a `put`, and an edit that is accepted otherwise may be refused memory; then nothing changes
abbrev pub refused_fairly : List Event
refused_fairly = refused (codes "get /") ∷ refused (codes "dump /") ∷ refused (codes "put / 1") ∷ refused (codes "app 02") ∷ spoken (codes "size" ∷ codes "app 03" ∷ [])

abbrev pub FairlyGo : Type 0
FairlyGo = (d : Description) → session d (1 ∷ []) refused_fairly ≡ record { bytes = 1 ∷ 3 ∷ []; output = text_of_lines (codes "error: no memory" ∷ codes "error: no memory" ∷ codes "error: no memory" ∷ codes "error: no memory" ∷ codes "size 1" ∷ codes "ok 2" ∷ []); ended = false; fair = true }

-- no other line may
abbrev pub refused_unfairly : List (List ℕ)
refused_unfairly = codes "size" ∷ codes "quit" ∷ codes "set 0 02" ∷ codes "app" ∷ codes "app zz" ∷ codes "get x" ∷ codes "put / x" ∷ codes "put x 1" ∷ codes "frob" ∷ codes "" ∷ []

abbrev pub AreUnfair : Type 0
AreUnfair = (d : Description) → AllByRecursion (λ line. (session d (1 ∷ []) (refused line ∷ [])).fair ≡ false) refused_unfairly
