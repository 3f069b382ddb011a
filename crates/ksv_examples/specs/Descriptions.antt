-- Descriptions worked out: texts with the line and the code for which each is refused, and texts with what they state.
use Rattle.std.specs.Prelude.{◌≡◌, ℕ, Bool, true, false, ◌==◌, ◌&&◌, List, [], ◌∷◌, ◌++◌, codes, Option, Some, None, is_some, is_none, refl, option_and_then}
use Rattle.std.specs.Prelude.{pos, negsuc}
use Rattle.std.specs.List.{list_all}
use Rattle.std.specs.Option.{option_map_or}
use Rattle.std.specs.Fmt.{digits}
use Rattle.std.specs.Str.{is_utf8, chars}
use lib.Utf8.{encode}
use Rattle.ksv_desc.specs.declared.order.ByteOrder.TheVariants as orders
use Rattle.ksv_expr_tree.specs.declared.tree.BinaryOperator.{BinaryOperator}
use Rattle.ksv_expr_tree.specs.declared.tree.BinaryOperator.TheVariants as binaries
use Rattle.ksv_expr_tree.specs.declared.tree.SpecialName.TheVariants as specials
use Rattle.ksv_expr_tree.specs.Tree.{Tree, Word, integer, literal, named, special, member, binary, field, index, no_arguments, argument}
use Rattle.ksv_expr_value.specs.declared.encoding.Encoding.TheVariants as encodings
use Rattle.ksv_yaml.specs.Text.{tree_of_text}
use Rattle.ksv_schema.specs.Description.{past, line_at}
use Rattle.ksv_schema.specs.Faults.{Fault}
use Rattle.ksv_expr_syntax.specs.Reading.{read, read_list, place_on, select_on}
use Rattle.ksv_schema_names.specs.Enums.{number_of, id_of, id_of_number, number_of_id}
use Rattle.ksv_schema_names.specs.Members.{members_at_key, members_of, members_within, parameters_within, member_named}
use Rattle.ksv_yaml_tree.specs.Numerals.{plain_number, signed_number}
use Rattle.ksv_schema_names.specs.Rows.{row_in, types_of}
use Rattle.ksv_schema_names.specs.Types.{keys_at, outer_of, from, nearest_row, type_named, enum_behind, order_of, encoding_of}
use Rattle.ksv_schema_names.specs.BuiltIn.{is_bits, built_in}
use Rattle.ksv_schema_names.specs.Names.{special_faults, special_field_faults, enum_at, is_member, cast_faults, is_call, name_faults, least, part_faults, list_faults}
use Rattle.ksv_schema_names.specs.Numbered.{given_member, numbered, all_numbered}
use Rattle.ksv_desc.specs.Names.{distinct, number_in, dotted, all_dotted}
use Rattle.ksv_schema.specs.Rules.{endian_faults, bit_endian_faults, form_faults, key_faults, against, ruled_faults, together}
use Rattle.ksv_schema.specs.Values.{of_expression, expression as read_expression, arguments as read_arguments, enumeration, item as read_item, contents as read_contents, order_at, encoding_at, of_type, of_case_key, case_value, case_against, case as read_case, switch as read_switch, typed as read_typed, choice as read_choice}
use Rattle.ksv_schema.specs.Valid.{alternative, alternatives, conditions, valid}
use Rattle.ksv_schema.specs.Members.{parts as read_parts, repeat_of, terminator_of, repeated, needs as read_needs, unsupported, field as read_field, attribute as read_attribute, parse_instance, value_instance, placeless, by_kind, member_keys, name_line, is_named_again, member as read_member}
use Rattle.ksv_schema.specs.Description.{entry_id, is_number_again, is_id_again, constant as read_constant, meta_faults, type_keys_faults, type_faults, line_past, members as read_members, all_members, all_enums, faults_of, faults, member_names, names_of, member_of, type_of as read_type_of, are_texts, described, stated_by, stated}
use Rattle.ksv_desc.specs.Description.{Description, Field, Bytes, Fixed, Number, Characters, Object, EnumValue, Always, Switch, Sized, ByItself, Once, Eos, Expr, AnyOf, AllOf, Parameter, Attribute, ParseInstance, ValueInstance, as_text}
use Rattle.ksv_schema.specs.Expressions.{tokens_of, expression_of, type_of as type_of_expressions}
use Rattle.ksv_schema.specs.Faults.{fault, over_limit, is_below, noted}
use Rattle.ksv_schema.specs.Keys.{form_among, form_in, is_ignored, is_id}
use Rattle.ksv_schema.specs.KeyTexts.{encoding_named, type_text, byte_number, byte_at, looks_like_number, piece_of, case_key, ids_of}

-- the lines of a text
abbrev pub text_of_lines : List (List ℕ) → List ℕ
text_of_lines [] = []
text_of_lines (line ∷ lines) = line ++ 10 ∷ text_of_lines lines

-- the least fault of the tree of a text, and the description that it states
unfoldable pub least_fault : List (List ℕ) → Option Fault
least_fault lines = option_and_then (λ t. noted None (faults t)) (tree_of_text (text_of_lines lines))

unfoldable pub description : List (List ℕ) → Option Description
description lines = option_and_then stated (tree_of_text (text_of_lines lines))

-- ---- texts that are refused

-- lines, and the line and code of the fault that is answered
pub record Row : Type 0 where
  pub lines : List (List ℕ)
  pub line : ℕ
  pub number : ℕ

abbrev row : List (List ℕ) → ℕ → ℕ → Row
row lines line number = record { lines = lines; line = line; number = number }

-- lines from 5 on, after `meta:`, `  id: a`, `seq:` and `  - id: x`
abbrev behind : List (List ℕ) → ℕ → ℕ → Row
behind lines line number = row (codes "meta:" ∷ codes "  id: a" ∷ codes "seq:" ∷ codes "  - id: x" ∷ lines) line number

abbrev refused_texts : List Row
refused_texts =
    -- a byte order is needed
    behind (codes "    type: u2" ∷ []) 5 5 ∷
    -- an unknown type
    behind (codes "    type: foo" ∷ []) 5 4 ∷
    -- a left-out type
    behind (codes "    type: f4" ∷ []) 5 8 ∷
    -- an unknown key
    behind (codes "    type: u1" ∷ codes "    bogus: 1" ∷ []) 6 1 ∷
    -- the lower line is answered
    behind (codes "    bogus: 1" ∷ []) 4 2 ∷
    -- a count is missing
    behind (codes "    type: u1" ∷ codes "    repeat: expr" ∷ []) 4 2 ∷
    -- no expression
    behind (codes "    size: 1 +" ∷ []) 5 10 ∷
    -- a parameter without its argument
    behind (codes "    type: t" ∷ codes "types:" ∷ codes "  t:" ∷ codes "    params:" ∷ codes "      - id: i" ∷ []) 5 7 ∷
    -- an argument too many
    behind (codes "    type: u1(1)" ∷ []) 5 7 ∷
    -- no type's text
    behind (codes "    type: Foo" ∷ []) 5 10 ∷
    -- bits whose lowest of a byte comes first are unsupported
    behind (codes "    type: b12le" ∷ []) 5 8 ∷
    -- no bits of 65, so a name
    behind (codes "    type: b65" ∷ []) 5 4 ∷
    -- a name in an argument
    behind (codes "    type: t(y)" ∷ codes "types:" ∷ codes "  t:" ∷ codes "    params:" ∷ codes "      - id: i" ∷ []) 5 4 ∷
    -- an inner type isn't seen from outside
    behind (codes "    type: u" ∷ codes "types:" ∷ codes "  t:" ∷ codes "    types:" ∷ codes "      u:" ∷ codes "        seq: []" ∷ []) 5 4 ∷
    -- no further outwards once the first name is found
    behind (codes "    type: t" ∷ codes "types:" ∷ codes "  t:" ∷ codes "    types:" ∷ codes "      t: {}" ∷ codes "    seq:" ∷ codes "      - id: y" ∷ codes "        type: t::u" ∷ codes "  u: {}" ∷ []) 12 4 ∷
    -- nested byte order only inwards
    behind (codes "    type: u2" ∷ codes "types:" ∷ codes "  t:" ∷ codes "    meta:" ∷ codes "      endian: le" ∷ codes "    seq: []" ∷ []) 5 5 ∷
    -- a byte order of another kind counts as none
    behind (codes "    type: t" ∷ codes "types:" ∷ codes "  t:" ∷ codes "    meta:" ∷ codes "      endian: ex" ∷ codes "    seq:" ∷ codes "      - id: y" ∷ codes "        type: s4" ∷ []) 9 6 ∷
    -- a size of an integer
    behind (codes "    size: 1" ∷ codes "    type: u1" ∷ []) 5 3 ∷
    -- size and size-eos
    behind (codes "    size-eos: true" ∷ codes "    size: 1" ∷ []) 5 3 ∷
    -- size-eos: false says nothing
    behind (codes "    size-eos: false" ∷ []) 4 2 ∷
    -- contents and a type
    behind (codes "    contents: ab" ∷ codes "    type: u1" ∷ []) 5 3 ∷
    -- repeat-expr alone
    behind (codes "    size: 1" ∷ codes "    repeat: eos" ∷ codes "    repeat-expr: 2" ∷ []) 7 3 ∷
    -- enum of bytes
    behind (codes "    size: 1" ∷ codes "    enum: e" ∷ codes "enums:" ∷ codes "  e:" ∷ codes "    1: o" ∷ []) 6 3 ∷
    -- an unknown enum
    behind (codes "    type: u1" ∷ codes "    enum: e" ∷ []) 6 4 ∷
    -- an enum that isn't ids
    behind (codes "    type: u1" ∷ codes "    enum: E" ∷ []) 6 6 ∷
    -- a text without its end
    behind (codes "    type: str" ∷ codes "    encoding: ASCII" ∷ []) 4 2 ∷
    -- a text without encoding
    behind (codes "    type: strz" ∷ []) 4 2 ∷
    -- another encoding
    behind (codes "    type: strz" ∷ codes "    encoding: utf-16le" ∷ []) 6 8 ∷
    -- another terminator of strz
    behind (codes "    type: strz" ∷ codes "    encoding: utf-8" ∷ codes "    terminator: 1" ∷ []) 7 8 ∷
    -- a terminator of an object
    behind (codes "    type: t" ∷ codes "    terminator: 1" ∷ codes "types:" ∷ codes "  t: {}" ∷ []) 6 8 ∷
    -- a terminator of an unknown type, which is at fault alone
    behind (codes "    terminator: 1" ∷ codes "    type: t" ∷ []) 6 4 ∷
    -- a terminator with a leading zero
    behind (codes "    terminator: 01" ∷ []) 5 8 ∷
    -- a terminator over a byte
    behind (codes "    terminator: 0x100" ∷ []) 5 6 ∷
    -- a flag of another text
    behind (codes "    size-eos: maybe" ∷ []) 4 2 ∷
    -- a plain number alone
    behind (codes "    contents: 5" ∷ []) 5 8 ∷
    -- an item over a byte
    behind (codes "    contents: [1, 256]" ∷ []) 5 6 ∷
    -- a list for a text
    behind (codes "    size: [1]" ∷ []) 5 6 ∷
    -- an unsupported key
    behind (codes "    size: 1" ∷ codes "    process: zlib" ∷ []) 6 8 ∷
    -- an unknown bare name
    behind (codes "    size: y" ∷ []) 5 4 ∷
    -- an index of no element
    behind (codes "    size: _index" ∷ []) 5 4 ∷
    -- an element only in repeat-until
    behind (codes "    size: _" ∷ codes "    repeat: eos" ∷ []) 5 4 ∷
    -- a stream alone
    behind (codes "    size: _io" ∷ []) 5 8 ∷
    -- another name of a stream
    behind (codes "    size: _io.length" ∷ []) 5 8 ∷
    -- the place of another stream
    behind (codes "    size: x._io.pos" ∷ []) 5 8 ∷
    -- the place in an argument
    behind (codes "    type: t(_io.pos)" ∷ codes "types:" ∷ codes "  t:" ∷ codes "    params:" ∷ codes "      - id: i" ∷ []) 5 8 ∷
    -- a call that there isn't
    behind (codes "    size: x.length(1)" ∷ []) 5 4 ∷
    -- a cast to a type of the language
    behind (codes "    size: x.as<u1>" ∷ []) 5 8 ∷
    -- a cast to an unknown type
    behind (codes "    size: x.as<t>" ∷ []) 5 4 ∷
    -- an unknown member of an enum
    behind (codes "    size: e::b.to_i" ∷ codes "enums:" ∷ codes "  e:" ∷ codes "    1: a" ∷ []) 5 4 ∷
    -- a switch without cases
    behind (codes "    type:" ∷ codes "      switch-on: 1" ∷ []) 6 2 ∷
    -- an unknown key of a switch
    behind (codes "    type:" ∷ codes "      switch-on: 1" ∷ codes "      cases: {}" ∷ codes "      default: u1" ∷ []) 8 1 ∷
    -- a size with a case of an integer
    behind (codes "    size: 1" ∷ codes "    type:" ∷ codes "      switch-on: 1" ∷ codes "      cases:" ∷ codes "        1: u1" ∷ []) 5 3 ∷
    -- the line of such a case, where it is lower
    behind (codes "    type:" ∷ codes "      switch-on: 1" ∷ codes "      cases:" ∷ codes "        1: t" ∷ codes "        2: u1" ∷ codes "    size: 1" ∷ codes "types:" ∷ codes "  t: {}" ∷ []) 9 3 ∷
    -- a text as a case
    behind (codes "    type:" ∷ codes "      switch-on: 1" ∷ codes "      cases:" ∷ codes "        1: str" ∷ codes "    encoding: ASCII" ∷ []) 8 8 ∷
    -- a name as a case's key
    behind (codes "    type:" ∷ codes "      switch-on: 1" ∷ codes "      cases:" ∷ codes "        x: u1" ∷ []) 8 6 ∷
    -- no expression as a case's key
    behind (codes "    type:" ∷ codes "      switch-on: 1" ∷ codes "      cases:" ∷ codes "        1 +: u1" ∷ []) 8 10 ∷
    -- an enum of a switch
    behind (codes "    type:" ∷ codes "      switch-on: 1" ∷ codes "      cases:" ∷ codes "        1: u1" ∷ codes "    enum: e" ∷ codes "enums:" ∷ codes "  e: {}" ∷ []) 9 3 ∷
    -- an instance of neither kind
    behind (codes "    type: u1" ∷ codes "instances:" ∷ codes "  i:" ∷ codes "    type: u1" ∷ []) 7 8 ∷
    -- a value with a type
    behind (codes "    type: u1" ∷ codes "instances:" ∷ codes "  i:" ∷ codes "    type: u1" ∷ codes "    value: 1" ∷ []) 8 3 ∷
    -- a value with a terminator
    behind (codes "    type: u1" ∷ codes "instances:" ∷ codes "  i:" ∷ codes "    terminator: 1" ∷ codes "    value: 1" ∷ []) 8 1 ∷
    -- a value with an unsupported key
    behind (codes "    type: u1" ∷ codes "instances:" ∷ codes "  i:" ∷ codes "    process: zlib" ∷ codes "    value: 1" ∷ []) 8 8 ∷
    -- the place of an instance
    behind (codes "    type: u1" ∷ codes "instances:" ∷ codes "  i:" ∷ codes "    pos: _io.pos" ∷ codes "    type: u1" ∷ []) 8 8 ∷
    -- an id twice
    behind (codes "    type: u1" ∷ codes "instances:" ∷ codes "  x:" ∷ codes "    value: 1" ∷ []) 7 3 ∷
    -- an instance's name
    behind (codes "    type: u1" ∷ codes "instances:" ∷ codes "  X:" ∷ codes "    value: 1" ∷ []) 7 6 ∷
    -- a number twice
    behind (codes "    type: u1" ∷ codes "enums:" ∷ codes "  e:" ∷ codes "    1: a" ∷ codes "    0x1: b" ∷ []) 9 3 ∷
    -- an id twice in an enum
    behind (codes "    type: u1" ∷ codes "enums:" ∷ codes "  e:" ∷ codes "    1: a" ∷ codes "    2:" ∷ codes "      id: a" ∷ []) 10 3 ∷
    -- a number with a leading zero
    behind (codes "    type: u1" ∷ codes "enums:" ∷ codes "  e:" ∷ codes "    01: a" ∷ []) 8 8 ∷
    -- no number
    behind (codes "    type: u1" ∷ codes "enums:" ∷ codes "  e:" ∷ codes "    a: a" ∷ []) 8 6 ∷
    -- an id is missing
    behind (codes "    type: u1" ∷ codes "enums:" ∷ codes "  e:" ∷ codes "    1: {}" ∷ []) 8 2 ∷
    -- an empty list of attributes
    behind (codes "    type: t" ∷ codes "types:" ∷ codes "  t:" ∷ codes "    seq:" ∷ []) 8 6 ∷
    -- a type's name
    behind (codes "    type: u1" ∷ codes "types:" ∷ codes "  -t: {}" ∷ []) 7 6 ∷
    -- an unknown key of a type
    behind (codes "    type: u1" ∷ codes "values: {}" ∷ []) 6 1 ∷
    -- parameters of the root
    behind (codes "    type: u1" ∷ codes "params: []" ∷ []) 6 8 ∷
    -- a parameter of a stream
    behind (codes "    type: t(1)" ∷ codes "types:" ∷ codes "  t:" ∷ codes "    params:" ∷ codes "      - id: i" ∷ codes "        type: io" ∷ []) 10 8 ∷
    -- an id
    row (codes "meta:" ∷ codes "  id: a" ∷ codes "seq:" ∷ codes "  - id: Foo" ∷ codes "    type: u1" ∷ []) 4 6 ∷
    -- the root needs an id
    row (codes "meta:" ∷ codes "  endian: le" ∷ []) 2 2 ∷
    -- the root needs meta
    row (codes "seq: []" ∷ []) 1 2 ∷
    -- instances before the attributes come first
    row (codes "meta:" ∷ codes "  id: a" ∷ codes "instances:" ∷ codes "  x:" ∷ codes "    value: 1" ∷ codes "seq:" ∷ codes "  - id: x" ∷ codes "    type: u1" ∷ []) 7 3 ∷
    -- `bit-endian: le`
    row (codes "meta:" ∷ codes "  id: a" ∷ codes "  bit-endian: le" ∷ []) 3 8 ∷
    -- a chosen byte order
    row (codes "meta:" ∷ codes "  id: a" ∷ codes "  endian:" ∷ codes "    switch-on: x" ∷ []) 3 8 ∷
    -- imports
    row (codes "meta:" ∷ codes "  id: a" ∷ codes "  imports: [b]" ∷ []) 3 8 ∷
    -- a check without text
    behind (codes "    type: u1" ∷ codes "    valid:" ∷ []) 6 10 ∷
    -- a list for a check
    behind (codes "    type: u1" ∷ codes "    valid: [1]" ∷ []) 6 6 ∷
    -- no key of a check
    behind (codes "    type: u1" ∷ codes "    valid: {}" ∷ []) 6 2 ∷
    -- ignored keys alone
    behind (codes "    type: u1" ∷ codes "    valid:" ∷ codes "      doc: text" ∷ codes "      -extra: 1" ∷ []) 7 2 ∷
    -- an unknown key of a check alone
    behind (codes "    type: u1" ∷ codes "    valid:" ∷ codes "      low: 1" ∷ []) 7 1 ∷
    -- a check that is unsupported
    behind (codes "    type: u1" ∷ codes "    valid:" ∷ codes "      in-enum: true" ∷ []) 7 8 ∷
    -- and beside another
    behind (codes "    type: u1" ∷ codes "    valid:" ∷ codes "      eq: 1" ∷ codes "      in-enum: true" ∷ []) 8 8 ∷
    -- two checks against each other
    behind (codes "    type: u1" ∷ codes "    valid:" ∷ codes "      max: 2" ∷ codes "      eq: 1" ∷ []) 7 3 ∷
    -- and an expression beside a bound
    behind (codes "    type: u1" ∷ codes "    valid:" ∷ codes "      doc: text" ∷ codes "      min: 2" ∷ codes "      expr: _ == 1" ∷ []) 8 3 ∷
    -- none of a list
    behind (codes "    type: u1" ∷ codes "    valid:" ∷ codes "      any-of: []" ∷ []) 7 6 ∷
    -- no list
    behind (codes "    type: u1" ∷ codes "    valid:" ∷ codes "      any-of: 1" ∷ []) 7 6 ∷
    -- an unknown name in an item
    behind (codes "    type: u1" ∷ codes "    valid:" ∷ codes "      any-of:" ∷ codes "        - 1" ∷ codes "        - y" ∷ []) 9 4 ∷
    -- an item that is no text
    behind (codes "    type: u1" ∷ codes "    valid:" ∷ codes "      any-of:" ∷ codes "        - [1]" ∷ []) 8 6 ∷
    -- the value in a text
    behind (codes "    type: u1" ∷ codes "    valid: _" ∷ []) 6 4 ∷
    -- the value in a bound
    behind (codes "    type: u1" ∷ codes "    valid:" ∷ codes "      max: _ + 1" ∷ []) 7 4 ∷
    -- the value after a dot
    behind (codes "    type: u1" ∷ codes "    valid:" ∷ codes "      expr: x._" ∷ []) 7 4 ∷
    -- the place in a check
    behind (codes "    type: u1" ∷ codes "    valid:" ∷ codes "      expr: _ == _io.pos" ∷ []) 7 8 ∷
    -- an index of no element in a check
    behind (codes "    type: u1" ∷ codes "    valid:" ∷ codes "      expr: _ == _index" ∷ []) 7 4 ∷
    -- contents and a check
    behind (codes "    contents: ab" ∷ codes "    valid: x" ∷ []) 5 3 ∷
    -- a check of a type
    behind (codes "    type: u1" ∷ codes "valid: 1" ∷ []) 6 1 ∷
    -- a check of a parameter
    behind (codes "    type: t(1)" ∷ codes "types:" ∷ codes "  t:" ∷ codes "    params:" ∷ codes "      - id: i" ∷ codes "        valid: 1" ∷ []) 10 1 ∷
    -- contents of a value, which are unknown beside a check too
    behind (codes "    type: u1" ∷ codes "instances:" ∷ codes "  i:" ∷ codes "    valid: 1" ∷ codes "    contents: ab" ∷ codes "    value: 1" ∷ []) 9 1 ∷
    -- a check of an instance of neither kind
    behind (codes "    type: u1" ∷ codes "instances:" ∷ codes "  i: {valid: {}}" ∷ []) 7 2 ∷
    -- no mapping
    row (codes "- a" ∷ []) 1 6 ∷
    []

abbrev is_refused : Row → Bool
is_refused r = option_map_or (λ f. f.line == r.line && f.number == r.number) (least_fault r.lines) false

rows_are_refused : list_all is_refused refused_texts ≡ true
unfolding least_fault read read_list place_on select_on plain_number signed_number special_faults special_field_faults enum_at is_member cast_faults is_call name_faults least part_faults list_faults distinct number_in given_member dotted all_dotted numbered all_numbered as_text tokens_of expression_of type_of_expressions is_below noted is_ignored is_id encoding_named type_text byte_number byte_at looks_like_number piece_of case_key ids_of digits is_utf8 chars encode number_of id_of id_of_number number_of_id members_at_key members_of members_within parameters_within member_named row_in types_of keys_at outer_of from nearest_row type_named enum_behind order_of encoding_of is_bits built_in form_among form_in endian_faults bit_endian_faults form_faults key_faults against ruled_faults together of_expression read_expression read_arguments enumeration read_item read_contents order_at encoding_at of_type of_case_key case_value case_against read_case read_switch read_typed read_choice alternative alternatives conditions valid read_parts repeat_of terminator_of repeated read_needs unsupported read_field read_attribute parse_instance value_instance placeless by_kind member_keys name_line is_named_again read_member entry_id is_number_again is_id_again read_constant meta_faults type_keys_faults type_faults line_past read_members all_members all_enums faults_of faults member_names names_of member_of read_type_of are_texts described stated_by stated
rows_are_refused = refl

-- ---- texts that state a description

abbrev accepted_texts : List (List (List ℕ))
accepted_texts =
    -- K
    (codes "meta:" ∷ codes "  id: k" ∷ codes "seq:" ∷ codes "  - id: magic" ∷ codes "    contents: [0x4b, 0x53]" ∷ codes "  - id: n" ∷ codes "    type: u1" ∷ codes "  - id: items" ∷ codes "    type: item" ∷ codes "    repeat: expr" ∷ codes "    repeat-expr: n" ∷ codes "types:" ∷ codes "  item:" ∷ codes "    seq:" ∷ codes "      - id: len" ∷ codes "        type: u1" ∷ codes "      - id: body" ∷ codes "        size: len" ∷ codes "instances:" ∷ codes "  first:" ∷ codes "    value: items[0].len" ∷ codes "  last:" ∷ codes "    pos: _io.size - 1" ∷ codes "    type: u1" ∷ []) ∷
    -- a field of no bytes
    (codes "meta:" ∷ codes "  id: a" ∷ codes "seq:" ∷ codes "  - id: e" ∷ codes "    size: 0" ∷ []) ∷
    -- an instance at a place
    (codes "meta:" ∷ codes "  id: a" ∷ codes "seq:" ∷ codes "  - id: a" ∷ codes "    type: u1" ∷ codes "  - id: b" ∷ codes "    size: 0" ∷ codes "  - id: c" ∷ codes "    type: u1" ∷ codes "instances:" ∷ codes "  p:" ∷ codes "    pos: 2" ∷ codes "    type: u1" ∷ []) ∷
    -- elements to the end
    (codes "meta:" ∷ codes "  id: a" ∷ codes "seq:" ∷ codes "  - id: xs" ∷ codes "    type: u1" ∷ codes "    repeat: eos" ∷ []) ∷
    -- two values of each other
    (codes "meta:" ∷ codes "  id: a" ∷ codes "instances:" ∷ codes "  a:" ∷ codes "    value: b" ∷ codes "  b:" ∷ codes "    value: a" ∷ []) ∷
    -- a type within itself
    (codes "meta:" ∷ codes "  id: t" ∷ codes "seq:" ∷ codes "  - id: x" ∷ codes "    type: t" ∷ codes "  - id: y" ∷ codes "    type: u1" ∷ []) ∷
    -- a value in quotes
    (codes "meta:" ∷ codes "  id: a" ∷ codes "instances:" ∷ codes "  v:" ∷ codes "    value: \"true ? 1 : 2\"" ∷ []) ∷
    -- an argument
    (codes "meta:" ∷ codes "  id: a" ∷ codes "seq:" ∷ codes "  - id: xs" ∷ codes "    type: t(_index)" ∷ codes "    repeat: expr" ∷ codes "    repeat-expr: 3" ∷ codes "types:" ∷ codes "  t:" ∷ codes "    params:" ∷ codes "      - id: i" ∷ codes "    instances:" ∷ codes "      v:" ∷ codes "        value: i * 10" ∷ []) ∷
    -- a sized object
    (codes "meta:" ∷ codes "  id: a" ∷ codes "seq:" ∷ codes "  - id: o" ∷ codes "    type: inner" ∷ codes "    size: 4" ∷ codes "  - id: z" ∷ codes "    type: u1" ∷ codes "types:" ∷ codes "  inner:" ∷ codes "    seq:" ∷ codes "      - id: p" ∷ codes "        type: u4be" ∷ codes "      - id: q" ∷ codes "        type: u2be" ∷ []) ∷
    -- texts
    (codes "meta:" ∷ codes "  id: a" ∷ codes "  encoding: ASCII" ∷ codes "seq:" ∷ codes "  - id: s" ∷ codes "    type: strz" ∷ codes "  - id: r" ∷ codes "    size-eos: true" ∷ []) ∷
    -- an enum
    (codes "meta:" ∷ codes "  id: a" ∷ codes "seq:" ∷ codes "  - id: k" ∷ codes "    type: u1" ∷ codes "    enum: animal" ∷ codes "enums:" ∷ codes "  animal:" ∷ codes "    4: cat" ∷ []) ∷
    -- a switch
    (codes "meta:" ∷ codes "  id: a" ∷ codes "seq:" ∷ codes "  - id: t" ∷ codes "    type: u1" ∷ codes "  - id: b" ∷ codes "    type:" ∷ codes "      switch-on: t" ∷ codes "      cases:" ∷ codes "        1: u1" ∷ codes "        2: u2be" ∷ []) ∷
    -- a stream of another object
    (codes "meta:" ∷ codes "  id: a" ∷ codes "seq:" ∷ codes "  - id: blk" ∷ codes "    type: body" ∷ codes "    size: 3" ∷ codes "  - id: z" ∷ codes "    type: u1" ∷ codes "types:" ∷ codes "  body:" ∷ codes "    seq:" ∷ codes "      - id: c" ∷ codes "        type: u1" ∷ codes "    instances:" ∷ codes "      q:" ∷ codes "        value: _parent.z + 1" ∷ codes "instances:" ∷ codes "  p:" ∷ codes "    io: blk._io" ∷ codes "    pos: 1" ∷ codes "    type: u1" ∷ codes "  r:" ∷ codes "    io: blk._io" ∷ codes "    pos: 3" ∷ codes "    type: u1" ∷ []) ∷
    -- byte order and encoding inherited, and set anew
    (codes "meta:" ∷ codes "  id: a" ∷ codes "  endian: le" ∷ codes "  encoding: utf-8" ∷ codes "seq:" ∷ codes "  - id: x" ∷ codes "    type: t" ∷ codes "types:" ∷ codes "  t:" ∷ codes "    meta:" ∷ codes "      endian: be" ∷ codes "    seq:" ∷ codes "      - id: y" ∷ codes "        type: u" ∷ codes "      - id: s" ∷ codes "        type: strz" ∷ codes "    types:" ∷ codes "      u:" ∷ codes "        seq:" ∷ codes "          - id: z" ∷ codes "            type: u8" ∷ []) ∷
    -- unnamed attributes, which may be named
    (codes "meta:" ∷ codes "  id: a" ∷ codes "seq:" ∷ codes "  - type: u1" ∷ codes "  - size: _unnamed0" ∷ []) ∷
    -- keys of cases
    (codes "meta:" ∷ codes "  id: a" ∷ codes "seq:" ∷ codes "  - id: t" ∷ codes "    type: u1" ∷ codes "  - id: b" ∷ codes "    type:" ∷ codes "      switch-on: t" ∷ codes "      cases:" ∷ codes "        -1: u1" ∷ codes "        0x10: u2le" ∷ codes "        _: t" ∷ codes "        e::one: u1" ∷ codes "        '\"a\"': u1" ∷ codes "        true: s1" ∷ codes "types:" ∷ codes "  t: {}" ∷ codes "enums:" ∷ codes "  e:" ∷ codes "    1: one" ∷ codes "    -1:" ∷ codes "      id: less" ∷ codes "      doc: below" ∷ []) ∷
    -- the last of repeat-until
    (codes "meta:" ∷ codes "  id: a" ∷ codes "seq:" ∷ codes "  - id: xs" ∷ codes "    type: u1" ∷ codes "    repeat: until" ∷ codes "    repeat-until: _ == 0 or _io.eof or _index > 3" ∷ []) ∷
    -- ignored keys
    (codes "meta:" ∷ codes "  id: a" ∷ codes "  title: T" ∷ codes "  -extra: 1" ∷ codes "seq:" ∷ codes "  - id: x" ∷ codes "    type: u1" ∷ codes "    doc: some text" ∷ codes "    doc-ref: there" ∷ codes "    -orig-id: X" ∷ []) ∷
    -- an instance called doc
    (codes "meta:" ∷ codes "  id: a" ∷ codes "instances:" ∷ codes "  doc:" ∷ codes "    value: 1" ∷ []) ∷
    -- a type by a path, and the root by its id
    (codes "meta:" ∷ codes "  id: a" ∷ codes "seq:" ∷ codes "  - id: x" ∷ codes "    type: t::u" ∷ codes "  - id: y" ∷ codes "    type: a::t" ∷ codes "types:" ∷ codes "  t:" ∷ codes "    types:" ∷ codes "      u: {}" ∷ []) ∷
    -- an enum by a path
    (codes "meta:" ∷ codes "  id: a" ∷ codes "seq:" ∷ codes "  - id: x" ∷ codes "    type: u1" ∷ codes "    enum: t::e" ∷ codes "types:" ∷ codes "  t:" ∷ codes "    enums:" ∷ codes "      e:" ∷ codes "        0x0: zero" ∷ []) ∷
    -- contents of texts and numbers
    (codes "meta:" ∷ codes "  id: a" ∷ codes "seq:" ∷ codes "  - id: x" ∷ codes "    contents: [-1, \"1\", 0xff, 9]" ∷ codes "  - id: y" ∷ codes "    contents: \"5\"" ∷ []) ∷
    -- elements of an object to the end
    (codes "meta:" ∷ codes "  id: a" ∷ codes "seq:" ∷ codes "  - id: items" ∷ codes "    type: item" ∷ codes "    repeat: eos" ∷ codes "types:" ∷ codes "  item:" ∷ codes "    seq:" ∷ codes "      - id: len" ∷ codes "        type: u1" ∷ codes "      - id: body" ∷ codes "        size: len" ∷ []) ∷
    -- operators
    (codes "meta:" ∷ codes "  id: a" ∷ codes "instances:" ∷ codes "  v:" ∷ codes "    value: false and (1 / 0 == 1)" ∷ codes "  w:" ∷ codes "    value: (1 / 0 == 1) and false" ∷ codes "  x:" ∷ codes "    value: 18446744073709551615 + 1" ∷ codes "  y:" ∷ codes "    value: -7 / 2" ∷ codes "  z:" ∷ codes "    value: -7 % 2" ∷ []) ∷
    -- checks
    (codes "meta:" ∷ codes "  id: a" ∷ codes "seq:" ∷ codes "  - id: x" ∷ codes "    type: u1" ∷ codes "    valid: 4" ∷ codes "  - id: y" ∷ codes "    type: u1" ∷ codes "    valid: {doc: text, max: x + 1}" ∷ codes "  - id: xs" ∷ codes "    type: u1" ∷ codes "    repeat: eos" ∷ codes "    valid: {expr: _ == _index and _io.size > _}" ∷ codes "instances:" ∷ codes "  p:" ∷ codes "    pos: 0" ∷ codes "    type: u1" ∷ codes "    repeat: expr" ∷ codes "    repeat-expr: 2" ∷ codes "    valid: {any-of: [_index, x]}" ∷ codes "  v:" ∷ codes "    value: x" ∷ codes "    enum: e" ∷ codes "    valid: e::one" ∷ codes "enums:" ∷ codes "  e:" ∷ codes "    1: one" ∷ []) ∷
    -- a later name of the object around
    (codes "meta:" ∷ codes "  id: a" ∷ codes "seq:" ∷ codes "  - id: o" ∷ codes "    type: t" ∷ codes "    size: 2" ∷ codes "  - id: k" ∷ codes "    type: u1" ∷ codes "types:" ∷ codes "  t:" ∷ codes "    seq:" ∷ codes "      - id: body" ∷ codes "        size: _parent.k" ∷ []) ∷
    []

abbrev is_accepted : List (List ℕ) → Bool
is_accepted lines = is_none (least_fault lines) && is_some (description lines)

texts_are_accepted : list_all is_accepted accepted_texts ≡ true
unfolding least_fault description read read_list place_on select_on plain_number signed_number special_faults special_field_faults enum_at is_member cast_faults is_call name_faults least part_faults list_faults distinct number_in given_member dotted all_dotted numbered all_numbered as_text tokens_of expression_of type_of_expressions is_below noted is_ignored is_id encoding_named type_text byte_number byte_at looks_like_number piece_of case_key ids_of digits is_utf8 chars encode number_of id_of id_of_number number_of_id members_at_key members_of members_within parameters_within member_named row_in types_of keys_at outer_of from nearest_row type_named enum_behind order_of encoding_of is_bits built_in form_among form_in endian_faults bit_endian_faults form_faults key_faults against ruled_faults together of_expression read_expression read_arguments enumeration read_item read_contents order_at encoding_at of_type of_case_key case_value case_against read_case read_switch read_typed read_choice alternative alternatives conditions valid read_parts repeat_of terminator_of repeated read_needs unsupported read_field read_attribute parse_instance value_instance placeless by_kind member_keys name_line is_named_again read_member entry_id is_number_again is_id_again read_constant meta_faults type_keys_faults type_faults line_past read_members all_members all_enums faults_of faults member_names names_of member_of read_type_of are_texts described stated_by stated
texts_are_accepted = refl

-- ---- a description in full

-- one unsigned byte
abbrev byte : Field
byte = record { condition = None; repeat = Once; choice = Always (Number false 1 orders.Little None); extent = ByItself; terminator = None; valid = None }

abbrev word : List ℕ → ℕ → Word
word text number = record { text = text; number = Some number }

-- the value, compared with an expression
abbrev against_value : BinaryOperator → Tree → Tree
against_value operator e = binary operator (special specials.Element) e

k_states : description (codes "meta:" ∷ codes "  id: k" ∷ codes "seq:" ∷ codes "  - id: magic" ∷ codes "    contents: [0x4b, 0x53]" ∷ codes "  - id: n" ∷ codes "    type: u1" ∷ codes "  - id: items" ∷ codes "    type: item" ∷ codes "    repeat: expr" ∷ codes "    repeat-expr: n" ∷ codes "types:" ∷ codes "  item:" ∷ codes "    seq:" ∷ codes "      - id: len" ∷ codes "        type: u1" ∷ codes "      - id: body" ∷ codes "        size: len" ∷ codes "instances:" ∷ codes "  first:" ∷ codes "    value: items[0].len" ∷ codes "  last:" ∷ codes "    pos: _io.size - 1" ∷ codes "    type: u1" ∷ []) ≡ Some (record {
  types =
      record {
        id = codes "k";
        members =
            record { name = 0; kind = Attribute (record byte { choice = Always (Fixed (75 ∷ 83 ∷ [])) }) } ∷
            record { name = 1; kind = Attribute byte } ∷
            record { name = 2; kind = Attribute (record byte { repeat = Expr (named (word (codes "n") 1)); choice = Always (Object 1 no_arguments) }) } ∷
            record { name = 3; kind = ValueInstance (record { condition = None; value = field (index (named (word (codes "items") 2)) (literal (integer 0))) (word (codes "len") 5); enum = None; valid = None }) } ∷
            record { name = 4; kind = ParseInstance (binary binaries.Subtract (field (special specials.Io) (word (codes "size") 7)) (literal (integer 1))) None byte } ∷ [];
      } ∷
      record {
        id = codes "item";
        members =
            record { name = 5; kind = Attribute byte } ∷
            record { name = 6; kind = Attribute (record byte { choice = Always Bytes; extent = Sized (named (word (codes "len") 5)) }) } ∷ [];
      } ∷ [];
  enums = [];
  names = codes "magic" ∷ codes "n" ∷ codes "items" ∷ codes "first" ∷ codes "last" ∷ codes "len" ∷ codes "body" ∷ codes "size" ∷ [];
  known = 7;
})
unfolding description read read_list place_on select_on plain_number signed_number special_faults special_field_faults enum_at is_member cast_faults is_call name_faults least part_faults list_faults distinct number_in given_member dotted all_dotted numbered all_numbered as_text tokens_of expression_of type_of_expressions is_below noted is_ignored is_id encoding_named type_text byte_number byte_at looks_like_number piece_of case_key ids_of digits is_utf8 chars encode number_of id_of id_of_number number_of_id members_at_key members_of members_within parameters_within member_named row_in types_of keys_at outer_of from nearest_row type_named enum_behind order_of encoding_of is_bits built_in form_among form_in endian_faults bit_endian_faults form_faults key_faults against ruled_faults together of_expression read_expression read_arguments enumeration read_item read_contents order_at encoding_at of_type of_case_key case_value case_against read_case read_switch read_typed read_choice alternative alternatives conditions valid read_parts repeat_of terminator_of repeated read_needs unsupported read_field read_attribute parse_instance value_instance placeless by_kind member_keys name_line is_named_again read_member entry_id is_number_again is_id_again read_constant meta_faults type_keys_faults type_faults line_past read_members all_members all_enums faults_of faults member_names names_of member_of read_type_of are_texts described stated_by stated
k_states = refl

-- a switch, in which the cases keep their order, and an enum found outwards
switch_states : description (codes "meta:" ∷ codes "  id: a" ∷ codes "  endian: be" ∷ codes "  encoding: Utf-8" ∷ codes "seq:" ∷ codes "  - id: t" ∷ codes "    type: s2" ∷ codes "    enum: e" ∷ codes "  - id: b" ∷ codes "    type:" ∷ codes "      switch-on: t" ∷ codes "      cases:" ∷ codes "        _: u(2)" ∷ codes "        e::less: u4" ∷ codes "types:" ∷ codes "  u:" ∷ codes "    params:" ∷ codes "      - id: p" ∷ codes "    seq:" ∷ codes "      - id: s" ∷ codes "        type: strz" ∷ codes "        include: true" ∷ codes "        eos-error: false" ∷ codes "        if: p == e::less" ∷ codes "enums:" ∷ codes "  e:" ∷ codes "    1: one" ∷ codes "    -1: less" ∷ []) ≡ Some (record {
  types =
      record {
        id = codes "a";
        members =
            record { name = 0; kind = Attribute (record byte { choice = Always (Number true 2 orders.Big (Some 0)) }) } ∷
            record {
              name = 1;
              kind = Attribute (record byte {
                choice = Switch (named (word (codes "t") 0)) (
                    record { value = None; content = Object 1 (argument (literal (integer 2)) no_arguments) } ∷
                    record { value = Some (EnumValue (record { enum_number = 0; number = negsuc 0 })); content = Number false 4 orders.Big None } ∷ []);
              });
            } ∷ [];
      } ∷
      record {
        id = codes "u";
        members =
            record { name = 2; kind = Parameter } ∷
            record {
              name = 3;
              kind = Attribute (record byte {
                condition = Some (binary binaries.Equal (named (word (codes "p") 2)) (member (record { path = codes "e" ∷ []; name = codes "less"; given = Some (record { enum_number = 0; number = negsuc 0 }) })));
                choice = Always (Characters encodings.Utf8);
                terminator = Some (record { byte = 0; is_consumed = true; is_included = true; is_required = false });
              });
            } ∷ [];
      } ∷ [];
  enums = record { id = codes "e"; members = record { number = pos 1; id = codes "one" } ∷ record { number = negsuc 0; id = codes "less" } ∷ [] } ∷ [];
  names = codes "t" ∷ codes "b" ∷ codes "p" ∷ codes "s" ∷ [];
  known = 4;
})
unfolding description read read_list place_on select_on plain_number signed_number special_faults special_field_faults enum_at is_member cast_faults is_call name_faults least part_faults list_faults distinct number_in given_member dotted all_dotted numbered all_numbered as_text tokens_of expression_of type_of_expressions is_below noted is_ignored is_id encoding_named type_text byte_number byte_at looks_like_number piece_of case_key ids_of digits is_utf8 chars encode number_of id_of id_of_number number_of_id members_at_key members_of members_within parameters_within member_named row_in types_of keys_at outer_of from nearest_row type_named enum_behind order_of encoding_of is_bits built_in form_among form_in endian_faults bit_endian_faults form_faults key_faults against ruled_faults together of_expression read_expression read_arguments enumeration read_item read_contents order_at encoding_at of_type of_case_key case_value case_against read_case read_switch read_typed read_choice alternative alternatives conditions valid read_parts repeat_of terminator_of repeated read_needs unsupported read_field read_attribute parse_instance value_instance placeless by_kind member_keys name_line is_named_again read_member entry_id is_number_again is_id_again read_constant meta_faults type_keys_faults type_faults line_past read_members all_members all_enums faults_of faults member_names names_of member_of read_type_of are_texts described stated_by stated
switch_states = refl

-- what values must meet: `min` before `max`, however they are written
checks_state : description (codes "meta:" ∷ codes "  id: a" ∷ codes "seq:" ∷ codes "  - id: n" ∷ codes "    type: u1" ∷ codes "    valid:" ∷ codes "      max: 3" ∷ codes "      min: 1" ∷ codes "  - id: m" ∷ codes "    type: u1" ∷ codes "    valid: n" ∷ codes "  - id: xs" ∷ codes "    type: u1" ∷ codes "    repeat: eos" ∷ codes "    valid:" ∷ codes "      any-of: [n, 5]" ∷ codes "instances:" ∷ codes "  v:" ∷ codes "    value: m" ∷ codes "    valid:" ∷ codes "      expr: _ == n" ∷ []) ≡ Some (record {
  types =
      record {
        id = codes "a";
        members =
            record { name = 0; kind = Attribute (record byte { valid = Some (AllOf (against_value binaries.GreaterOrEqual (literal (integer 1)) ∷ against_value binaries.LessOrEqual (literal (integer 3)) ∷ [])) }) } ∷
            record { name = 1; kind = Attribute (record byte { valid = Some (AnyOf (against_value binaries.Equal (named (word (codes "n") 0)) ∷ [])) }) } ∷
            record { name = 2; kind = Attribute (record byte { repeat = Eos; valid = Some (AnyOf (against_value binaries.Equal (named (word (codes "n") 0)) ∷ against_value binaries.Equal (literal (integer 5)) ∷ [])) }) } ∷
            record { name = 3; kind = ValueInstance (record { condition = None; value = named (word (codes "m") 1); enum = None; valid = Some (AllOf (against_value binaries.Equal (named (word (codes "n") 0)) ∷ [])) }) } ∷ [];
      } ∷ [];
  enums = [];
  names = codes "n" ∷ codes "m" ∷ codes "xs" ∷ codes "v" ∷ [];
  known = 4;
})
unfolding description read read_list place_on select_on plain_number signed_number special_faults special_field_faults enum_at is_member cast_faults is_call name_faults least part_faults list_faults distinct number_in given_member dotted all_dotted numbered all_numbered as_text tokens_of expression_of type_of_expressions is_below noted is_ignored is_id encoding_named type_text byte_number byte_at looks_like_number piece_of case_key ids_of digits is_utf8 chars encode number_of id_of id_of_number number_of_id members_at_key members_of members_within parameters_within member_named row_in types_of keys_at outer_of from nearest_row type_named enum_behind order_of encoding_of is_bits built_in form_among form_in endian_faults bit_endian_faults form_faults key_faults against ruled_faults together of_expression read_expression read_arguments enumeration read_item read_contents order_at encoding_at of_type of_case_key case_value case_against read_case read_switch read_typed read_choice alternative alternatives conditions valid read_parts repeat_of terminator_of repeated read_needs unsupported read_field read_attribute parse_instance value_instance placeless by_kind member_keys name_line is_named_again read_member entry_id is_number_again is_id_again read_constant meta_faults type_keys_faults type_faults line_past read_members all_members all_enums faults_of faults member_names names_of member_of read_type_of are_texts described stated_by stated
checks_state = refl

-- ---- limits

-- with a limit of 2, the third in the order of lines is past it, in whichever order they come
third_line : line_past 2 (3 ∷ 5 ∷ 3 ∷ 4 ∷ []) ≡ Some 4
unfolding endian_faults bit_endian_faults form_faults key_faults against ruled_faults together of_expression read_expression read_arguments enumeration read_item read_contents order_at encoding_at of_type of_case_key case_value case_against read_case read_switch read_typed read_choice alternative alternatives conditions valid read_parts repeat_of terminator_of repeated read_needs unsupported read_field read_attribute parse_instance value_instance placeless by_kind member_keys name_line is_named_again read_member entry_id is_number_again is_id_again read_constant meta_faults type_keys_faults type_faults line_past read_members all_members all_enums faults_of faults member_names names_of member_of read_type_of are_texts described stated_by stated
third_line = refl

no_line : line_past 4 (3 ∷ 5 ∷ 3 ∷ 4 ∷ []) ≡ None
unfolding endian_faults bit_endian_faults form_faults key_faults against ruled_faults together of_expression read_expression read_arguments enumeration read_item read_contents order_at encoding_at of_type of_case_key case_value case_against read_case read_switch read_typed read_choice alternative alternatives conditions valid read_parts repeat_of terminator_of repeated read_needs unsupported read_field read_attribute parse_instance value_instance placeless by_kind member_keys name_line is_named_again read_member entry_id is_number_again is_id_again read_constant meta_faults type_keys_faults type_faults line_past read_members all_members all_enums faults_of faults member_names names_of member_of read_type_of are_texts described stated_by stated
no_line = refl

-- and so is the third of a list
third_item : past (line_at (λ (line : ℕ). line) 2 (1 ∷ 2 ∷ 7 ∷ 9 ∷ [])) ≡ fault 7 over_limit
third_item = refl
