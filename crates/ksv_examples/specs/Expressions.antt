-- Expressions worked out: texts with what each is worth, and what expressions of names want.
use Rattle.std.specs.Prelude.{◌≡◌, ℕ, ◌==◌, Bool, true, false, pos, List, [], ◌∷◌, ◌++◌, map, codes, bytes_eq, Option, Some, None, option_and_then, Result, Ok, Err, if◌then◌else◌, refl}
use Rattle.std.specs.List.{list_all}
use Rattle.std.specs.Fmt.{signed_decimal}
use Rattle.std.specs.Fmt.{digits}
use Rattle.std.specs.Str.{chars, is_utf8}
use lib.Utf8.{encode}
use Rattle.ksv_desc.specs.Names.{number_in}
use Rattle.ksv_expr_meaning.specs.Meaning.{at_end, binary_of, byte_at, byte_from, bytes_and, bytes_at, bytes_call, bytes_with, call_one, call_two, cast_to, element_count, element_path, element_value, field_of, integer_and, item_at, last_element, list_at, list_method, list_size, member_and, member_path, member_value, method_of, object_of_type, same_bytes, special_of, special_value, stream_method, stream_of, stream_size, text_and, text_in, truth_and, truth_value, value_of}
use Rattle.ksv_expr_syntax.specs.Reading.{read, read_list, place_on, select_on}
use Rattle.ksv_expr_value.specs.Places.{at_byte}
use Rattle.ksv_expr_value.specs.Trail.{fits, trail_of, trail_when}
use Rattle.ksv_basics.specs.Plan.{bind}
use Rattle.ksv_schema.specs.Expressions.{expression_of, tokens_of}
use Rattle.ksv_schema_names.specs.Names.{enum_at}
use Rattle.ksv_schema_names.specs.Numbered.{all_numbered, given_member, numbered}
use Rattle.ksv_schema_names.specs.Enums.{number_of, id_of, number_of_id}
use Rattle.ksv_yaml_tree.specs.Numerals.{plain_number, signed_number}
use Rattle.ksv_schema_names.specs.Types.{keys_at, outer_of, from, nearest_row, type_named, enum_behind}
use Rattle.ksv_expr_tree.specs.Tree.{Tree}
use Rattle.ksv_expr_value.specs.Faults.{name_of}
use Rattle.ksv_expr_value.specs.Trail.{root}
use Rattle.ksv_expr_value.specs.declared.fault.Fault.{Fault}
use Rattle.ksv_expr_value.specs.declared.fault.FaultKind.TheVariants as kinds
use Rattle.ksv_expr_value.specs.declared.step.Step.{Step}
use Rattle.ksv_expr_value.specs.declared.step.Step.TheVariants.{Name}
use Rattle.ksv_expr_value.specs.declared.value.Value.{Value}
use Rattle.ksv_expr_value.specs.declared.value.Value.TheVariants as values
use Rattle.ksv_expr_meaning.specs.declared.want.Want.{Want}
use Rattle.ksv_expr_meaning.specs.declared.want.Want.TheVariants as wants
use Rattle.ksv_expr_meaning.specs.Heard.{Heard, Valued}
use Rattle.ksv_expr_value.specs.Setting.{Setting, NoElement}
use Rattle.ksv_expr_meaning.specs.Replying.{fault_at}
use Rattle.ksv_expr_meaning.specs.Evaluation.{Ev, wants_made}
use Rattle.ksv_schema_names.specs.Rows.{Declared, row_in}

-- an expression of the root, which is no element of a list
abbrev pub at_root : Setting
at_root = record { home = root; stream = record { from = 0; to = None }; place = at_byte 0; index = None; element = NoElement; here = root }

-- an integer, a truth value, a text between quotes, and a fault by its name
abbrev pub shown : Result Value Fault → List ℕ
shown (Ok (values.Int n)) = signed_decimal n
shown (Ok (values.Bool true)) = codes "true"
shown (Ok (values.Bool false)) = codes "false"
shown (Ok (values.Text t)) = codes "'" ++ t ++ codes "'"
shown (Ok v) = codes "another value"
shown (Err f) = codes "fault " ++ name_of f.kind

-- ---- expressions without a name

-- nothing has a value
abbrev pub nothing_there : Want → Result Heard Fault
nothing_there w = Err (fault_at root kinds.NoSuch)

abbrev pub tree_shown : Option Tree → List ℕ
tree_shown None = codes "no expression"
tree_shown (Some e) = shown (Ev nothing_there at_root e)

-- an expression, and what it is worth
pub record Row : Type 0 where
  pub text : List ℕ
  pub worth : List ℕ

abbrev row : List ℕ → List ℕ → Row
row text worth = record { text = text; worth = worth }

abbrev pub expressions : List Row
expressions =
    -- which operators bind tighter
    row (codes "1 + 2 * 3 == 7 and not false") (codes "true") ∷
    row (codes "(1 + 2) * 3 - 4 - 5") (codes "0") ∷
    row (codes "1 | 6 ^ 3 & 2 << 1") (codes "7") ∷
    row (codes "true or false and false") (codes "true") ∷
    row (codes "not 1 == 2") (codes "true") ∷
    row (codes "-2 * -3") (codes "6") ∷
    row (codes "false ? 1 : true ? 2 : 3") (codes "2") ∷
    -- operators on bits, over two's complement of any width
    row (codes "~0") (codes "-1") ∷
    row (codes "5 & -2") (codes "4") ∷
    row (codes "5 | -8") (codes "-3") ∷
    row (codes "-4 ^ 6") (codes "-6") ∷
    row (codes "-1 >> 1") (codes "-1") ∷
    row (codes "-8 >> 2") (codes "-2") ∷
    -- shifts by 0 to 63 places
    row (codes "1 << 63") (codes "9223372036854775808") ∷
    row (codes "1 << 64") (codes "fault overflow") ∷
    row (codes "0 >> 64") (codes "fault overflow") ∷
    row (codes "1 << -1") (codes "fault overflow") ∷
    -- the range of integers
    row (codes "18446744073709551615 + 0") (codes "18446744073709551615") ∷
    row (codes "18446744073709551615 + 1") (codes "fault overflow") ∷
    row (codes "0 - 9223372036854775808") (codes "-9223372036854775808") ∷
    row (codes "0 - 9223372036854775809") (codes "fault overflow") ∷
    -- quotients are rounded down, and a remainder has the divisor's sign
    row (codes "-7 / 2") (codes "-4") ∷
    row (codes "-7 % 2") (codes "1") ∷
    row (codes "7 / -2") (codes "-4") ∷
    row (codes "7 % -2") (codes "-1") ∷
    row (codes "1 / 0") (codes "fault zero-divisor") ∷
    row (codes "1 % 0") (codes "fault zero-divisor") ∷
    -- integers as they are written
    row (codes "1_000") (codes "1000") ∷
    row (codes "0xFf + 0b101") (codes "260") ∷
    -- texts
    row (codes "\"12\".to_i(3)") (codes "5") ∷
    row (codes "'-7f'.to_i(16)") (codes "-127") ∷
    row (codes "'1x'.to_i") (codes "fault bad-number") ∷
    row (codes "'abc'.substring(1, 3)") (codes "'bc'") ∷
    row (codes "'abc'.substring(1, 4)") (codes "fault bad-index") ∷
    row (codes "'abc'.reverse + 12.to_s") (codes "'cba12'") ∷
    row (codes "\"a\\tb\".length") (codes "3") ∷
    row (codes "'b' > 'abc'") (codes "true") ∷
    row (codes "'ab' + 'c' == 'abc'") (codes "true") ∷
    row (codes "'ab' != 'ab'") (codes "false") ∷
    -- comparisons
    row (codes "2 < 2 or 2 > 2 or 2 != 2") (codes "false") ∷
    row (codes "2 <= 2 and 2 >= 2 and -1 < 0 and +5 > 4") (codes "true") ∷
    row (codes "3 <= 2 or 2 >= 3") (codes "false") ∷
    row (codes "true.to_i + false.to_i") (codes "1") ∷
    row (codes "true == (1 < 2)") (codes "true") ∷
    -- what isn't needed isn't taken
    row (codes "false and (1 / 0 == 1)") (codes "false") ∷
    row (codes "(1 / 0 == 1) and false") (codes "fault zero-divisor") ∷
    row (codes "true or (1 / 0 == 1)") (codes "true") ∷
    row (codes "true ? 1 : 1 / 0") (codes "1") ∷
    -- values of other kinds
    row (codes "1 + 'a'") (codes "fault bad-type") ∷
    row (codes "1 and true") (codes "fault bad-type") ∷
    row (codes "not 1") (codes "fault bad-type") ∷
    -- no expressions
    row (codes "1 +") (codes "no expression") ∷
    row (codes "1 < 2 < 3") (codes "no expression") ∷
    row (codes "(1") (codes "no expression") ∷
    row (codes "01") (codes "no expression") ∷
    []

abbrev pub is_worth : Row → Bool
is_worth r = bytes_eq (tree_shown (expression_of r.text)) r.worth

expressions_are_worth : list_all is_worth expressions ≡ true
unfolding digits chars is_utf8 encode number_in at_end binary_of byte_at byte_from bytes_and bytes_at bytes_call bytes_with call_one call_two cast_to element_count element_path element_value field_of integer_and item_at last_element list_at list_method list_size member_and member_path member_value method_of object_of_type same_bytes special_of special_value stream_method stream_of stream_size text_and text_in truth_and truth_value value_of read read_list place_on select_on fits trail_of trail_when bind expression_of tokens_of enum_at all_numbered given_member numbered plain_number signed_number number_of id_of number_of_id row_in keys_at outer_of from nearest_row type_named enum_behind
expressions_are_worth = refl

-- ---- expressions of members

-- nothing is declared, so that a name is one of a member
abbrev pub undeclared : Declared
undeclared = record { types = []; enums = [] }

-- the tree of a text with the members `a`, `b` and `c`, whose names have the numbers 0, 1 and 2
abbrev pub of_members : List ℕ → Option Tree
of_members text = option_and_then (λ e. Some (numbered undeclared (codes "a" ∷ codes "b" ∷ codes "c" ∷ []) 0 e)) (expression_of text)

-- the steps of a path whose value is wanted
abbrev pub wanted_steps : Want → List Step
wanted_steps (wants.Value p) = p.upward
wanted_steps w = []

abbrev pub is_member : ℕ → List Step → Bool
is_member n (Name m ∷ []) = m == n
is_member n steps = false

-- `/a` is 6, `/b` has a fault, and `/c` is false
abbrev pub met_steps : List Step → Result Heard Fault
met_steps steps = if is_member 0 steps then Ok (Valued (values.Int (pos 6)))
    else if is_member 2 steps then Ok (Valued (values.Bool false))
    else Err (fault_at root kinds.EndOfBytes)

abbrev pub met : Want → Result Heard Fault
met w = met_steps (wanted_steps w)

-- what a tree is worth, and the paths that it wants, in order
abbrev pub told : Option Tree → List ℕ × List (List Step)
told None = (codes "no expression", [])
told (Some e) = (shown (Ev met at_root e), map wanted_steps (wants_made met at_root e))

-- `/a` and then `/a` again
twice_told : told (of_members (codes "a + a * 2")) ≡ (codes "18", (Name 0 ∷ []) ∷ (Name 0 ∷ []) ∷ [])
unfolding digits chars is_utf8 encode number_in at_end binary_of byte_at byte_from bytes_and bytes_at bytes_call bytes_with call_one call_two cast_to element_count element_path element_value field_of integer_and item_at last_element list_at list_method list_size member_and member_path member_value method_of object_of_type same_bytes special_of special_value stream_method stream_of stream_size text_and text_in truth_and truth_value value_of read read_list place_on select_on fits trail_of trail_when bind expression_of tokens_of enum_at all_numbered given_member numbered plain_number signed_number number_of id_of number_of_id row_in keys_at outer_of from nearest_row type_named enum_behind
twice_told = refl

-- `/a` and then `/b`, whose fault is the expression's
fault_told : told (of_members (codes "a + b")) ≡ (codes "fault end-of-bytes", (Name 0 ∷ []) ∷ (Name 1 ∷ []) ∷ [])
unfolding digits chars is_utf8 encode number_in at_end binary_of byte_at byte_from bytes_and bytes_at bytes_call bytes_with call_one call_two cast_to element_count element_path element_value field_of integer_and item_at last_element list_at list_method list_size member_and member_path member_value method_of object_of_type same_bytes special_of special_value stream_method stream_of stream_size text_and text_in truth_and truth_value value_of read read_list place_on select_on fits trail_of trail_when bind expression_of tokens_of enum_at all_numbered given_member numbered plain_number signed_number number_of id_of number_of_id row_in keys_at outer_of from nearest_row type_named enum_behind
fault_told = refl

-- after a fault nothing is wanted
first_fault_told : told (of_members (codes "b + a")) ≡ (codes "fault end-of-bytes", (Name 1 ∷ []) ∷ [])
unfolding digits chars is_utf8 encode number_in at_end binary_of byte_at byte_from bytes_and bytes_at bytes_call bytes_with call_one call_two cast_to element_count element_path element_value field_of integer_and item_at last_element list_at list_method list_size member_and member_path member_value method_of object_of_type same_bytes special_of special_value stream_method stream_of stream_size text_and text_in truth_and truth_value value_of read read_list place_on select_on fits trail_of trail_when bind expression_of tokens_of enum_at all_numbered given_member numbered plain_number signed_number number_of id_of number_of_id row_in keys_at outer_of from nearest_row type_named enum_behind
first_fault_told = refl

-- nor is what isn't needed
unneeded_told : told (of_members (codes "c and b == a")) ≡ (codes "false", (Name 2 ∷ []) ∷ [])
unfolding digits chars is_utf8 encode number_in at_end binary_of byte_at byte_from bytes_and bytes_at bytes_call bytes_with call_one call_two cast_to element_count element_path element_value field_of integer_and item_at last_element list_at list_method list_size member_and member_path member_value method_of object_of_type same_bytes special_of special_value stream_method stream_of stream_size text_and text_in truth_and truth_value value_of read read_list place_on select_on fits trail_of trail_when bind expression_of tokens_of enum_at all_numbered given_member numbered plain_number signed_number number_of id_of number_of_id row_in keys_at outer_of from nearest_row type_named enum_behind
unneeded_told = refl

-- of an element of what is no list nothing more is wanted than both
element_told : told (of_members (codes "a[a]")) ≡ (codes "fault bad-type", (Name 0 ∷ []) ∷ (Name 0 ∷ []) ∷ [])
unfolding digits chars is_utf8 encode number_in at_end binary_of byte_at byte_from bytes_and bytes_at bytes_call bytes_with call_one call_two cast_to element_count element_path element_value field_of integer_and item_at last_element list_at list_method list_size member_and member_path member_value method_of object_of_type same_bytes special_of special_value stream_method stream_of stream_size text_and text_in truth_and truth_value value_of read read_list place_on select_on fits trail_of trail_when bind expression_of tokens_of enum_at all_numbered given_member numbered plain_number signed_number number_of id_of number_of_id row_in keys_at outer_of from nearest_row type_named enum_behind
element_told = refl
