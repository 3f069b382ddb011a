-- What a text states, so that it computes: every definition on the way from the bytes of a text to its description is opened.
use Rattle.std.specs.Prelude.{ℕ, List, Option}
use Rattle.ksv_desc.specs.Description.{Description}
use Rattle.std.specs.Fmt.{digits}
use Rattle.std.specs.Str.{is_utf8, chars}
use lib.Utf8.{encode}
use Rattle.ksv_expr_syntax.specs.Reading.{read, read_list, place_on, select_on}
use Rattle.ksv_schema_names.specs.Enums.{number_of, id_of, id_of_number, number_of_id}
use Rattle.ksv_schema_names.specs.Members.{members_at_key, members_of, members_within, parameters_within, member_named}
use Rattle.ksv_yaml_tree.specs.Numerals.{plain_number, signed_number}
use Rattle.ksv_schema_names.specs.Rows.{row_in, types_of}
use Rattle.ksv_schema_names.specs.Types.{keys_at, outer_of, from, nearest_row, type_named, enum_behind, order_of, encoding_of}
use Rattle.ksv_schema_names.specs.BuiltIn.{is_bits, built_in}
use Rattle.ksv_schema_names.specs.Names.{enum_at}
use Rattle.ksv_schema_names.specs.Numbered.{given_member, numbered, all_numbered}
use Rattle.ksv_desc.specs.Names.{distinct, number_in, dotted, all_dotted}
use Rattle.ksv_schema.specs.Rules.{endian_faults, bit_endian_faults, form_faults, key_faults, against, ruled_faults, together}
use Rattle.ksv_schema.specs.Values.{of_expression, expression as read_expression, arguments as read_arguments, enumeration, item as read_item, contents as read_contents, order_at, encoding_at, of_type, of_case_key, case_value, case_against, case as read_case, switch as read_switch, typed as read_typed, choice as read_choice}
use Rattle.ksv_schema.specs.Members.{parts as read_parts, repeat_of, terminator_of, repeated, needs as read_needs, unsupported, field as read_field, attribute as read_attribute, parse_instance, value_instance, placeless, by_kind, member_keys, name_line, is_named_again, member as read_member}
use Rattle.ksv_schema.specs.Description.{entry_id, is_number_again, is_id_again, constant as read_constant, meta_faults, type_keys_faults, type_faults, line_past, members as read_members, all_members, all_enums, faults_of, faults, member_names, names_of, member_of, type_of as read_type_of, are_texts, described, stated_by, stated}
use Rattle.ksv_schema.specs.Valid.{alternative, alternatives, conditions, valid}
use Rattle.ksv_desc.specs.Description.{as_text}
use Rattle.ksv_schema.specs.Expressions.{tokens_of, expression_of, type_of as type_of_expressions}
use Rattle.ksv_schema.specs.Keys.{form_among, form_in, is_ignored, is_id}
use Rattle.ksv_schema.specs.KeyTexts.{encoding_named, type_text, byte_number, byte_at, looks_like_number, piece_of, case_key, ids_of}
use Rattle.ksv_examples.specs.Descriptions.{description}

unfoldable pub text_states : List (List ℕ) → Option Description
unfolding description read read_list place_on select_on plain_number signed_number enum_at distinct number_in given_member dotted all_dotted numbered all_numbered as_text tokens_of expression_of type_of_expressions is_ignored is_id encoding_named type_text byte_number byte_at looks_like_number piece_of case_key ids_of digits is_utf8 chars encode number_of id_of id_of_number number_of_id members_at_key members_of members_within parameters_within member_named row_in types_of keys_at outer_of from nearest_row type_named enum_behind order_of encoding_of is_bits built_in form_among form_in endian_faults bit_endian_faults form_faults key_faults against ruled_faults together of_expression read_expression read_arguments enumeration read_item read_contents order_at encoding_at of_type of_case_key case_value case_against read_case read_switch read_typed read_choice read_parts repeat_of terminator_of repeated alternative alternatives conditions valid read_needs unsupported read_field read_attribute parse_instance value_instance placeless by_kind member_keys name_line is_named_again read_member entry_id is_number_again is_id_again read_constant meta_faults type_keys_faults type_faults line_past read_members all_members all_enums faults_of faults member_names names_of member_of read_type_of are_texts described stated_by stated
text_states lines = description lines
