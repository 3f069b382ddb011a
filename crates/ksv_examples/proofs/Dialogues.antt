-- The dialogues are those of the definitions.
use Rattle.std.proofs.Common.{◌≡◌, ℕ, Option, Some, None, option_and_then, refl}
use Rattle.std.specs.Fmt.{digits}
use Rattle.std.specs.Str.{chars, is_utf8}
use Rattle.hex.specs.Hex.{decode_pairs, encode_with}
use Rattle.json.specs.Print.{escape_byte}
use lib.Utf8.{encode}
use Rattle.ksv_desc.specs.Description.{as_text}
use Rattle.ksv_expr_meaning.specs.Meaning.{at_end, binary_of, byte_at, byte_from, bytes_and, bytes_at, bytes_call, bytes_with, call_one, call_two, cast_to, element_count, element_path, element_value, field_of, integer_and, item_at, last_element, list_at, list_method, list_size, member_and, member_path, member_value, method_of, object_of_type, same_bytes, special_of, special_value, stream_method, stream_of, stream_size, text_and, text_in, truth_and, truth_value, value_of}
use Rattle.ksv_expr_value.specs.Bits.{bits_from, bits_of_number}
use Rattle.ksv_expr_value.specs.Places.{at_byte, bit_in, bits_left, byte_in, byte_of, further}
use Rattle.ksv_expr_value.specs.Trail.{fits, trail_of, trail_when}
use Rattle.ksv_nodes.specs.Reading.{cut_uses, done_at, find_at, finish_of, found_from, found_none, peek_at, reach_file, reach_within}
use Rattle.ksv_basics.specs.Plan.{bind}
use Rattle.ksv_rule_meaning.specs.Checks.{checked, meets_each, meets_one, member_checked, value_checked}
use Rattle.ksv_rule_meaning.specs.Choosing.{case_for, choose, content_of, first_case, switched}
use Rattle.ksv_rule_meaning.specs.Ends.{stream_end, element_end, end_of, fields_end, is_last, list_end, next_rest, not_empty, object_end, part_rest, place_of, rest_from, rest_of, whole_rest}
use Rattle.ksv_rule_meaning.specs.Fields.{field_of as field_of_of_fields, kind_of, member_named, members_of, parameters_before, sought}
use Rattle.ksv_rule_meaning.specs.Heads.{attribute_at, attribute_head, attribute_start, bits_leaf, bytes_at as bytes_at_of_heads, content_at, count_of, counted, element_head, element_start, head_of, instance_head, leaf, leaf_to_end, member_at, member_head, next_start, object_at, part_end, positioned, positioned_in, repeated, run_of, shape_at, sized_leaf, sized_object, terminated, unchosen_at, until_eos, value_head}
use Rattle.ksv_rule_meaning.specs.Integers.{integer_value}
use Rattle.ksv_rule_meaning.specs.Meaning.{meaning_of, rule_of}
use Rattle.ksv_rule_meaning.specs.Values.{argument_at, argument_value, arguments_for, bits_value, bytes_value, calc_value, calculated, content_value, cut_bytes, fixed_value, instance_value, kept, leaf_value, number_value, parameter_value, plain_value, text_value, value_at, value_of as value_of_of_values}
use Rattle.ksv_rule_meaning.specs.Wanted.{expression, holds, integer_of, size_of, stream_for, truth_of, wanted}
use Rattle.ksv_questions.specs.Dumps.{asked_part, begun_part, dump_question, elements_part, find_list, find_object, find_value, list_part, members_part, object_part, part, unasked, value_part, whole_text}
use Rattle.ksv_questions.specs.Questions.{ask_end, ask_head, ask_value, first_asked, from_place, members_question, of_list, of_object, of_value, place_question, value_question}
use Rattle.ksv_questions.specs.Writing.{met_bytes, of_type, put_question}
use Rattle.ksv_texts.specs.Bits.{bits_hold, replaced_bits, with_bits}
use Rattle.ksv_texts.specs.Integers.{holds as holds_integer, integer_bytes, little_endian, number_type}
use Rattle.ksv_texts.specs.Parts.{failed_part, fault_part, member_part, plain_part}
use Rattle.ksv_texts.specs.Texts.{bytes_text, fault_text, fault_words, member_name, member_text, place_text, quoted_text}
use Rattle.ksv_desc.specs.Description.{Description}
use Rattle.ksv_session.specs.Kept.{nothing_kept}
use Rattle.ksv_session.specs.Session.{Standing, begun}
use Rattle.ksv_examples.specs.Descriptions.{description}
use Rattle.ksv_examples.specs.Depth.{answer_at, outcome_to, session_to}
use Rattle.ksv_examples.specs.Dialogues.{Dialogue, left_by, typed, GoesSo, Goes, edited_size, later_bytes, circle, up_to_a_comma, terminators, elements, conditional, streams, parents, faults, too_deep, line_ends, places, first, bitmap, picture, instances, windows, parameters, chosen, led_back, invalid, packed, around, FairlyGo, AreUnfair}
use Rattle.ksv_examples.specs.Stats.{Tells, TellsSo, checked_against, halves, circle_told, deleted_around, list_grows, long_list, long_sized_list, told_to, written_behind}
use Rattle.ksv_examples.specs.Walks.{walk_at}
use Rattle.ksv_examples.proofs.Stating.{text_states}
use Rattle.ksv_examples.proofs.Sessions.{session_is}
use Rattle.ksv_examples.proofs.Stats.{told_is}

-- in none of the dialogues do more nodes wait for one another
abbrev depth : ℕ
depth = 300

abbrev over : Dialogue → Option Description → Option Standing
over r o = option_and_then (λ d. session_to d depth (begun r.file) (typed r)) o

-- the same where lines `stats` tell what is kept
abbrev told_over : Dialogue → Option Description → Option Standing
told_over r o = option_and_then (λ d. told_to d depth (begun r.file) nothing_kept (typed r)) o

-- the session of a dialogue, so that it computes: every definition on the way is opened
unfoldable computed : Dialogue → Option Standing
unfolding session_to outcome_to answer_at text_states digits chars is_utf8 decode_pairs encode_with escape_byte encode as_text at_end binary_of byte_at byte_from bytes_and bytes_at bytes_call bytes_with call_one call_two cast_to element_count element_path element_value field_of integer_and item_at last_element list_at list_method list_size member_and member_path member_value method_of object_of_type same_bytes special_of special_value stream_method stream_of stream_size text_and text_in truth_and truth_value value_of fits trail_of trail_when cut_uses done_at find_at finish_of found_from found_none peek_at reach_file reach_within bind element_end end_of fields_end is_last list_end next_rest not_empty object_end stream_end part_rest place_of rest_from rest_of whole_rest field_of_of_fields member_named members_of sought attribute_at attribute_head attribute_start bytes_at_of_heads content_at count_of counted element_head element_start head_of leaf leaf_to_end member_at member_head next_start object_at part_end repeated run_of shape_at sized_leaf sized_object terminated until_eos integer_value meaning_of rule_of bytes_value content_value cut_bytes fixed_value kept leaf_value number_value text_value checked meets_each meets_one member_checked value_checked value_at value_of_of_values expression holds integer_of size_of truth_of wanted ask_end ask_head ask_value first_asked from_place members_question of_list of_object of_value place_question value_question bytes_text fault_text fault_words member_name member_text quoted_text asked_part begun_part dump_question elements_part failed_part fault_part find_list find_object find_value list_part member_part members_part object_part part plain_part unasked value_part whole_text holds_integer integer_bytes number_type little_endian of_type put_question case_for choose content_of first_case switched kind_of parameters_before instance_head positioned positioned_in unchosen_at value_head argument_at argument_value arguments_for calc_value calculated instance_value parameter_value plain_value stream_for bits_from bits_of_number at_byte bit_in bits_left byte_in byte_of further bits_leaf bits_value met_bytes bits_hold replaced_bits with_bits place_text
computed r = over r (description r.lines)

unfoldable told : Dialogue → Option Standing
unfolding computed told_to walk_at
told r = told_over r (description r.lines)

goes_so : (r : Dialogue) (o : Option Description) → over r o ≡ Some (left_by r) → GoesSo r o
goes_so r None e = absurd (cc)
goes_so r (Some d) e = session_is d depth (begun r.file) (typed r) (left_by r) e

goes : (r : Dialogue) → over r (description r.lines) ≡ Some (left_by r) → Goes r
goes r e = goes_so r (description r.lines) e

tells_so : (r : Dialogue) (o : Option Description) → told_over r o ≡ Some (left_by r) → TellsSo r o
tells_so r None e = absurd (cc)
tells_so r (Some d) e = told_is d depth (begun r.file) nothing_kept (typed r) (left_by r) e

tells : (r : Dialogue) → told_over r (description r.lines) ≡ Some (left_by r) → Tells r
tells r e = tells_so r (description r.lines) e

-- ---- each of the dialogues goes as it is written

pub edited_size_goes : Goes edited_size
unfolding computed
edited_size_goes = goes edited_size refl

pub later_bytes_goes : Goes later_bytes
unfolding computed
later_bytes_goes = goes later_bytes refl

pub circle_goes : Goes circle
unfolding computed
circle_goes = goes circle refl

pub up_to_a_comma_goes : Goes up_to_a_comma
unfolding computed
up_to_a_comma_goes = goes up_to_a_comma refl

pub terminators_goes : Goes terminators
unfolding computed
terminators_goes = goes terminators refl

pub elements_goes : Goes elements
unfolding computed
elements_goes = goes elements refl

pub conditional_goes : Goes conditional
unfolding computed
conditional_goes = goes conditional refl

pub streams_goes : Goes streams
unfolding computed
streams_goes = goes streams refl

pub parents_goes : Goes parents
unfolding computed
parents_goes = goes parents refl

pub faults_goes : Goes faults
unfolding computed
faults_goes = goes faults refl

pub too_deep_goes : Goes too_deep
unfolding computed
too_deep_goes = goes too_deep refl

pub line_ends_goes : Goes line_ends
unfolding computed
line_ends_goes = goes line_ends refl

pub places_goes : Goes places
unfolding computed
places_goes = goes places refl

pub first_goes : Goes first
unfolding computed
first_goes = goes first refl

pub bitmap_goes : Goes bitmap
unfolding computed
bitmap_goes = goes bitmap refl

pub picture_goes : Goes picture
unfolding computed
picture_goes = goes picture refl

pub instances_goes : Goes instances
unfolding computed
instances_goes = goes instances refl

pub windows_goes : Goes windows
unfolding computed
windows_goes = goes windows refl

pub parameters_goes : Goes parameters
unfolding computed
parameters_goes = goes parameters refl

pub chosen_goes : Goes chosen
unfolding computed
chosen_goes = goes chosen refl

pub led_back_goes : Goes led_back
unfolding computed
led_back_goes = goes led_back refl

pub invalid_goes : Goes invalid
unfolding computed
invalid_goes = goes invalid refl

pub packed_goes : Goes packed
unfolding computed
packed_goes = goes packed refl

pub around_goes : Goes around
unfolding computed
around_goes = goes around refl

-- ---- what `stats` tells

pub list_grows_tells : Tells list_grows
unfolding told
list_grows_tells = tells list_grows refl

pub long_list_tells : Tells long_list
unfolding told
long_list_tells = tells long_list refl

pub long_sized_list_tells : Tells long_sized_list
unfolding told
long_sized_list_tells = tells long_sized_list refl

pub deleted_around_tells : Tells deleted_around
unfolding told
deleted_around_tells = tells deleted_around refl

pub written_behind_tells : Tells written_behind
unfolding told
written_behind_tells = tells written_behind refl

pub halves_tells : Tells halves
unfolding told
halves_tells = tells halves refl

pub checked_against_tells : Tells checked_against
unfolding told
checked_against_tells = tells checked_against refl

pub circle_told_tells : Tells circle_told
unfolding told
circle_told_tells = tells circle_told refl

-- ---- lines that are refused memory

pub fairly_go : FairlyGo
unfolding computed
fairly_go d = refl

pub are_unfair : AreUnfair
unfolding computed
are_unfair d = (refl, (refl, (refl, (refl, (refl, (refl, (refl, (refl, (refl, (refl, tt))))))))))
