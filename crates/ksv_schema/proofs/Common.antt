-- What many proofs of this crate name, of its definitions and of other crates.
pub use Rattle.std.proofs.Common.{◌≡◌, List, refl, sym, ap, ◌∙◌, Option, Some, None, ℕ, Bool, true, false, cond, arith, suc, ◌+◌, ◌<◌, ◌≤◌, [], ◌∷◌, map}
pub use Rattle.std.proofs.Common.{length, get_or, drop, add-one, drop-cons, ◌++◌, zero, subst, take, option_map, string_bytes}
pub use Rattle.std.proofs.lemmas.Bool.{not-false, and_parts}
pub use Rattle.std.proofs.lemmas.Bool.Decides.{nat_tests}
pub use Rattle.std.proofs.lemmas.List.{drop_all, map-append}
pub use Rattle.std.proofs.lemmas.Grind.{common_steps}
pub use Rattle.std.specs.List.{list_all, flat_map}
pub use Rattle.std.specs.Option.{option_map_or}
pub use Rattle.std.specs.Prelude.{nat_lt, ◌==◌, codes, not, is_some, option_and_then, ◌||◌, ◌&&◌, slice_get}
pub use Rattle.std.specs.Str.{bytes_eq, is_utf8}
pub use Rattle.ksv_desc.proofs.Dots.{distinct_append}
pub use Rattle.ksv_desc.specs.Description.{Enum, Description}
unfoldable pub use Rattle.ksv_desc.specs.Description.{as_text}
pub use Rattle.ksv_desc.specs.Names.{distinct_behind}
pub use Rattle.ksv_desc.specs.Pieces.{plain_kind, plain_entry, plain_enum, plain_case}
pub use Rattle.ksv_desc.specs.Resolved.{IfAny, IsThere, IsResolvedTree, Each}
pub use Rattle.ksv_expr_syntax.specs.Reading.{◌>>=◌}
pub use Rattle.ksv_expr_tree.specs.Tree.{view}
pub use Rattle.ksv_schema_names.proofs.Found.{is_bound}
pub use Rattle.ksv_schema_names.specs.Members.{Member}
unfoldable pub use Rattle.ksv_schema_names.specs.Members.{members_of}
pub use Rattle.ksv_schema_names.specs.Rows.{Row, keys_of, Declared}
pub use Rattle.ksv_schema_names.specs.Table.{declared}
pub use Rattle.ksv_schema_names.specs.View.{row_of}
pub use Rattle.ksv_yaml_tree.specs.Keys.{entries_at, text_at}
pub use Rattle.ksv_yaml_tree.specs.Tree.{Tree, text_of, Pair, line_of, mapping_of, entry_at, list_of}
pub use Rattle.ksv_yaml_tree.specs.View.{pair}
pub use Rattle.ksv_yaml_tree.specs.declared.numeral.Numeral.TheVariants.{Whole, LeadingZero, NoNumeral}
pub use Rattle.ksv_schema.specs.Code.{seen_fault, IsRead, Reads, paired}
pub use Rattle.ksv_schema.specs.Description.{enum, Context, in_tree, in_case, all_types_faults}
unfoldable pub use Rattle.ksv_schema.specs.Description.{constant, all_enums, type_faults, members, are_texts}
unfoldable pub use Rattle.ksv_schema.specs.Expressions.{expression_of}
pub use Rattle.ksv_schema.specs.Faults.{Fault, bad_value, fault_if, missing_key, left_out}
unfoldable pub use Rattle.ksv_schema.specs.Faults.{noted}
pub use Rattle.ksv_schema.specs.KeyTexts.{BadPiece, names_in}
unfoldable pub use Rattle.ksv_schema.specs.KeyTexts.{piece_of}
unfoldable pub use Rattle.ksv_schema.specs.Keys.{is_id, form_in, is_ignored, form_among}
unfoldable pub use Rattle.ksv_schema.specs.Members.{member}
pub use Rattle.ksv_schema.specs.Plain.{context_of}
pub use Rattle.ksv_schema.specs.Reading.{Reading, made, both, each_from, must, each}
pub use Rattle.ksv_schema.specs.Rules.{keys_faults}
unfoldable pub use Rattle.ksv_schema.specs.Rules.{form_faults, ruled_faults}
pub use Rattle.ksv_schema.specs.Values.{Home, items}
unfoldable pub use Rattle.ksv_schema.specs.Values.{expression}
pub use Rattle.ksv_schema.specs.declared.keys.forms.MappingKind.{MappingKind}
