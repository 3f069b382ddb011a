-- What many proofs of this crate name, of its definitions and of other crates.
pub use Rattle.std.proofs.Common.{◌≡◌, ℕ, suc, List, [], ◌∷◌, ◌++◌, map, length, Option, refl, sym, ap, ◌∙◌, is_none, zero, ◌+◌, ◌<◌, Bool, true, false, cond}
pub use Rattle.std.proofs.Common.{◌&&◌, Some, None, arith, ◌≤◌, get_or, drop}
pub use Rattle.std.proofs.lemmas.Grind.{common_steps}
pub use Rattle.std.specs.List.{flat_map, position_from}
pub use Rattle.std.specs.Option.{option_map_or}
pub use Rattle.std.specs.Prelude.{find}
pub use Rattle.std.specs.Str.{bytes_eq}
pub use Rattle.ksv_expr_tree.specs.Tree.{Tree, view, path_of}
pub use Rattle.ksv_expr_tree.specs.declared.tree.Expr.{Expr}
pub use Rattle.ksv_yaml_tree.specs.View.{pair}
unfoldable pub use Rattle.ksv_schema_names.specs.Members.{members_of}
pub use Rattle.ksv_schema_names.specs.Names.{Other}
unfoldable pub use Rattle.ksv_schema_names.specs.Names.{part_faults, least}
pub use Rattle.ksv_schema_names.specs.Numbered.{numbered_word}
unfoldable pub use Rattle.ksv_schema_names.specs.Numbered.{numbered}
pub use Rattle.ksv_schema_names.specs.Rows.{Declared, Row}
unfoldable pub use Rattle.ksv_schema_names.specs.Rows.{row_in}
pub use Rattle.ksv_schema_names.specs.Table.{declared}
pub use Rattle.ksv_schema_names.specs.View.{member_of, row_of}
pub use Rattle.ksv_schema_names.specs.declared.position.NameFault.{NameFault}
pub use Rattle.ksv_schema_names.specs.declared.position.NameFault.TheVariants.{Unknown}
