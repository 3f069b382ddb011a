-- What many proofs of this crate name, of its definitions and of other crates.
pub use Rattle.std.proofs.Common.{◌≡◌, ℕ, suc, ◌+◌, ◌<◌, ◌≤◌, true, false, List, [], ◌∷◌, ◌++◌, length, Option, Some, None, refl, sym, ap, subst, ◌∙◌}
pub use Rattle.std.proofs.Common.{append_assoc, arith, if◌then◌else◌, ◌≢◌, zero, Bool, map, ◌*◌, ◌&&◌, take, inl, inr, length-append, string_bytes}
pub use Rattle.std.proofs.lemmas.Bool.{and_parts}
pub use Rattle.std.proofs.lemmas.List.{map-append, append-nil}
pub use Rattle.std.proofs.lemmas.Result.{err_from_is_err_and}
pub use Rattle.std.proofs.lemmas.Grind.{common_steps}
pub use Rattle.std.specs.Prelude.{◌==◌, take_while, IsUtf8, encode_utf8}
pub use Rattle.ksv_expr_tree.specs.Tree.{Tree, literal, unary, binary, choice, call, index, cast, Arguments, no_arguments, argument, view}
pub use Rattle.ksv_expr_tree.specs.Tree.{arguments_of, string}
pub use Rattle.ksv_expr_tree.specs.declared.tree.BinaryOperator.{BinaryOperator}
pub use Rattle.ksv_expr_tree.specs.declared.tree.UnaryOperator.{UnaryOperator}
pub use Rattle.ksv_expr_syntax.specs.Cutting.{cut_at, put, quoted, cut}
pub use Rattle.ksv_expr_syntax.specs.Grammar.{parts, all_parts, Level, Whole, Joined, Negation, Comparison, Prefix, Postfix, Primary, tighter, join_tree}
pub use Rattle.ksv_expr_syntax.specs.Grammar.{select_tree, is_left_out, path_tokens, Spells, pick, no_pick, join, no_join, negation, no_negation, compare}
pub use Rattle.ksv_expr_syntax.specs.Grammar.{no_compare, prefixed, no_prefix, selected, called, converted, indexed, no_postfix, literal_alone, name_alone}
pub use Rattle.ksv_expr_syntax.specs.Grammar.{enum_member, group}
pub use Rattle.ksv_expr_syntax.specs.Lexemes.{Lexeme, constant, word, symbol, lexemes}
pub use Rattle.ksv_expr_syntax.specs.Reading.{Next, Found, FoundList, found, found_list, next, ◌>>=◌, choose, spend, after, operator_at, comparison_at}
pub use Rattle.ksv_expr_syntax.specs.Reading.{prefix_at, path_at, path_on, path_tree, all_but_last, last_name, room, reads, picks, arms, joins, negates}
pub use Rattle.ksv_expr_syntax.specs.Reading.{compares, prefixes, goes_on, places, selects, groups, reads_list, reads_more, wide}
unfoldable pub use Rattle.ksv_expr_syntax.specs.Reading.{read, read_list}
pub use Rattle.ksv_expr_syntax.specs.Symbols.{operator, comparison, prefix, spelling}
pub use Rattle.ksv_expr_syntax.specs.Tokens.{is_name_byte, natural}
pub use Rattle.ksv_expr_syntax.specs.declared.token.Infix.{Infix}
pub use Rattle.ksv_expr_syntax.specs.declared.token.Placed.{Placed}
pub use Rattle.ksv_expr_syntax.specs.declared.token.Precedence.{Precedence}
pub use Rattle.ksv_expr_syntax.specs.declared.token.Symbol.{Symbol}
