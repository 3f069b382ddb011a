-- What many proofs of this crate name, of its definitions and of other crates.
pub use Rattle.std.proofs.Common.{◌≡◌, ℕ, Bool, true, false, List, [], ◌∷◌, ◌++◌, length, arith, map, Option, None, refl, sym, ap, subst, ◌∙◌, zero, suc, ◌+◌}
pub use Rattle.std.proofs.Common.{◌-◌, ◌*◌, ◌≤◌, ◌<◌, ◌≢◌, Some, append_assoc, ◌⊎◌, inl, inr, cond}
pub use Rattle.std.proofs.lemmas.List.{append-nil}
pub use Rattle.std.proofs.lemmas.Grind.{common_steps}
pub use Rattle.std.specs.Prelude.{◌==◌, ◌&&◌, nat_lt}
pub use Rattle.std.specs.Str.{bytes_eq}
pub use Rattle.ksv_yaml_scan.proofs.Choices.{at_true, at_false, pick_true, pick_false}
pub use Rattle.ksv_yaml_scan.specs.Got.{Got, got, ◌>>=◌}
pub use Rattle.ksv_yaml_scan.specs.Lines.{Line, is_quiet, loud, is_nil, shown}
pub use Rattle.ksv_yaml_scan.specs.Starts.{InlineKind, Dashed, Start, Nothing, Dash, start_of, is_dash, is_key}
pub use Rattle.ksv_yaml_scan.specs.Tokens.{Token, Open, Close, OpenMap, CloseMap, Comma, Key}
pub use Rattle.ksv_yaml_scan.specs.Views.{tokens_view, lines_view, line_view}
pub use Rattle.ksv_yaml_tree.specs.Tree.{Tree, Pair, Text, Seq, Map, Items, no_items, item, Entries, no_entries, entry, AreDistinct}
pub use Rattle.ksv_yaml_tree.specs.View.{view, pair, items_of, entries_of}
pub use Rattle.ksv_yaml.specs.Code.{keys_of}
pub use Rattle.ksv_yaml.specs.Flow.{Flow}
pub use Rattle.ksv_yaml.specs.Grammar.{at_column, from_here, AreQuiet, Inlined, Node}
pub use Rattle.ksv_yaml.specs.Keys.{HoldsKeys}
pub use Rattle.ksv_yaml.specs.Reading.{is_among, deeper, inlined, unless_level, value_here, node, node_by, entries, entries_by, more_entries, value}
pub use Rattle.ksv_yaml.specs.Reading.{value_below, items, items_by, more_items, item_at, item_below, weight, flow, flow_items, flow_more, flow_entries}
pub use Rattle.ksv_yaml.specs.Reading.{flow_others, tree_of}
