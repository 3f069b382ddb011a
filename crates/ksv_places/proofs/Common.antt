-- What many proofs of this crate name, of its definitions and of other crates.
pub use Rattle.std.proofs.Common.{◌≡◌, ℕ, zero, suc, ◌+◌, ◌<◌, List, ◌++◌, true, false, length, refl, ◌∙◌, ap, arith, ◌-◌, ◌≤◌, ◌⊎◌, inl, inr, ◌≢◌, set}
pub use Rattle.std.proofs.Common.{[], ◌∷◌, get_or, Some, sym, subst, slice_get, reverse, Result, Ok, Err, OnErr, take}
pub use Rattle.std.proofs.lemmas.Bool.{cases_lt, cases_eq}
pub use Rattle.std.proofs.lemmas.Bool.Decides.{nat_tests}
pub use Rattle.std.proofs.lemmas.List.{get_or_append_left, length-map, length_push, length-set, get_or-set_same, get_or-set_other, get_or_push, take_all}
pub use Rattle.std.proofs.lemmas.List.{get_or_default}
pub use Rattle.std.proofs.lemmas.Option.{slice_get-map, slice_get-get_or, slice_get_within, get_or_from_slice_get}
pub use Rattle.std.proofs.lemmas.Result.{on_ok_weaker}
pub use Rattle.std.proofs.lemmas.Grind.{common_steps}
pub use Rattle.std.specs.List.{list_any}
pub use Rattle.std.specs.Option.{option_map}
pub use Rattle.ksv_expr_value.specs.declared.step.Step.{Step}
pub use Rattle.ksv_expr_value.specs.declared.step.Step.TheVariants.{Name, Index}
pub use Rattle.ksv_nodes.specs.declared.node.NodeKind.{NodeKind}
pub use Rattle.ksv_nodes.specs.declared.node.NodeKind.TheVariants.{Head}
pub use Rattle.ksv_places.specs.Nodes.{all_named, AllFit, Placed}
pub use Rattle.ksv_places.specs.Spots.{with_mark, row_at, spot_at, node_of, nodes_of, IsFiled, spots_of, Spotted}
pub use Rattle.ksv_places.specs.Table.{IsPut, IsPutAt, first_of_both, number_at, part_at, table_at, Pages, IsApart, IsPartOf, shelf_at}
pub use Rattle.ksv_places.specs.Tree.{link_at, chain, is_name, look, IsTree, paths_of, IsMore, EndsAt}
pub use Rattle.ksv_places.specs.declared.links.Link.{Link}
pub use Rattle.ksv_places.specs.declared.links.Row.{Row}
pub use Rattle.ksv_places.specs.declared.links.Spot.{Spot}
