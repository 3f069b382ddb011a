-- What many proofs of this crate name, of its definitions and of other crates.
pub use Rattle.std.proofs.Common.{Bool, Err, List, None, Ok, Option, Result, Some, [], ap, arith, false, if◌then◌else◌, inl, inr, length, nat_le, nat_lt, refl}
pub use Rattle.std.proofs.Common.{subst, suc, sym, true, zero, ℕ, ◌++◌, ◌+◌, ◌-◌, ◌<◌, ◌||◌, ◌∙◌, ◌∷◌, ◌≡◌, ◌≤◌, ◌⊎◌}
pub use Rattle.std.proofs.lemmas.Bool.{cases_lt}
pub use Rattle.std.proofs.lemmas.Bool.Decides.{nat_tests}
pub use Rattle.std.specs.List.{AllByRecursion, flat_map, list_any}
pub use Rattle.std.specs.Prelude.{is_some, option_and_then, unwrap_or}
pub use Rattle.ksv_basics.specs.Plan.{Answer, Ask}
unfoldable pub use Rattle.ksv_basics.specs.Plan.{bind}
pub use Rattle.ksv_bytes.specs.Uses.{is_use_touched}
pub use Rattle.ksv_bytes.specs.declared.uses.Use.{Use}
pub use Rattle.ksv_desc.specs.Description.{Always, Content, Description, Field}
pub use Rattle.ksv_expr_value.proofs.Places.{byte_of_byte}
unfoldable pub use Rattle.ksv_expr_value.specs.Places.{at_byte}
pub use Rattle.ksv_expr_value.specs.Trail.{Trail, child, parent, trail_of-steps}
pub use Rattle.ksv_expr_value.specs.declared.fault.Fault.{Fault}
pub use Rattle.ksv_expr_value.specs.declared.value.Stream.{Stream}
pub use Rattle.ksv_memo_rules.proofs.Keeping.{AreDistinct-none}
pub use Rattle.ksv_memo_rules.specs.Evaluation.{is_among}
pub use Rattle.ksv_memo_rules.specs.Meaning.{Standing, on}
pub use Rattle.ksv_memo_rules.specs.Slots.{with_first}
pub use Rattle.ksv_nodes.specs.Numbers.{node_number}
pub use Rattle.ksv_nodes.specs.Reading.{Done, end_in, look}
pub use Rattle.ksv_nodes.specs.Rule.{Rule, See, ask_end, end_node, head_node, in_path}
pub use Rattle.ksv_nodes.specs.declared.given.Given.{Given}
pub use Rattle.ksv_nodes.specs.declared.given.Head.{Head}
pub use Rattle.ksv_nodes.specs.declared.node.Node.{Node}
pub use Rattle.ksv_nodes.specs.declared.node_fault.NodeFault.{NodeFault}
pub use Rattle.ksv_rule_meaning.specs.Described.{described}
unfoldable pub use Rattle.ksv_rule_meaning.specs.Fields.{field_of}
unfoldable pub use Rattle.ksv_rule_meaning.specs.Heads.{head_of, leaf, part_end, shape_at}
unfoldable pub use Rattle.ksv_rule_meaning.specs.Meaning.{meaning_of, rule_of}
pub use Rattle.ksv_list_laws.specs.Laws.{Tells, evaluated}
pub use Rattle.ksv_list_laws.specs.Lists.{Layout, content_size, is_named_to, size_at}
pub use Rattle.ksv_list_laws.specs.Nodes.{ElementEnd, ElementHead, FieldEnd, FieldHead, IsPlain, IsThere, Listing, MissingEnd, MissingHead, Rest}
pub use Rattle.ksv_list_laws.specs.Nodes.{SizeValue, Which, asked_by, element_reach, element_uses, end_reach, end_uses, guard_of, last_asked, later_asked}
pub use Rattle.ksv_list_laws.specs.Nodes.{node_at, nodes_of, prior_guard, prior_reach, reach_of, size_asked, start, uses_at}
