-- What many proofs of this crate name, of its definitions and of other crates.
pub use Rattle.std.proofs.Common.{◌≡◌, ◌∙◌, ℕ, zero, suc, ◌≤◌, Bool, true, false, List, ◌∷◌, Option, Some, None, Result, Ok, Err, refl, sym, ap, arith}
pub use Rattle.std.proofs.Common.{if◌then◌else◌, [], subst, ◌+◌, ◌-◌, ◌<◌, length, inl, inr, ◌==◌, slice_get}
pub use Rattle.std.proofs.lemmas.Bool.{cases_Bool}
pub use Rattle.std.proofs.lemmas.Option.{same_Some}
pub use Rattle.std.proofs.lemmas.Bool.Decides.{nat_tests}
pub use Rattle.std.specs.List.{AllByRecursion}
pub use Rattle.std.specs.Prelude.{◌⊎◌}
pub use Rattle.ksv_basics.specs.Plan.{Answer, Fail, Ask}
unfoldable pub use Rattle.ksv_basics.specs.Plan.{bind}
pub use Rattle.ksv_desc.specs.Description.{Description, MemberOfType, MemberKind, Field, Repeat, Once, Eos, Expr, Until, Choice, Parameter, Attribute}
pub use Rattle.ksv_desc.specs.Description.{ParseInstance, ValueInstance, Always, Switch, Content}
pub use Rattle.ksv_expr_meaning.specs.Asked.{Eval}
pub use Rattle.ksv_expr_meaning.specs.Heard.{Heard}
unfoldable pub use Rattle.ksv_expr_meaning.specs.Meaning.{value_of}
pub use Rattle.ksv_expr_meaning.specs.declared.want.Want.{Want}
pub use Rattle.ksv_expr_tree.specs.Tree.{Tree}
pub use Rattle.ksv_expr_value.proofs.Places.{of_aligned}
pub use Rattle.ksv_expr_value.specs.Places.{Place, aligned}
unfoldable pub use Rattle.ksv_expr_value.specs.Places.{at_byte, byte_of, further}
pub use Rattle.ksv_expr_value.specs.Setting.{Setting}
pub use Rattle.ksv_expr_value.specs.Trail.{Trail, parent, last, child}
pub use Rattle.ksv_expr_value.specs.declared.step.Step.{Step}
pub use Rattle.ksv_expr_value.specs.declared.value.Stream.{Stream}
pub use Rattle.ksv_expr_value.specs.declared.value.Value.{Value}
pub use Rattle.ksv_nodes.specs.Reading.{Seen, look, end_in}
pub use Rattle.ksv_nodes.specs.Rule.{Rule, Of, See, ask_head, head_node, end_node, rest_node, ask_rest}
pub use Rattle.ksv_nodes.specs.Truth.{answer_of, with_given, with_seen}
pub use Rattle.ksv_nodes.specs.declared.given.Given.{Given}
pub use Rattle.ksv_nodes.specs.declared.given.Head.{Head}
pub use Rattle.ksv_nodes.specs.declared.given.Holder.{Holder}
pub use Rattle.ksv_nodes.specs.declared.given.Leaf.{Leaf}
pub use Rattle.ksv_nodes.specs.declared.given.MemberRef.{MemberRef}
pub use Rattle.ksv_nodes.specs.declared.given.Object.{Object}
pub use Rattle.ksv_nodes.specs.declared.given.ObjectEnd.{ObjectEnd}
pub use Rattle.ksv_nodes.specs.declared.given.Origin.{Origin}
pub use Rattle.ksv_nodes.specs.declared.node.Node.{Node}
pub use Rattle.ksv_nodes.specs.declared.node.NodeKind.{NodeKind}
pub use Rattle.ksv_nodes.specs.declared.node_fault.NodeFault.{NodeFault}
pub use Rattle.ksv_rule_meaning.specs.Ends.{start_of}
unfoldable pub use Rattle.ksv_rule_meaning.specs.Ends.{is_last}
pub use Rattle.ksv_rule_meaning.specs.Fields.{behind, Sought, last_attribute}
unfoldable pub use Rattle.ksv_rule_meaning.specs.Fields.{kind_of, members_of, sought, field_of}
unfoldable pub use Rattle.ksv_rule_meaning.specs.FromNothing.{from_nothing}
pub use Rattle.ksv_rule_meaning.specs.Heads.{origin_of, instance_setting, calc, start_after}
pub use Rattle.ksv_rule_meaning.specs.Wanted.{holds}
unfoldable pub use Rattle.ksv_rule_meaning.specs.Wanted.{truth_of, expression, stream_for}
pub use Rattle.ksv_rule_laws.specs.Laws.{ValueMeets, IsFieldOf, IsCountedBy, EndsAt, IsNoStream, Reads, IsContentOf, IsOfLeaf, IsLeafOf}
