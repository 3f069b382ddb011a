-- What many proofs of this crate name, of its definitions and of other crates.
pub use Rattle.std.proofs.Common.{◌≡◌, ℕ, zero, suc, ◌+◌, ◌≤◌, Bool, true, false, if◌then◌else◌, List, [], ◌∷◌, ◌++◌, length, Option, Some, None, Result, Ok}
pub use Rattle.std.proofs.Common.{Err, sym, subst, arith, ◌<◌, ◌==◌, take, drop, refl, ap, ◌∙◌}
pub use Rattle.std.specs.List.{AllByRecursion}
pub use Rattle.std.specs.Prelude.{slice_range}
pub use Rattle.ksv_basics.specs.Plan.{Answer, Fail, Ask, next, run, behind, Done, Need}
pub use Rattle.ksv_bytes.specs.Uses.{AgreeOn}
pub use Rattle.ksv_bytes.specs.declared.uses.Use.{Use}
pub use Rattle.ksv_expr_value.specs.Trail.{Trail}
pub use Rattle.ksv_expr_value.specs.declared.fault.Fault.{Fault}
pub use Rattle.ksv_memo_rules.specs.Slots.{lent}
pub use Rattle.ksv_nodes.specs.Reading.{look, first_at, Reading}
pub use Rattle.ksv_nodes.specs.Rule.{Rule, Of, See, part}
pub use Rattle.ksv_nodes.specs.Turning.{State, replied, seen_in, turns, come}
pub use Rattle.ksv_nodes.specs.declared.given.Given.{Given}
pub use Rattle.ksv_nodes.specs.declared.node.Node.{Node}
