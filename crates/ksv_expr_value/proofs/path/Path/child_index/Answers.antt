use Rattle.std.proofs.Common.{sym, ◌∷◌}
use Rattle.ksv_expr_value.specs.declared.step.Step.TheVariants.{Index}
use Rattle.ksv_expr_value.specs.Trail.{trail_of-false, fits-wide}
use Rattle.ksv_expr_value.proofs.path.Path.child_index.Goals as goal

pub returns-then-index-ge-MAX_INDEX : goal.returns-then-index-ge-MAX_INDEX
returns-then-index-ge-MAX_INDEX c =
    sym (trail_of-false (Index c.args.index ∷ c.args.self.now.upward) (fits-wide c.args.index c.args.self.now.upward c.if-index-ge-MAX_INDEX.true))
