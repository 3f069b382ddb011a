use Rattle.std.proofs.Common.{arith, refl, reverse}
use Rattle.ksv_expr_value.specs.Trail.{length-fits}
use Rattle.ksv_expr_value.proofs.Paths.{length-seen}
use Rattle.ksv_expr_value.proofs.path.Path.len.Goals as goal

pub returns-clause-small : goal.returns-clause-small
returns-clause-small c = omega (arith, length-fits _ c.self.inside.valid, length-seen c.self.inside.steps (reverse c.self.inside.steps) refl, c.len.ensures)
