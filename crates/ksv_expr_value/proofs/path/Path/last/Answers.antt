use Rattle.ksv_expr_value.specs.Trail.{last-InRange}
use Rattle.ksv_expr_value.proofs.path.Path.last.Goals as goal

pub returns-clause-in_range : goal.returns-clause-in_range
returns-clause-in_range c = rw c.last_step.ensures (last-InRange c.args.self.now)
