use Rattle.std.proofs.Common.{◌∙◌, ap, reverse}
use Rattle.ksv_expr_value.specs.Trail.{same_trail}
use Rattle.ksv_expr_value.proofs.path.Path.copy.Goals as goal

pub returns : goal.returns
returns c = same_trail _ _ (ap reverse c.in_ok-steps.ensures) ∙ c.self.view_is
