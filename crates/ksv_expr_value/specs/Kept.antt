-- Where the steps of a path lie: the first ones of an array, or those of a vector.
use Rattle.std.specs.Prelude.{List, take}
use Rattle.ksv_expr_value.specs.declared.step.Step.{Step}
use Rattle.ksv_expr_value.specs.declared.steps.Few.{Few}
use Rattle.ksv_expr_value.specs.declared.steps.Kept.{Kept}
use Rattle.ksv_expr_value.specs.declared.steps.Kept.TheVariants as kept

abbrev pub steps_of : Few → List Step
steps_of f = take f.count f.steps

abbrev pub steps_in : Kept → List Step
steps_in (kept.Few f) = steps_of f
steps_in (kept.Many v) = v.items
