use Rattle.ksv_schema.proofs.Common.{arith}
use Rattle.ksv_desc.proofs.Dots as dots
use Rattle.ksv_schema_names.proofs.Forms.{count_map}
use Rattle.ksv_schema.specs.Values.{of_type, arguments}
use Rattle.ksv_schema.proofs.Noted.{steps}
use Rattle.ksv_schema.proofs.values.types.object.Goals as goal

pub returns-in-Some : goal.returns-in-Some
unfolding of_type arguments
returns-in-Some c = grind (arith, steps, dots.steps, count_map)
