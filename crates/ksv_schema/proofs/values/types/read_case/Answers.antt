use Rattle.ksv_schema.proofs.Common.{arith}
use Rattle.ksv_desc.proofs.Dots as dots
use Rattle.ksv_schema.specs.Values.{case}
use Rattle.ksv_schema.proofs.Noted.{steps}
use Rattle.ksv_schema.proofs.values.types.read_case.Goals as goal

pub returns-in-Some : goal.returns-in-Some
unfolding case
returns-in-Some c = grind (arith, steps, dots.steps)
