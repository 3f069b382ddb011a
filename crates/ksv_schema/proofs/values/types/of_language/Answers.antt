use Rattle.ksv_schema.proofs.Common.{arith}
use Rattle.ksv_desc.proofs.Dots as Dots
use Rattle.ksv_schema.proofs.Noted as Noted
use Rattle.ksv_schema.proofs.values.types.of_language.Goals as goal

pub returns-in-Some : goal.returns-in-Some
returns-in-Some c = grind (arith, Noted.steps, Dots.steps)

pub returns-in-Some-encoding_at : goal.returns-in-Some-encoding_at
returns-in-Some-encoding_at c = grind (arith, Noted.steps, Dots.steps)

pub returns-in-None-encoding_at : goal.returns-in-None-encoding_at
returns-in-None-encoding_at c = grind (arith, Noted.steps, Dots.steps)
