use Rattle.ksv_schema.proofs.Common.{arith}
use Rattle.ksv_desc.proofs.Dots as Dots
use Rattle.ksv_schema.proofs.Noted as Noted
use Rattle.ksv_schema.proofs.values.valid.perhaps_alternatives.Goals as goal

pub returns-in-None : goal.returns-in-None
returns-in-None c = grind (arith, Noted.steps, Dots.steps)
