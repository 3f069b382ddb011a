use Rattle.ksv_schema.proofs.Common.{arith}
use Rattle.ksv_schema.specs.Values.{switch}
use Rattle.ksv_desc.proofs.Dots as Dots
use Rattle.ksv_schema.proofs.Noted as Noted
use Rattle.ksv_schema.proofs.values.types.switch.Goals as goal

pub returns-in-Some : goal.returns-in-Some
unfolding switch
returns-in-Some c = grind (arith, Noted.steps, Dots.steps)

pub returns-in-None : goal.returns-in-None
unfolding switch
returns-in-None c = grind (arith, Noted.steps, Dots.steps)
