use Rattle.ksv_schema.proofs.Common.{arith}
use Rattle.ksv_desc.proofs.Dots as Dots
use Rattle.ksv_schema.proofs.Noted as Noted
use Rattle.ksv_schema.proofs.values.valid.any_of.Goals as goal

pub returns-in_ok-one_or_some-in-Some : goal.returns-in_ok-one_or_some-in-Some
returns-in_ok-one_or_some-in-Some c = grind (arith, Noted.steps, Dots.steps)

pub returns-in-None : goal.returns-in-None
returns-in-None c = grind (arith, Noted.steps, Dots.steps)
