use Rattle.ksv_schema.proofs.Common.{arith}
use Rattle.ksv_schema.specs.Values.{enumeration}
use Rattle.ksv_desc.proofs.Dots as Dots
use Rattle.ksv_schema.proofs.Noted as Noted
use Rattle.ksv_schema.proofs.values.value.enumeration.Goals as goal

pub returns-in-Some-enum_named : goal.returns-in-Some-enum_named
unfolding enumeration
returns-in-Some-enum_named c = grind (arith, Noted.steps, Dots.steps)
