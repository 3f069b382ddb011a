use Rattle.ksv_schema.proofs.Common.{arith}
use Rattle.ksv_desc.proofs.Dots as Dots
use Rattle.ksv_schema.proofs.Noted as Noted
use Rattle.ksv_schema.proofs.members.member.own_field.Goals as goal

pub returns : goal.returns
returns c = grind (arith, Noted.steps, Dots.steps)
