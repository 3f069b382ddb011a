use Rattle.ksv_schema.proofs.Common.{arith}
use Rattle.ksv_schema.proofs.Least.{noted_cons}
use Rattle.ksv_schema.specs.Members.{placeless}
use Rattle.ksv_desc.proofs.Dots as Dots
use Rattle.ksv_schema.proofs.Noted as Noted
use Rattle.ksv_schema.proofs.members.member.placeless.Goals as goal

pub returns : goal.returns
unfolding placeless
returns c = grind (arith, Noted.steps, noted_cons, Dots.steps)
