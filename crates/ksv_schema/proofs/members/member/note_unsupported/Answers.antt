use Rattle.ksv_schema.proofs.Common.{arith}
use Rattle.ksv_schema.proofs.Noted.{steps}
use Rattle.ksv_schema.specs.Members.{unsupported}
use Rattle.ksv_schema.proofs.members.member.note_unsupported.Goals as goal

pub returns : goal.returns
unfolding unsupported
returns c = grind (arith, steps)
