use Rattle.ksv_schema.proofs.Common.{member, arith}
use Rattle.ksv_schema.proofs.Noted.{steps}
use Rattle.ksv_schema.proofs.members.member.member.Goals as goal

pub returns-in-Some : goal.returns-in-Some
unfolding member
returns-in-Some c = grind (arith, steps)

pub returns-in-None : goal.returns-in-None
unfolding member
returns-in-None c = grind (arith, steps)
