use Rattle.ksv_schema.proofs.Common.{arith}
use Rattle.ksv_schema.proofs.Noted.{steps}
use Rattle.ksv_schema.specs.Description.{entry_id}
use Rattle.ksv_schema.proofs.members.enumeration.entry_id.Goals as goal

pub returns-in-Some-find : goal.returns-in-Some-find
unfolding entry_id
returns-in-Some-find c = grind (arith, steps)

pub returns-in-None : goal.returns-in-None
unfolding entry_id
returns-in-None c = grind (arith, steps)
