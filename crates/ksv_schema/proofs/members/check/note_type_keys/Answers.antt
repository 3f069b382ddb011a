use Rattle.ksv_schema.proofs.Common.{arith}
use Rattle.ksv_schema.proofs.Noted.{steps}
use Rattle.ksv_schema.specs.Description.{type_keys_faults}
use Rattle.ksv_schema.proofs.members.check.note_type_keys.Goals as goal

pub returns-in-Some : goal.returns-in-Some
unfolding type_keys_faults
returns-in-Some c = grind (arith, steps)

pub returns-in-None : goal.returns-in-None
unfolding type_keys_faults
returns-in-None c = grind (arith, steps)
