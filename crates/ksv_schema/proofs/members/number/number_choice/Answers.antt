use Rattle.ksv_schema.proofs.Common.{arith, common_steps}
use Rattle.ksv_schema.proofs.members.number.number_choice.Goals as goal

pub returns-in-Switch : goal.returns-in-Switch
returns-in-Switch c = grind (arith, common_steps)
