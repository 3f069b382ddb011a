use Rattle.ksv_schema.proofs.Common.{arith, common_steps}
use Rattle.ksv_schema.proofs.members.number.number_content.Goals as goal

pub returns-in-Object : goal.returns-in-Object
returns-in-Object c = grind (arith, common_steps)
