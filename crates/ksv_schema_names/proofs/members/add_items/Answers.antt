use Rattle.ksv_schema_names.proofs.Common.{arith, common_steps}
use Rattle.ksv_schema_names.proofs.members.add_items.Goals as goal

pub loop-number-preserved : goal.loop-number-preserved
loop-number-preserved c = grind (arith, common_steps)

pub returns : goal.returns
returns c = grind (arith, common_steps)
