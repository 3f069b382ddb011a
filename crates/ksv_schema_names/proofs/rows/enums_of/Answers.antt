use Rattle.ksv_schema_names.proofs.Common.{arith, common_steps}
use Rattle.ksv_schema_names.proofs.rows.enums_of.Goals as goal

pub loop-n-preserved : goal.loop-n-preserved
loop-n-preserved c = grind (arith, common_steps)

pub returns : goal.returns
returns c = grind (arith, common_steps)
