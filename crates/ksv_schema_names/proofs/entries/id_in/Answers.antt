use Rattle.ksv_schema_names.proofs.Common.{arith, common_steps}
use Rattle.ksv_schema_names.proofs.entries.id_in.Goals as goal

pub returns-then-is_numbered : goal.returns-then-is_numbered
returns-then-is_numbered c = grind (arith, common_steps)

pub loop-entry-preserved : goal.loop-entry-preserved
loop-entry-preserved c = grind (arith, common_steps)

pub returns : goal.returns
returns c = grind (arith, common_steps)
