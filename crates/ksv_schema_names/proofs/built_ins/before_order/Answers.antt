use Rattle.ksv_schema_names.proofs.Common.{arith, common_steps}
use Rattle.ksv_schema_names.proofs.built_ins.before_order.Goals as goal

pub returns-then-eq-2 : goal.returns-then-eq-2
returns-then-eq-2 c = grind (arith, common_steps)
