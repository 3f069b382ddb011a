use Rattle.ksv_schema_names.proofs.Common.{arith, common_steps}
use Rattle.ksv_schema_names.proofs.built_ins.number_type.Goals as goal

pub returns-in_ok-order_suffix-in-len2-up : goal.returns-in_ok-order_suffix-in-len2-up
returns-in_ok-order_suffix-in-len2-up c = grind (arith, common_steps)
