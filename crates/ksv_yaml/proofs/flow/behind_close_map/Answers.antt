use Rattle.ksv_yaml.proofs.Common.{arith, common_steps}
use Rattle.ksv_yaml.proofs.flow.behind_close_map.Goals as goal

pub returns-in_default-clause-value : goal.returns-in_default-clause-value
returns-in_default-clause-value c = grind (arith, common_steps)

pub returns-in-CloseMap-clause-value : goal.returns-in-CloseMap-clause-value
returns-in-CloseMap-clause-value c = grind (arith, common_steps)

pub returns-in-CloseMap-clause-shorter : goal.returns-in-CloseMap-clause-shorter
returns-in-CloseMap-clause-shorter c = grind (arith, common_steps)
