use Rattle.ksv_yaml.proofs.Common.{arith, common_steps}
use Rattle.ksv_yaml.proofs.flow.behind_close.Goals as goal

pub returns-in_default-clause-value : goal.returns-in_default-clause-value
returns-in_default-clause-value c = grind (arith, common_steps)

pub returns-in-Close-clause-value : goal.returns-in-Close-clause-value
returns-in-Close-clause-value c = grind (arith, common_steps)

pub returns-in-Close-clause-shorter : goal.returns-in-Close-clause-shorter
returns-in-Close-clause-shorter c = grind (arith, common_steps)
