use Rattle.ksv_yaml.proofs.Common.{arith, common_steps}
use Rattle.ksv_yaml.proofs.flow.behind_comma.Goals as goal

pub returns-in_default-clause-value : goal.returns-in_default-clause-value
returns-in_default-clause-value c = grind (arith, common_steps)

pub returns-in-Comma-clause-value : goal.returns-in-Comma-clause-value
returns-in-Comma-clause-value c = grind (arith, common_steps)

pub returns-in-Comma-clause-shorter : goal.returns-in-Comma-clause-shorter
returns-in-Comma-clause-shorter c = grind (arith, common_steps)
