use Rattle.ksv_yaml.proofs.Common.{arith, common_steps}
use Rattle.ksv_yaml.proofs.flow.key_at.Goals as goal

pub returns-in_default-clause-value : goal.returns-in_default-clause-value
returns-in_default-clause-value c = grind (arith, common_steps)

pub returns-in-Key-clause-value : goal.returns-in-Key-clause-value
returns-in-Key-clause-value c = grind (arith, common_steps)

pub returns-in-Key-clause-shorter : goal.returns-in-Key-clause-shorter
returns-in-Key-clause-shorter c = grind (arith, common_steps)
