use Rattle.ksv_yaml_scan.proofs.Common.{arith, common_steps}
use Rattle.ksv_yaml_scan.proofs.block.push_row.Goals as goal

pub returns-clause-text : goal.returns-clause-text
returns-clause-text c = grind (arith, common_steps)
