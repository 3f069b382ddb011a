use Rattle.ksv_yaml_scan.proofs.Common.{arith, common_steps}
use Rattle.ksv_yaml_scan.proofs.flow.cut_part.Goals as goal

pub returns-in_default-byte : goal.returns-in_default-byte
returns-in_default-byte c = grind (arith, common_steps)
