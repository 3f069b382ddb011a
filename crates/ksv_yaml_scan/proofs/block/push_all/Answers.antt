use Rattle.ksv_yaml_scan.proofs.Common.{arith, common_steps}
use Rattle.ksv_yaml_scan.proofs.block.push_all.Goals as goal

pub loop-preserved : goal.loop-preserved
loop-preserved c = grind (arith, common_steps)
