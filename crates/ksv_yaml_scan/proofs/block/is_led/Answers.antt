use Rattle.ksv_yaml_scan.proofs.Common.{arith, common_steps}
use Rattle.ksv_yaml_scan.proofs.block.is_led.Goals as goal

pub returns-then-not-is_empty : goal.returns-then-not-is_empty
returns-then-not-is_empty c = grind (arith, common_steps)

pub returns-then-line-indent : goal.returns-then-line-indent
returns-then-line-indent c = grind (arith, common_steps)

pub loop-line-preserved : goal.loop-line-preserved
loop-line-preserved c = grind (arith, common_steps)

pub returns : goal.returns
returns c = grind (arith, common_steps)
