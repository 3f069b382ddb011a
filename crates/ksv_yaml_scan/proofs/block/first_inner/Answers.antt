use Rattle.ksv_yaml_scan.proofs.Common.{arith, common_steps}
use Rattle.ksv_yaml_scan.proofs.Numbers.{number_at}
use Rattle.ksv_yaml_scan.proofs.block.first_inner.Goals as goal

pub returns-then-not-is_empty-clause-number : goal.returns-then-not-is_empty-clause-number
returns-then-not-is_empty-clause-number c = number_at c.args.lines.now c.loop-line.line-index c.line-item.result c.loop-line-test.true c.line-item.is

pub returns-then-not-is_empty-clause-indent : goal.returns-then-not-is_empty-clause-indent
returns-then-not-is_empty-clause-indent c = grind (arith, common_steps)

pub loop-line-preserved : goal.loop-line-preserved
loop-line-preserved c = grind (arith, common_steps)

pub returns-clause-indent : goal.returns-clause-indent
returns-clause-indent c = grind (arith, common_steps)
