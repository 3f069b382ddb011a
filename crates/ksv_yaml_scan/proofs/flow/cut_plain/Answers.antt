use Rattle.ksv_yaml_scan.proofs.Common.{arith, common_steps}
use Rattle.ksv_yaml_scan.proofs.flow.cut_plain.Goals as goal

pub returns-in-Comment : goal.returns-in-Comment
returns-in-Comment c = grind (arith, common_steps)
