use Rattle.ksv_yaml_scan.proofs.Common.{arith, common_steps}
use Rattle.ksv_yaml_scan.proofs.quoted.push_code.Goals as goal

pub returns-in_ok-push-3 : goal.returns-in_ok-push-3
returns-in_ok-push-3 c = grind (arith, common_steps)

pub returns-in_ok-push-6 : goal.returns-in_ok-push-6
returns-in_ok-push-6 c = grind (arith, common_steps)
