use Rattle.ksv_yaml_scan.proofs.Common.{arith, common_steps}
use Rattle.ksv_yaml_scan.proofs.start.read_marked.Goals as goal

pub returns-in-None-clause-err : goal.returns-in-None-clause-err
returns-in-None-clause-err c = grind (arith, common_steps)
