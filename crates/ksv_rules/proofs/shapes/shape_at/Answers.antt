use Rattle.ksv_basics.proofs.Running.{run_bind}
use Rattle.ksv_rule_meaning.specs.Heads.{shape_at}
use Rattle.std.proofs.Common.{arith}
use Rattle.ksv_rules.proofs.shapes.shape_at.Goals as goal

pub returns-in_err-chosen : goal.returns-in_err-chosen
unfolding shape_at
returns-in_err-chosen c = grind (arith, run_bind)

pub returns : goal.returns
unfolding shape_at
returns c = grind (arith, run_bind)
