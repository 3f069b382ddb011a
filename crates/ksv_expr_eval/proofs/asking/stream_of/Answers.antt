use Rattle.ksv_basics.proofs.Running.{run_bind}
use Rattle.ksv_expr_meaning.specs.Meaning.{stream_of}
use Rattle.std.proofs.Common.{arith}
use Rattle.ksv_expr_eval.proofs.asking.stream_of.Goals as goal

pub returns-in_err-opened : goal.returns-in_err-opened
unfolding stream_of
returns-in_err-opened g c = grind (arith, run_bind)

pub returns : goal.returns
unfolding stream_of
returns g c = grind (arith, run_bind)
