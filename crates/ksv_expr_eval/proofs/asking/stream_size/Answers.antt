use Rattle.ksv_basics.proofs.Running.{run_bind}
use Rattle.ksv_expr_meaning.specs.Meaning.{stream_size}
use Rattle.std.proofs.Common.{arith}
use Rattle.ksv_expr_eval.proofs.asking.stream_size.Goals as goal

pub returns-in_err-size-in-None : goal.returns-in_err-size-in-None
unfolding stream_size
returns-in_err-size-in-None g c = grind (arith, run_bind)

pub returns-in_ok-size-in-None : goal.returns-in_ok-size-in-None
unfolding stream_size
returns-in_ok-size-in-None g c = grind (arith, run_bind)
