use Rattle.std.proofs.Common.{◌≡◌, take}
use Rattle.ksv_expr_value.specs.Kept.{steps_of}
use Rattle.ksv_expr_value.proofs.steps.Few.of.Given as goal

abbrev pub invariant-loop-step : goal.invariant-loop-step
invariant-loop-step l = steps_of l.few ≡ take l.step-index l.steps
