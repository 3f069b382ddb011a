-- Who answers the wants of an expression.
use Rattle.ksv_basics.specs.Plan.{Handler}
use Rattle.ksv_expr_meaning.specs.Heard.{Heard}
use Rattle.ksv_expr_meaning.specs.declared.want.Want.{Want}
use Rattle.ksv_expr_value.specs.declared.fault.Fault.{Fault}
use Rattle.ksv_expr_value.specs.declared.fault.FaultKind.{FaultKind}

-- in states S, where an N may be needed first
abbrev pub Answering : Type 0 → Type 0 → Type 0
Answering S N = Handler Want (λ _. Heard) FaultKind S N Fault
