-- Replies answer the questions of an expression.
use Rattle.ksv_basics.specs.Plan.{Handler}
use Rattle.ksv_basics.specs.Asking.{by_replies}
use Rattle.ksv_expr_value.specs.Trail.{Trail}
use Rattle.ksv_expr_meaning.specs.Heard.{Heard}
use Rattle.ksv_expr_meaning.specs.Asked.{State}
use Rattle.ksv_expr_value.specs.declared.fault.Fault.{Fault}
use Rattle.ksv_expr_value.specs.declared.fault.FaultKind.{FaultKind}
use Rattle.ksv_expr_meaning.specs.declared.want.Want.{Want}

-- a fault of an expression, at the path of its faults
abbrev pub fault_at : Trail → FaultKind → Fault
fault_at p k = record { kind = k; path = p }

-- replies answer the questions of an expression
abbrev pub replying : Handler Want (λ _. Heard) FaultKind State Want Fault
replying = by_replies fault_at
