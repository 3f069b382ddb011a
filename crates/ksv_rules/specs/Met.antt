-- A turn answers the wants of expressions.
use Rattle.ksv_basics.specs.Plan.{run}
use Rattle.ksv_expr_eval.specs.Answering.{Answering}
use Rattle.ksv_expr_value.specs.Setting.{Setting}
use Rattle.ksv_nodes.specs.Rule.{Here}
use Rattle.ksv_nodes.specs.Turning.{State, turns}
use Rattle.ksv_nodes.specs.declared.node.Node.{Node}
use Rattle.ksv_rule_meaning.specs.Wanted.{wanted}

-- each want is met as a rule meets it, and an expression's own faults are the rule's own
abbrev pub meeting : Setting → Answering State Node
meeting s = record { reply = λ w t. run turns (wanted s w) t; raise = λ k t. turns.raise (Here k) t }
