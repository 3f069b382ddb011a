-- An expression in a rule, where the turn answers its wants.
use Rattle.std.proofs.Common.{◌≡◌}
use Rattle.ksv_basics.specs.Plan.{run}
use Rattle.ksv_basics.proofs.Running.{run_translate}
use Rattle.ksv_expr_tree.specs.Tree.{Tree}
use Rattle.ksv_expr_meaning.specs.Meaning.{value_of}
use Rattle.ksv_expr_value.specs.Setting.{Setting}
use Rattle.ksv_nodes.specs.Rule.{Here}
use Rattle.ksv_nodes.specs.Turning.{State, turns}
use Rattle.ksv_rule_meaning.specs.Wanted.{wanted, expression}
use Rattle.ksv_rules.specs.Met.{meeting}

-- its wants are met one after another
pub expression_met : (s : Setting) (e : Tree) (t : State) → run turns (expression s e) t ≡ run (meeting s) (value_of s e) t
unfolding expression
expression_met s e t = run_translate turns (wanted s) Here (value_of s e) t
