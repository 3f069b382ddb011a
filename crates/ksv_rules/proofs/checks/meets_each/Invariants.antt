use Rattle.std.proofs.Common.{◌≡◌, map, drop}
use Rattle.ksv_basics.specs.Plan.{run}
use Rattle.ksv_expr_tree.specs.Tree.{view}
use Rattle.ksv_nodes.specs.Turning.{turns}
use Rattle.ksv_rule_meaning.specs.Checks.{meets_each}
use Rattle.ksv_rules.proofs.checks.meets_each.Given as goal

abbrev pub invariant-loop-condition : goal.invariant-loop-condition
invariant-loop-condition l = run turns (meets_each l.ctx (map view (drop l.condition-index l.conditions))) l.turn
    ≡ run turns (meets_each l.ctx (map view l.conditions)) l.fn.turn
