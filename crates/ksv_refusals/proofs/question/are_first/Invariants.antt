use Rattle.ksv_memo_rules.specs.Meaning.{on}
use Rattle.ksv_memo_rules.specs.Right.{IsRight}
use Rattle.ksv_refusals.proofs.question.are_first.Given as goal

abbrev pub invariant-loop-node : goal.invariant-loop-node
invariant-loop-node g l =
    (goal.iterator-loop-node g).can_next l.node-iterator ×
    (goal.iterator-loop-node g).is_finite l.node-iterator ×
    IsRight (on (g.R.Rules.meaning l.rules) l.bytes) l.engine.kept
