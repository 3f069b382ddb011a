use Rattle.ksv_memo_rules.specs.Meaning.{on}
use Rattle.ksv_memo_rules.specs.Right.{IsRight}
use Rattle.ksv_test_engine.specs.Leaves.{leaves_meaning}
use Rattle.ksv_test_engine.proofs.sparing.goes_round.Given as goal

abbrev pub invariant-loop-round : goal.invariant-loop-round
invariant-loop-round l = IsRight (on leaves_meaning l.bytes) l.engine.kept
