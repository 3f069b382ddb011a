use Rattle.ksv_memo_rules.specs.Meaning.{on}
use Rattle.ksv_memo_rules.specs.Right.{IsRight}
use Rattle.ksv_test_engine.specs.Leaves.{leaves_meaning}
use Rattle.ksv_test_engine.proofs.sparing.are_sizes.Given as goal

abbrev pub invariant-loop-number : goal.invariant-loop-number
invariant-loop-number l = IsRight (on leaves_meaning l.bytes) l.engine.kept
