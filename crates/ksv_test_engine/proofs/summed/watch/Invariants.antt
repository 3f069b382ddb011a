use Rattle.ksv_memo_rules.specs.Meaning.{on}
use Rattle.ksv_memo_rules.specs.Right.{IsRight}
use Rattle.ksv_test_engine.specs.Sums.{sums_meaning}
use Rattle.ksv_test_engine.proofs.summed.watch.Given as goal

abbrev pub invariant-loop : goal.invariant-loop
invariant-loop l = (IsRight (on sums_meaning l.bytes) l.first.kept) × (IsRight (on sums_meaning l.bytes) l.second.kept)
