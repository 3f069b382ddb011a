use Rattle.ksv_memo_rules.specs.Meaning.{on}
use Rattle.ksv_memo_rules.specs.Right.{IsRight}
use Rattle.ksv_test_engine.specs.Rows.{rows_meaning}
use Rattle.ksv_test_engine.proofs.behind.answers_all.Given as goal

abbrev pub invariant-loop-number : goal.invariant-loop-number
invariant-loop-number l = IsRight (on (rows_meaning l.rules.rows.items) l.bytes) l.engine.kept
