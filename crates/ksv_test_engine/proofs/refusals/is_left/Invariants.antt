use Rattle.ksv_memo_rules.specs.Meaning.{on}
use Rattle.ksv_memo_rules.specs.Right.{IsRight}
use Rattle.ksv_test_engine.specs.Rows.{rows_meaning}
use Rattle.ksv_test_engine.proofs.refusals.is_left.Given as goal

abbrev pub invariant-loop : goal.invariant-loop
invariant-loop l = IsRight (on (rows_meaning l.rules.rows.rows.items) l.bytes) l.engine.kept
