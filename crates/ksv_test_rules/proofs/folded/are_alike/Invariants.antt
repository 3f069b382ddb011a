use Rattle.ksv_memo_rules.specs.Meaning.{on}
use Rattle.ksv_memo_rules.specs.Right.{IsRight}
use Rattle.ksv_test_rules.proofs.folded.are_alike.Given as goal

abbrev pub invariant-loop : goal.invariant-loop
invariant-loop g l = record {
  first : IsRight (on (g.A.Rules.meaning l.rules.first.now) l.bytes) l.first.kept;
  second : IsRight (on (g.B.Rules.meaning l.rules.second.now) l.bytes) l.second.kept;
}
