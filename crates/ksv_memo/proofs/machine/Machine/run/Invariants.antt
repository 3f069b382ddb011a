use Rattle.ksv_memo.proofs.Common.{on}
use Rattle.ksv_memo.specs.Running.{HoldsWith, CountsWith, turns_left}
use Rattle.ksv_memo.proofs.machine.Machine.run.Given as goal

abbrev pub invariant-loop-answer : goal.invariant-loop-answer
invariant-loop-answer g l =
    let w = on (g.R.Rules.meaning l.rules) l.bytes in
    record {
      holds : HoldsWith w l.fn.node l.fn.self.table.kept l.self.table.kept l.self.table.opened;
      turns : CountsWith w l.fn.node l.fn.self.table.kept l.fn.self.turns l.self.table.kept l.self.table.opened l.self.turns;
    }

abbrev pub decreases-loop-answer : goal.decreases-loop-answer
decreases-loop-answer g l = turns_left (on (g.R.Rules.meaning l.rules) l.bytes) l.self.table.kept l.self.table.opened
