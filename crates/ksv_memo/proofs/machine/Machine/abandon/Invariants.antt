use Rattle.ksv_memo.proofs.Common.{◌≡◌, length}
use Rattle.ksv_memo.proofs.machine.Machine.abandon.Given as goal

abbrev pub invariant-loop : goal.invariant-loop
invariant-loop g l = record {
  kept : l.self.table.kept ≡ l.fn.self.table.kept;
  turns : l.self.turns ≡ l.fn.self.turns;
}

abbrev pub decreases-loop : goal.decreases-loop
decreases-loop g l = length l.self.table.opened
