use Rattle.ksv_memo.proofs.Common.{ℕ, List, length}
use Rattle.ksv_memo.specs.Emptying.{IsTaken}
use Rattle.ksv_memo.proofs.table.empty_taken.Given as goal

abbrev pub invariant-loop-slot : goal.invariant-loop-slot
invariant-loop-slot g l = (taken : List ℕ) × IsTaken l.initial.slots.entries l.slots.entries l.initial.links l.links taken l.slots.looks l.initial.slots.looks

abbrev pub decreases-loop-slot : goal.decreases-loop-slot
decreases-loop-slot g l = length l.links.waits
