use Rattle.ksv_memo_links.proofs.Common.{◌-◌, length, Spreads}
use Rattle.ksv_memo_links.proofs.parts.Parts.spread.Given as goal

abbrev pub invariant-loop-slot : goal.invariant-loop-slot
invariant-loop-slot l = Spreads l.fn.self l.self l.i 0

abbrev pub decreases-loop-slot : goal.decreases-loop-slot
decreases-loop-slot l = length l.initial.self.marks.kept - l.i
