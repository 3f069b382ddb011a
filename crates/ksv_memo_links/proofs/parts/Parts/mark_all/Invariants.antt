use Rattle.ksv_memo_links.specs.Forgetting.{MarksFirst}
use Rattle.ksv_memo_links.proofs.parts.Parts.mark_all.Given as goal

abbrev pub invariant-loop-slot : goal.invariant-loop-slot
invariant-loop-slot l = MarksFirst l.fn.self l.self l.slots l.slot-index
