use Rattle.ksv_memo.proofs.Common.{ap}
use Rattle.ksv_memo.proofs.Resting.{none-laid}
use Rattle.ksv_memo.proofs.table.Table.new.Goals as goal

-- nothing is laid out
pub invariant_of-result : goal.invariant_of-result
invariant_of-result g c = none-laid _ _
    _ c.new.ensures.entries
    (ap (λ l. l.kept) c.new-2.ensures) (ap (λ l. l.waits) c.new-2.ensures) c.new-3.ensures.items c.new-4.ensures.items
