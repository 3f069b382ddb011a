use Rattle.ksv_memo.proofs.Common.{arith}
use Rattle.ksv_memo.proofs.Knowing.{count_kept}
use Rattle.ksv_memo.proofs.Leaving.{few-kept}
use Rattle.ksv_memo.proofs.table.Table.len.Goals as goal

pub returns-clause-len : goal.returns-clause-len
returns-clause-len g c = cc (count_kept _ _ c.self.invariant.kept)

pub returns-clause-small : goal.returns-clause-small
returns-clause-small g c =
    let ps = c.self.inside.slots.entries in
    omega (
      arith,
      c.count.ensures,
      count_kept ps c.self.inside.links c.self.invariant.kept,
      few-kept ps c.self.inside.links,
      c.len-slots.ensures.len,
      c.len-slots.ensures.small,
    )
