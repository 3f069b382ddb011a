use Rattle.std.proofs.lemmas.List.{length-reverse}
use Rattle.ksv_memo.proofs.Changing.{frames_nodes}
use Rattle.ksv_memo.proofs.Knowing.{opens_length}
use Rattle.ksv_memo.proofs.table.Table.waits.Goals as goal

pub returns : goal.returns
returns g c =
    let t = c.self.inside in
    cc (
      length-reverse t.frames.frames.items,
      opens_length t.slots.entries _ t.frames.asked.items t.frames.uses.items
          (frames_nodes _ _ c.self.invariant.waits),
    )
