use Rattle.ksv_memo.proofs.Common.{refl}
use Rattle.ksv_memo.proofs.Topping.{parted}
use Rattle.ksv_memo.proofs.frames.reopen.Goals as goal

pub returns-clause-frames : goal.returns-clause-frames
returns-clause-frames g c =
    let f = c.frame.ensures in
    parted _ _ _ _ _ _ c.frame.result c.in_ok-part.ensures f.node f.slot f.asked f.uses refl
    (cc) refl refl
