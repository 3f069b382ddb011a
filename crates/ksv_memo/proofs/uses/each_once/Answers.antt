use Rattle.ksv_memo.proofs.Common.{◌∙◌, ap, get_or, Bytes}
use Rattle.ksv_memo.proofs.Once.{member_test, once-keeps, once-takes}
use Rattle.ksv_memo.proofs.uses.each_once.Goals as goal
use Rattle.ksv_memo.proofs.uses.each_once.Goals.{then-not-contains+in_ok-push, else-not-contains}

pub loop-used-preserved : goal.loop-used-preserved
loop-used-preserved c =
    let says = member_test _ _ (get_or c.args.uses.now c.loop-used.used-index (Bytes 0 0)) c.contains.result
    c.as_slice.ensures c.contains.ensures.cases in
    elim c.if-not-contains.branch [
      | then-not-contains+in_ok-push w ↦ once-takes _ _ c.args.uses.now c.loop-used.used-index (Bytes 0 0)
          _ c.loop-used-test.true c.loop-used.invariant says w.if-not-contains.true (ap (λ v. v.items) w.once-is ∙ w.in_ok-push.ensures.ok)
      | else-not-contains w ↦ once-keeps _ _ c.args.uses.now c.loop-used.used-index (Bytes 0 0)
          _ c.loop-used-test.true c.loop-used.invariant says w.if-not-contains.false (ap (λ v. v.items) w.once-is)
    ]
