use Rattle.std.proofs.Common.{◌∙◌, sym}
use Rattle.ksv_memo_rules.proofs.Replying.{all_kept}
use Rattle.ksv_memo_rules.proofs.replies.Replies.checked.Goals as goal

pub invariant_of-result : goal.invariant_of-result
invariant_of-result g c = all_kept c.args.slots.now c.args.asked.now (sym c.are_kept.ensures ∙ c.if-are_kept.true)
