use Rattle.std.proofs.Common.{◌∙◌, sym, ap, length}
use Rattle.ksv_memo_rules.proofs.Replying.{lent_length}
use Rattle.ksv_memo_rules.proofs.replies.Replies.len.Goals as goal

pub returns : goal.returns
returns g c = sym (lent_length c.self.inside.slots.now c.self.inside.asked.now c.self.invariant) ∙ ap length c.self.view_is
