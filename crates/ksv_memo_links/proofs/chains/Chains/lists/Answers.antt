use Rattle.ksv_memo_links.proofs.Items.{lists-length}
use Rattle.ksv_memo_links.proofs.chains.Chains.lists.Goals as goal

pub returns : goal.returns
returns c =
    let i = c.self.inside in
    cc (lists-length i.entries.items i.blocks.items i.first.items)
