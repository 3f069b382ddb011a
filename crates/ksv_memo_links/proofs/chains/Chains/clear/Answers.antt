use Rattle.ksv_memo_links.proofs.Common.{length, sym, ◌∙◌, ap}
use Rattle.ksv_memo_links.proofs.Items.{lists-length}
use Rattle.ksv_memo_links.proofs.chains.Chains.clear.Goals as goal

pub returns-clause-lists : goal.returns-clause-lists
returns-clause-lists c =
    lists-length c.clear_block-cleared.new.entries.items c.clear_block-cleared.new.blocks.items c.clear_block-cleared.new.first.items
    ∙ c.clear_block-cleared.ensures.size
    ∙ sym (lists-length c.self.inside.entries.items c.self.inside.blocks.items c.self.inside.first.items)
    ∙ ap (λ x. length x.lists) c.self.view_is
