use Rattle.ksv_memo_links.proofs.Common.{length, sym, ◌∙◌, ap, arith}
use Rattle.ksv_memo_links.proofs.Items.{lists-length}
use Rattle.ksv_memo_links.proofs.chains.Chains.link_row.Goals as goal

pub link_block-requires-clause-lists_in : goal.link_block-requires-clause-lists_in
link_block-requires-clause-lists_in c k d lt =
    omega (
      arith,
      ap (λ x. length x.lists) c.self.view_is,
      lists-length c.self.inside.entries.items c.self.inside.blocks.items c.self.inside.first.items,
      c.requires.lists_in k d lt,
    )

pub returns-in_err-link_block-clause-count : goal.returns-in_err-link_block-clause-count
returns-in_err-link_block-clause-count c =
    lists-length c.link_block.new.entries.items c.link_block.new.blocks.items c.link_block.new.first.items
    ∙ c.link_block.ensures.size
    ∙ sym (lists-length c.self.inside.entries.items c.self.inside.blocks.items c.self.inside.first.items)
    ∙ ap (λ x. length x.lists) c.self.view_is

pub returns-clause-count : goal.returns-clause-count
returns-clause-count c =
    lists-length c.link_block.new.entries.items c.link_block.new.blocks.items c.link_block.new.first.items
    ∙ c.link_block.ensures.size
    ∙ sym (lists-length c.self.inside.entries.items c.self.inside.blocks.items c.self.inside.first.items)
    ∙ ap (λ x. length x.lists) c.self.view_is
