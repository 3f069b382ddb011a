use Rattle.ksv_memo_links.proofs.Common.{◌-◌, length}
use Rattle.ksv_memo_links.proofs.Items.{lists-length}
use Rattle.ksv_memo_links.proofs.Growing.{padded-by, chained-owners, same-named}
use Rattle.ksv_memo_links.proofs.chains.Chains.reach_owners.Goals as goal

pub invariant_of-self : goal.invariant_of-self
invariant_of-self c =
    let i = c.self.inside in
    let p = padded-by c.reach_blocks.result i.blocks.items c.reach_blocks.new.blocks.items (c.args.count - length i.blocks.items)
    (record { begin = 0; count = 0 }) c.reach_blocks.ensures.ok c.reach_blocks.ensures.err in
    rw p.1 (chained-owners p.0 c.self.invariant)

pub returns-clause-named : goal.returns-clause-named
returns-clause-named c =
    let i = c.self.inside in
    let p = padded-by c.reach_blocks.result i.blocks.items c.reach_blocks.new.blocks.items (c.args.count - length i.blocks.items)
    (record { begin = 0; count = 0 }) c.reach_blocks.ensures.ok c.reach_blocks.ensures.err in
    rw (← c.self.view_is) (rw (← p.1) at (same-named p.0 c.self.invariant))

pub returns-clause-lists : goal.returns-clause-lists
returns-clause-lists c =
    let i = c.self.inside in
    cc (lists-length i.entries.items c.reach_blocks.new.blocks.items i.first.items, lists-length i.entries.items i.blocks.items i.first.items)
