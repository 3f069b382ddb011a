use Rattle.ksv_memo_links.proofs.Common.{◌≡◌, ◌+◌, length, ap, arith, get_or_read, block_at}
use Rattle.ksv_memo_links.proofs.Linking.{named-length}
use Rattle.ksv_memo_links.proofs.chains.Chains.copy_row.Goals as goal

pub copy_block-requires : goal.copy_block-requires
copy_block-requires c k lt =
    let i = c.self.inside in
    let n = named-length i.entries.items i.blocks.items in
    let e = ap (λ x. length x.named) c.self.view_is in
    let read : c.index.result.now ≡ block_at i.blocks.items c.args.owner =
    get_or_read i.blocks.items c.args.owner c.index.result.now (omega arith) c.index.ensures (record { begin = 0; count = 0 }) in
    let b = ap (λ x. x.begin) read in
    let m = ap (λ x. x.count) read in
    let s = ap length c.as_slice.ensures.value in
    let there = c.self.invariant.inside c.args.owner (c.index.result.now.begin + k) (record { from = omega arith; until = omega arith }) in
    omega arith
