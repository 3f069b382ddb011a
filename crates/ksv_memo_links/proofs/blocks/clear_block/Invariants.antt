use Rattle.ksv_memo_links.proofs.Common.{◌≡◌, ◌+◌, ◌*◌, length, block_at, named_of, IsChained}
use Rattle.ksv_memo_links.proofs.Clearing.{IsCutTo}
use Rattle.ksv_memo_links.proofs.blocks.clear_block.Given as goal

abbrev pub invariant-loop-left : goal.invariant-loop-left
invariant-loop-left l = record {
  chained : IsChained l.entries.items l.blocks.items l.first.items;
  cut : IsCutTo (named_of l.fn.entries.items l.fn.blocks.items) (named_of l.entries.items l.blocks.items) l.owner;
  begin : l.begin ≡ (block_at l.blocks.items l.owner).begin;
  count : l.left ≡ (block_at l.blocks.items l.owner).count;
  looks : l.looks + 4 * l.left ≡ 1 + 4 * l.count;
  size : length l.first.items ≡ length l.fn.first.items;
  wide : length l.blocks.items ≡ length l.fn.blocks.items;
}

abbrev pub decreases-loop-left : goal.decreases-loop-left
decreases-loop-left l = l.left
