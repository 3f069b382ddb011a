use Rattle.ksv_memo_links.proofs.Common.{◌≡◌, ◌≢◌, ℕ, ◌<◌, ◌≤◌, length, take, set, block_at, named_of, IsChained}
use Rattle.ksv_memo_links.proofs.blocks.fill_block.Given as goal

abbrev pub invariant-loop-i : goal.invariant-loop-i
invariant-loop-i l = record {
  chained : IsChained l.entries.items l.blocks.items l.first.items;
  named : named_of l.entries.items l.blocks.items ≡ set (named_of l.fn.entries.items l.fn.blocks.items) l.owner (take l.i l.lists);
  begin : 0 < l.i → l.begin ≡ (block_at l.blocks.items l.owner).begin;
  count : l.i ≡ (block_at l.blocks.items l.owner).count;
  others : (t : ℕ) → t ≢ l.owner → block_at l.blocks.items t ≡ block_at l.fn.blocks.items t;
  size : length l.first.items ≡ length l.fn.first.items;
  places : length l.entries.items ≡ length l.fn.entries.items;
  wide : length l.blocks.items ≡ length l.fn.blocks.items;
  bound : l.i ≤ length l.lists;
}
