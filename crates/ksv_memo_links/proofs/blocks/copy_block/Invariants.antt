use Rattle.ksv_memo_links.proofs.Common.{◌≡◌, lists_in}
use Rattle.ksv_memo_links.proofs.blocks.copy_block.Given as goal

abbrev pub invariant-loop-i : goal.invariant-loop-i
invariant-loop-i l = l.into.items ≡ lists_in l.entries l.block.begin l.i
