use Rattle.ksv_memo_links.proofs.Common.{◌≡◌, length}
use Rattle.ksv_memo_links.proofs.Packing.{IsCopied}
use Rattle.ksv_memo_links.proofs.chains.Chains.packed.Given as goal

abbrev pub invariant-loop-owner : goal.invariant-loop-owner
invariant-loop-owner l = record {
  copied : IsCopied l.self.named l.packed.named l.owner;
  lists : length l.packed.lists ≡ length l.self.lists;
}
