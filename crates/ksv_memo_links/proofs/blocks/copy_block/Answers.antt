use Rattle.ksv_memo_links.proofs.Common.{◌≡◌, ℕ, suc, ◌+◌, List, [], ◌∷◌, ◌++◌, arith, Entry, entry_at, lists_in}
use Rattle.ksv_memo_links.proofs.Linking.{block-more}
use Rattle.ksv_memo_links.proofs.blocks.copy_block.Goals as goal

-- one entry more is copied
copied : (a : List Entry) (p i : ℕ) {now then : List ℕ} → now ≡ lists_in a p i → then ≡ now ++ (entry_at a (p + i)).list ∷ [] → then ≡ lists_in a p (i + 1)
copied a p i h e =
    let n : suc i ≡ i + 1 = omega arith in
    cc (block-more a p i)

pub loop-i-preserved : goal.loop-i-preserved
loop-i-preserved c = copied _ _ _ c.loop-i.invariant
    c.in_ok-push.ensures.items
