use Rattle.ksv_memo_links.proofs.Common.{◌≡◌, ◌≢◌, ℕ, suc, ◌+◌, ◌<◌, List, [], length, set, get_or, refl, sym, ◌∙◌, ap, arith, length-set}
use Rattle.ksv_memo_links.proofs.Common.{get_or-set_same, get_or-set_other, set-get_or, Block, block_at, named_of, IsFree}
use Rattle.ksv_memo_links.proofs.Linking.{named-length, row-length, live-as, first-other, first-inside, named-more, chained-more}
use Rattle.ksv_memo_links.proofs.Filling.{one-more}
use Rattle.ksv_memo_links.proofs.blocks.fill_block.Goals as goal

pub loop-i-init : goal.loop-i-init
loop-i-init c = record {
  chained = c.requires.chained;
  named = sym (ap (set (named_of c.args.entries.now.items c.args.blocks.now.items) c.args.owner) (sym c.requires.none)
      ∙ set-get_or (named_of c.args.entries.now.items c.args.blocks.now.items) c.args.owner []);
  begin = λ lt. absurd (omega arith);
  count = sym (sym (row-length c.args.entries.now.items c.args.blocks.now.items c.args.owner) ∙ ap length c.requires.none);
  others = λ t ne. refl;
  size = refl;
  places = refl;
  wide = refl;
  bound = omega arith;
}

-- the next place is free still
free-still : (B C : List Block) (s p : ℕ) → ((t : ℕ) → t ≢ s → block_at C t ≡ block_at B t) → IsFree B s p → IsFree C s p
free-still B C s p h free t ne v = free t ne (live-as B (sym (h t ne)) v)

pub link-requires-clause-next_in : goal.link-requires-clause-next_in
link-requires-clause-next_in c =
    let i = c.loop-i.invariant in
    first-inside _ i.chained
    (omega arith)

pub link-requires-clause-other : goal.link-requires-clause-other
link-requires-clause-other c =
    let i = c.loop-i.invariant in
    let t = c.loop-i-test.true in
    let free = free-still c.args.blocks.now.items c.loop-i.blocks.items c.args.owner (c.args.begin + c.loop-i.i) i.others
    (c.requires.free c.loop-i.i (omega arith)) in
    first-other _ _ i.chained
    i.count i.begin refl free (omega arith) _

pub loop-i-preserved : goal.loop-i-preserved
loop-i-preserved c =
    let i = c.loop-i.invariant in
    let t = c.loop-i-test.true in
    let s = c.args.owner in
    let B = c.loop-i.blocks.items in
    let k = c.loop-i.i in
    let l = get_or c.args.lists.now k 0 in
    let p = c.args.begin + k in
    let s_in : s < length B = omega arith in
    let e : suc k ≡ k + 1 = omega arith in
    let new : Block = record { begin = c.args.begin; count = k + 1 } in
    let new_is : record { begin = c.args.begin; count = suc k } ≡ new = ap (λ m. record { begin = c.args.begin; count = m }) e in
    let free = free-still c.args.blocks.now.items B s p i.others (c.requires.free k (omega arith)) in
    let there : p < length c.loop-i.entries.items = (omega arith) in
    let chained = chained-more c.args.begin i.chained s_in
    i.count i.begin refl free (omega arith) there c.link.ensures in
    let named = named-more c.args.begin i.chained s_in
    i.count i.begin refl free (omega arith) there c.link.ensures in
    let here : block_at (set B s new) s ≡ new = get_or-set_same _ _ _ _ s_in in
    let rows0 = named_of c.args.entries.now.items c.args.blocks.now.items in
    record {
      chained = rw new_is at chained;
      named = one-more _ _ _ _
          (omega (arith, named-length c.args.entries.now.items c.args.blocks.now.items)) (omega arith) refl i.named
          (cc);
      begin = λ lt. sym (ap (λ b. b.begin) here);
      count = sym (ap (λ b. b.count) here);
      others = λ t ne. get_or-set_other B s t new (record { begin = 0; count = 0 }) ne ∙ i.others t ne;
      size = c.link.ensures.size ∙ i.size;
      places = c.link.ensures.places ∙ i.places;
      wide = length-set B s new ∙ i.wide;
      bound = omega arith;
    }
