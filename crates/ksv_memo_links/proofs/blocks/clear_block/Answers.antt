use Rattle.ksv_memo_links.proofs.Common.{◌≡◌, ℕ, suc, ◌+◌, ◌-◌, ◌<◌, List, length, set, get_or, refl, sym, ◌∙◌, ap, arith, length-set, get_or-set_same}
use Rattle.ksv_memo_links.proofs.Common.{get_or_read, Entry, Block, row, block_at, named_of, IsLive}
use Rattle.ksv_memo_links.proofs.Clearing.{cut-more}
use Rattle.ksv_memo_links.proofs.Linking.{named-less, chained-less, row-length, before-inside, next-inside, named-inside}
use Rattle.ksv_memo_links.proofs.blocks.clear_block.Goals as goal

last : (B : List Block) (s : ℕ) {begin left : ℕ} → begin ≡ (block_at B s).begin → left ≡ (block_at B s).count → 0 < left → IsLive B s (begin + (left - 1))
last B s e n lt = record { from = omega arith; until = omega arith }

pub overflow_add-begin : goal.overflow_add-begin
overflow_add-begin c =
    let i = c.loop-left.invariant in
    let v = last c.loop-left.blocks.items c.args.owner i.begin i.count c.loop-left-test.true in
    omega (arith, i.chained.inside c.args.owner (c.index.result.now.begin + (c.loop-left.left - 1)) v)

pub unlink-requires-clause-inside : goal.unlink-requires-clause-inside
unlink-requires-clause-inside c =
    let i = c.loop-left.invariant in
    let v = last _ _ i.begin i.count c.loop-left-test.true in
    i.chained.inside c.args.owner (c.index.result.now.begin + (c.loop-left.left - 1)) v

pub unlink-requires-clause-before : goal.unlink-requires-clause-before
unlink-requires-clause-before c =
    let i = c.loop-left.invariant in
    let v = last _ _ i.begin i.count c.loop-left-test.true in
    before-inside
    i.chained v

pub unlink-requires-clause-next : goal.unlink-requires-clause-next
unlink-requires-clause-next c =
    let i = c.loop-left.invariant in
    let v = last _ _ i.begin i.count c.loop-left-test.true in
    next-inside
    i.chained v

pub unlink-requires-clause-named : goal.unlink-requires-clause-named
unlink-requires-clause-named c =
    let i = c.loop-left.invariant in
    let v = last _ _ i.begin i.count c.loop-left-test.true in
    named-inside
    i.chained v

pub loop-left-preserved : goal.loop-left-preserved
loop-left-preserved c =
    let i = c.loop-left.invariant in
    let B = c.loop-left.blocks.items in
    let s = c.args.owner in
    let begin = c.index.result.now.begin in
    let k = c.loop-left.left - 1 in
    let some = c.loop-left-test.true in
    let one : suc k ≡ (block_at B s).count = omega arith in
    let s_in : s < length B = (omega arith) in
    let now : block_at (set B s (record { begin = begin; count = k })) s ≡ record { begin = begin; count = k } =
    get_or-set_same _ _ _ _ s_in in
    let is : c.put_count.new.blocks.items ≡ set B s (record { begin = begin; count = k }) =
    cc in
    record {
      chained = rw (sym is) at
          (chained-less _ _ _ _ _ s _ k _
          i.chained i.begin one refl c.unlink.ensures);
      cut = rw (sym is) at
          (cut-more _ _ _ s i.cut
          (named-less _ _ _ _ _ _ _ _ _
          i.chained i.begin one refl c.unlink.ensures));
      begin = rw (sym is) at (sym (ap (λ b. b.begin) now));
      count = rw (sym is) at (sym (ap (λ b. b.count) now));
      looks = omega arith;
      size = c.unlink.ensures.size ∙ i.size;
      wide = cc (length-set B s (record { begin = begin; count = k }));
    }

-- a block has as many entries as its owner has lists
count-of : (a : List Entry) (B : List Block) (s : ℕ) {b : Block} → s < length B → b ≡ get_or B s b → b.count ≡ length (row (named_of a B) s)
count-of a B s {b} lt is = cc (get_or_read B s b lt is (record { begin = 0; count = 0 }), row-length a B s)

pub returns-clause-count : goal.returns-clause-count
returns-clause-count c = count-of _ _ _ c.requires.owner_in c.index.ensures

pub returns-clause-looks : goal.returns-clause-looks
returns-clause-looks c =
    omega (arith, count-of c.args.entries.now.items c.args.blocks.now.items c.args.owner c.requires.owner_in c.index.ensures, c.loop-left.invariant.looks)
