use Rattle.ksv_memo_links.proofs.Common.{◌≡◌, ◌<◌, [], length, get_or, sym, ◌∙◌, ap, subst, arith, get_or_past, row, common_steps}
use Rattle.ksv_memo_links.proofs.Linking.{named-length}
use Rattle.ksv_memo_links.proofs.Items.{lists-length}
use Rattle.ksv_memo_links.proofs.Packing.{copied-more, copied-all, list-there}
use Rattle.ksv_memo_links.proofs.chains.Chains.packed.Goals as goal

pub loop-owner-init : goal.loop-owner-init
loop-owner-init c =
    let i = c.self.inside in
    let v = ap (λ x. length x.named) c.self.view_is in
    let w = ap (λ x. length x.lists) c.self.view_is in
    let n = named-length i.entries.items i.blocks.items in
    let m = lists-length i.entries.items i.blocks.items i.first.items in
    let b = ap length c.as_slice-owners.ensures.value in
    let f = ap length c.as_slice.ensures.value in
    let z = ap (λ x. length x.named) c.new-packed.ensures in
    let y = ap (λ x. length x.lists) c.new-packed.ensures in
    let o1 = c.in_ok-number.ensures in
    let o2 = c.in_ok-number-2.ensures in
    let k1 = c.in_ok-reach_owners.ensures.ok in
    let l1 = c.in_ok-reach_lists.ensures.ok in
    let same = ap length c.reach_lists.ensures.named in
    record {
      copied = record {
        size = omega arith;
        done = λ t lt. absurd (omega arith);
        none = λ t le. cc (c.reach_owners.ensures.named.each t, get_or_past c.new-packed.result.named t [] (omega arith));
      };
      lists = omega arith;
    }

pub link_row-requires-clause-owner_in : goal.link_row-requires-clause-owner_in
link_row-requires-clause-owner_in c =
    let i = c.self.inside in
    omega (
      arith,
      ap (λ x. length x.named) c.self.view_is,
      named-length i.entries.items i.blocks.items,
      ap length c.as_slice-owners.ensures.value,
      c.loop-owner-test.true,
      c.loop-owner.invariant.copied.size,
    )

pub link_row-requires-clause-none : goal.link_row-requires-clause-none
link_row-requires-clause-none c = c.loop-owner.invariant.copied.none c.loop-owner.owner (omega arith)

pub link_row-requires-clause-lists_in : goal.link_row-requires-clause-lists_in
link_row-requires-clause-lists_in c k d lt =
    let is : c.as_slice-in-loop-owner.result.now ≡ row c.args.self.now.named c.loop-owner.owner =
    c.as_slice-in-loop-owner.ensures.value ∙ c.in_ok-copy_row.ensures in
    omega (
      arith,
      c.loop-owner.invariant.lists,
      subst (λ xs. k < length xs → get_or xs k d < length c.args.self.now.lists) (sym is)
          (list-there c.loop-owner.owner c.linked.ensures k d) lt,
    )

pub loop-owner-preserved : goal.loop-owner-preserved
loop-owner-preserved c =
    let i = c.self.inside in
    let v = ap (λ x. length x.named) c.self.view_is in
    let n = named-length i.entries.items i.blocks.items in
    let b = ap length c.as_slice-owners.ensures.value in
    let t = c.loop-owner-test.true in
    record {
      copied = copied-more
          c.loop-owner.invariant.copied (omega arith) (c.as_slice-in-loop-owner.ensures.value ∙ c.in_ok-copy_row.ensures) c.in_ok-link_row.ensures.ok;
      lists = c.link_row.ensures.count ∙ c.loop-owner.invariant.lists;
    }

pub returns-clause-named : goal.returns-clause-named
returns-clause-named c =
    let i = c.self.inside in
    let v = ap (λ x. length x.named) c.self.view_is in
    let n = named-length i.entries.items i.blocks.items in
    let b = ap length c.as_slice-owners.ensures.value in
    let t = c.loop-owner-test.false in
    copied-all c.loop-owner.invariant.copied (omega arith)

pub copy_row-requires : goal.copy_row-requires
copy_row-requires c = grind (arith, common_steps)
