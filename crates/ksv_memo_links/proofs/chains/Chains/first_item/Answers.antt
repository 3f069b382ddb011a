use Rattle.ksv_memo_links.proofs.Common.{◌≡◌, inl, ◌≤◌, length, ap, subst, arith, get_or_read, row, item_at, Chained}
use Rattle.ksv_memo_links.proofs.Items.{lists-length, cursor, no-item}
use Rattle.ksv_memo_links.proofs.chains.Chains.first_item.Goals as goal

pub index-requires : goal.index-requires
index-requires c =
    omega (arith, ap (λ x. length x.lists) c.self.view_is, lists-length c.self.inside.entries.items c.self.inside.blocks.items c.self.inside.first.items)

pub returns-clause-result : goal.returns-clause-result
returns-clause-result c =
    let e = ap (λ x. length x.lists) c.self.view_is in
    let n = lists-length c.self.inside.entries.items c.self.inside.blocks.items c.self.inside.first.items in
    cc (
      get_or_read c.self.inside.first.items c.args.list c.index.result.now (omega arith) c.index.ensures 0,
      cursor c.self.invariant c.args.list 0 (omega arith),
    )

pub returns-clause-none : goal.returns-clause-none
returns-clause-none c z =
    let P : Chained → Type 0 = λ x. c.index.result.now ≡ (item_at x.lists c.args.list 0).at → length (row x.lists c.args.list) ≤ 0 in
    subst P c.self.view_is
    (no-item c.self.invariant _ _ (inl z))
    (returns-clause-result c)
