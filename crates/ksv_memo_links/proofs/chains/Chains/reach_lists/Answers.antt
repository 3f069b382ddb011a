use Rattle.ksv_memo_links.proofs.Common.{ℕ, ◌-◌, length, sym, ap, subst, arith, length-append, IsChained}
use Rattle.std.proofs.lemmas.List.{length-replicate}
use Rattle.ksv_memo_links.proofs.Items.{lists-length}
use Rattle.ksv_memo_links.proofs.Growing.{padded-by, on-ok, chained-lists}
use Rattle.ksv_memo_links.proofs.chains.Chains.reach_lists.Goals as goal

pub invariant_of-self : goal.invariant_of-self
invariant_of-self c =
    let i = c.self.inside in
    let p = padded-by c.reach_first.result i.first.items c.reach_first.new.first.items (c.args.count - length i.first.items) 0 c.reach_first.ensures.ok
    c.reach_first.ensures.err in
    subst (IsChained i.entries.items i.blocks.items) (sym p.1)
    (chained-lists p.0 c.self.invariant)

pub returns-clause-lists : goal.returns-clause-lists
returns-clause-lists c =
    let i = c.self.inside in
    let p = padded-by c.reach_first.result i.first.items c.reach_first.new.first.items (c.args.count - length i.first.items) 0 c.reach_first.ensures.ok
    c.reach_first.ensures.err in
    omega (
      arith,
      ap length p.1,
      lists-length i.entries.items i.blocks.items c.reach_first.new.first.items,
      lists-length i.entries.items i.blocks.items i.first.items,
      ap (λ x. length x.lists) c.self.view_is,
      length-append {A = ℕ},
      length-replicate {A = ℕ},
    )

pub returns-clause-few : goal.returns-clause-few
returns-clause-few c =
    let i = c.self.inside in
    let p = padded-by c.reach_first.result i.first.items c.reach_first.new.first.items (c.args.count - length i.first.items) 0 c.reach_first.ensures.ok
    c.reach_first.ensures.err in
    omega (
      arith,
      ap length p.1,
      lists-length i.entries.items i.blocks.items c.reach_first.new.first.items,
      lists-length i.entries.items i.blocks.items i.first.items,
      ap (λ x. length x.lists) c.self.view_is,
      length-append {A = ℕ},
      length-replicate {A = ℕ},
    )

pub returns-clause-ok : goal.returns-clause-ok
returns-clause-ok c =
    let i = c.self.inside in
    on-ok c.reach_first.result c.reach_first.ensures.ok (λ h. (
    omega (arith, ap length h, lists-length i.entries.items i.blocks.items c.reach_first.new.first.items, length-append {A = ℕ}, length-replicate {A = ℕ})))
