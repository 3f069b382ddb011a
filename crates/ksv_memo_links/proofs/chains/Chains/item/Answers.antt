use Rattle.ksv_memo_links.proofs.Common.{◌≡◌, ◌≢◌, ◌⊎◌, inl, inr, ◌+◌, ◌<◌, ◌≤◌, length, subst, arith, get_or_read, row, item_at, Chained, entry_at}
use Rattle.ksv_memo_links.proofs.Items.{item-found, no-item}
use Rattle.ksv_memo_links.proofs.chains.Chains.item.Goals as goal
use Rattle.ksv_memo_links.proofs.chains.Chains.item.Goals.{then-at-eq0-via-then-at-eq0, then-at-eq0-via-else-at-eq0+then-at-len}

pub returns-then-at-eq0-clause-none : goal.returns-then-at-eq0-clause-none
returns-then-at-eq0-clause-none c slot i =
    let a = c.self.inside.entries.items in
    let out : (c.args.at ≡ 0) ⊎ (length a ≤ c.args.at) =
    elim c.then-at-eq0.branch [
      | then-at-eq0-via-then-at-eq0 w ↦ inl (omega (arith, w.if-at-eq0))
      | then-at-eq0-via-else-at-eq0+then-at-len w
          ↦ inr (omega (arith, w.if-at-len))
    ] in
    rw (← c.self.view_is) (no-item c.self.invariant _ _ out)

pub returns-clause-some : goal.returns-clause-some
returns-clause-some c slot i =
    let a = c.self.inside.entries.items in
    let k = c.if-at-len.false in
    let z = c.if-at-eq0.false in
    let some : c.args.at ≢ 0 = λ e. absurd (omega arith) in
    let read : c.index-entry.result.now ≡ entry_at a c.args.at =
    get_or_read a c.args.at c.index-entry.result.now (omega arith) c.index-entry.ensures (record { owner = 0; list = 0; next = 0; before = 0 }) in
    let P : Chained → Type 0 = λ x. c.args.at ≡ (item_at x.lists slot i).at
    → (i < length (row x.lists slot)) × (c.index-entry.result.now.owner ≡ (item_at x.lists slot i).owner)
    × (c.index-entry.result.now.next ≡ (item_at x.lists slot (i + 1)).at) in
    subst P c.self.view_is (λ e. (let u = item-found c.self.invariant _ slot i some e in
    (u.0, cc, cc)))
