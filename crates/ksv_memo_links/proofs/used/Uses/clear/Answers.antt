use Rattle.ksv_memo_links.proofs.Common.{◌≡◌, [], List, length, map, sym, ap, refl, arith, Use, uses_of, lists_of_uses, row}
use Rattle.ksv_memo_links.specs.declared.used.Noted.TheVariants.{Nothing}
use Rattle.ksv_memo_links.proofs.Writing.{row_written, row_read}
use Rattle.ksv_memo_links.proofs.Meeting.{met-put, pages-among}
use Rattle.ksv_memo_links.proofs.used.Uses.clear.Goals as goal

pub clear-linked-requires : goal.clear-linked-requires
clear-linked-requires c =
    omega (arith, ap (λ v. length v.rows) c.self.view_is)

pub returns-clause-rows : goal.returns-clause-rows
returns-clause-rows c = row_written uses_of (λ (xs : List Use). []) c.self.inside.rows.items c.args.slot Nothing
    (sym (ap (λ v. v.rows) c.self.view_is)) c.index_mut.ensures.value c.requires refl

pub invariant_of-self : goal.invariant_of-self
invariant_of-self c =
    let items = c.self.inside.rows.items in
    let rows = map uses_of items in
    let C = c.self.inside.chains in
    let slot_in = rw (← ap (λ v. v.rows) c.self.view_is) at c.requires in
    let written = row_written uses_of (λ (xs : List Use). []) items c.args.slot Nothing refl c.index_mut.ensures.value slot_in
    refl in
    let n = c.clear-linked.ensures.lists in
    met-put _ _ _ c.self.invariant c.clear-linked.ensures.named
    (omega arith) slot_in written

pub returns-clause-looks : goal.returns-clause-looks
returns-clause-looks c =
    let rows = c.args.self.now.rows in
    let us = row rows c.args.slot in
    let v = ap (λ v. v.rows) c.self.view_is in
    let read : us ≡ uses_of c.index.result.now = row_read uses_of c.self.inside.rows.items c.args.slot (sym v) c.index.ensures
    c.requires in
    let count : c.clear-linked.result ≡ length (lists_of_uses us) =
    cc (c.self.invariant.each c.args.slot) in
    let pages = pages-among us c.noted_end-end.result (cc) count in
    omega (arith, c.pages_linked-pages.ensures, ap (λ v. v.looks) c.self.view_is, c.saturating_add-self-inside.ensures)
