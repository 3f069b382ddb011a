use Rattle.ksv_memo_links.proofs.Common.{List, length, map, sym, ◌∙◌, ap, refl, arith, Use, uses_of, lists_of_uses, row}
use Rattle.ksv_memo_links.proofs.Writing.{row_written}
use Rattle.ksv_memo_links.proofs.Meeting.{met-put}
use Rattle.ksv_memo_links.proofs.used.Uses.put.Goals as goal

pub link_uses-requires-clause-slot_in : goal.link_uses-requires-clause-slot_in
link_uses-requires-clause-slot_in c =
    omega (arith, ap (λ v. length v.rows) c.self.view_is)

pub link_uses-requires-clause-none : goal.link_uses-requires-clause-none
link_uses-requires-clause-none c =
    c.self.invariant.each c.args.slot ∙ ap lists_of_uses (ap (λ v. row v.rows c.args.slot) c.self.view_is ∙ c.requires.none)

pub invariant_of-self-2 : goal.invariant_of-self-2
invariant_of-self-2 c =
    let items = c.self.inside.rows.items in
    let rows = map uses_of items in
    let C = c.self.inside.chains in
    let slot_in = rw (← ap (λ v. v.rows) c.self.view_is) at c.requires.slot_in in
    let written = row_written uses_of (λ (xs : List Use). c.args.uses.now) items c.args.slot c.in_ok-noted.noted refl
    c.index_mut.ensures.value slot_in c.in_ok-noted.ensures in
    met-put _ _ _ c.self.invariant
    c.in_ok-link_uses.ensures.ok c.link_uses.ensures.few slot_in written

pub returns-clause-ok : goal.returns-clause-ok
returns-clause-ok c = row_written uses_of (λ (xs : List Use). c.args.uses.now) c.self.inside.rows.items c.args.slot
    c.in_ok-noted.noted (sym (ap (λ v. v.rows) c.self.view_is)) c.index_mut.ensures.value c.requires.slot_in c.in_ok-noted.ensures
