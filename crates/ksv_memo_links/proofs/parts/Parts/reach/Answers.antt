use Rattle.ksv_memo_links.proofs.Common.{List, length, refl, sym, ap, subst, arith, Parts, HasSameRows}
use Rattle.ksv_memo_links.specs.Marking.{HasMore}
use Rattle.ksv_memo_links.proofs.Keeping.{same_rows, grown_whole}
use Rattle.ksv_memo_links.proofs.parts.Parts.reach.Goals as goal

same_slots : (kept : List _) → HasMore kept kept
same_slots kept = record { more = omega arith; each = λ s. refl; count = refl }

pub returns-in_err-reach_lists-clause-whole : goal.returns-in_err-reach_lists-clause-whole
returns-in_err-reach_lists-clause-whole c =
    let p = c.args.self.now in
    let r : Parts = record { asks = c.reach_lists.new.self; uses = p.uses; marks = p.marks } in
    let same = ap length c.reach_lists.ensures.named in
    let h = c.requires.whole.shaped in
    grown_whole p r c.requires.whole
    (subst (HasSameRows p.asks.named) (sym c.reach_lists.ensures.named) (same_rows _)) (same_rows _)
    (same_slots _) refl (omega arith) (omega arith) h.uses

pub returns-in_err-reach_owners-clause-whole : goal.returns-in_err-reach_owners-clause-whole
returns-in_err-reach_owners-clause-whole c =
    let p = c.args.self.now in
    let r : Parts = record { asks = c.reach_owners.new.self; uses = p.uses; marks = p.marks } in
    let asks = rw c.reach_lists.ensures.named at c.reach_owners.ensures.named in
    let h = c.requires.whole.shaped in
    grown_whole p r c.requires.whole asks (same_rows _) (same_slots _) refl (omega arith) (omega arith) h.uses

pub returns-in_err-reach-clause-whole : goal.returns-in_err-reach-clause-whole
returns-in_err-reach-clause-whole c =
    let p = c.args.self.now in
    let r : Parts = record { asks = c.reach_owners.new.self; uses = c.reach.new.self; marks = p.marks } in
    let asks = rw c.reach_lists.ensures.named at c.reach_owners.ensures.named in
    let h = c.requires.whole.shaped in
    grown_whole p r c.requires.whole asks c.reach.ensures.same (same_slots _) refl (omega arith) (omega arith) (omega arith)

pub returns-clause-whole : goal.returns-clause-whole
returns-clause-whole c =
    let p = c.args.self.now in
    let r : Parts = record { asks = c.reach_owners.new.self; uses = c.reach.new.self; marks = c.reach-2.new.self } in
    let asks = rw c.reach_lists.ensures.named at c.reach_owners.ensures.named in
    let f = c.reach-2.ensures.few in
    let o1 = c.in_ok-reach_lists.ensures.ok in let o2 = c.in_ok-reach_owners.ensures.ok in let o4 = c.in_ok-reach.ensures.ok in
    let h = c.requires.whole.shaped in
    grown_whole p r c.requires.whole asks c.reach.ensures.same c.reach-2.ensures.kept c.reach-2.ensures.work (omega arith) (omega arith) (omega arith)
