use Rattle.ksv_memo_links.proofs.Common.{◌≡◌, min, ◌+◌, length, ◌∙◌, ap, subst, arith, row, end_lists, HitsRows}
use Rattle.ksv_memo_links.proofs.Hits.{rows-none, rows-more, row-as}
use Rattle.ksv_memo_links.proofs.Turns.{row-of-end, count-ends}
use Rattle.ksv_memo_links.proofs.parts.Parts.hit_size.Goals as goal

-- there is a list of the size
pub hit_list-requires-clause-list_in : goal.hit_list-requires-clause-list_in
hit_list-requires-clause-list_in c =
    omega (arith, count-ends c.args.self.now.uses.lists)

pub returns-then-ends-gt0 : goal.returns-then-ends-gt0
returns-then-ends-gt0 c =
    let p = c.args.self.now in
    let r = c.hit_list.new.self in
    let x = c.args.change in
    let L = end_lists p.uses.lists in
    let same = ap (row p.uses.lists) c.end_list.ensures.number ∙ row-of-end p.uses.lists 0 in
    let e : 0 + 1 ≡ min 1 (length L) = omega arith in
    subst (HitsRows p r x L 0) e
    (rows-more (omega arith) (rows-none p x L 0) (row-as same c.hit_list.ensures))

pub returns-else-ends-gt0 : goal.returns-else-ends-gt0
returns-else-ends-gt0 c =
    let p = c.args.self.now in
    let L = end_lists p.uses.lists in
    let e : 0 ≡ min 1 (length L) = omega arith in
    subst (HitsRows p p c.args.change L 0) e (rows-none _ _ _ _)
