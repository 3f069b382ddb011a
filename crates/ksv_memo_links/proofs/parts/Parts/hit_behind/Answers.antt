use Rattle.ksv_memo_links.proofs.Common.{◌≡◌, List, min, ◌+◌, length, ◌∙◌, subst, arith, Item, end_lists, page_lists, first_page, HitsRows}
use Rattle.ksv_memo_links.proofs.Hits.{hits-behind}
use Rattle.ksv_memo_links.proofs.Turns.{count-ends}
use Rattle.ksv_memo_links.proofs.parts.Parts.hit_behind.Goals as goal

pub returns : goal.returns
returns c =
    let p = c.args.self.now in
    let q1 = c.hit_size.new.self in
    let q2 = c.hit_ends.new.self in
    let r = c.hit_pages.new.self in
    let x = c.args.change in
    let place = c.args.at in
    let a = c.hit_size.ensures in
    let b0 = c.hit_ends.ensures in
    let n = count-ends p.uses.lists in
    let e : min c.saturating_add.result (length (end_lists p.uses.lists)) ≡ min (c.args.pages + 1) (length (end_lists p.uses.lists)) = omega arith in
    let b = subst (HitsRows q1 q2 x (end_lists p.uses.lists) (first_page place + 1)) e (rw (← a.more.same.use_lists) b0) in
    let Q : List (List Item) → Type 0 = λ lists. HitsRows q2 r x (page_lists lists) (first_page place) (min c.args.pages (length (page_lists lists))) in
    let d = subst Q (b0.more.same.use_lists ∙ a.more.same.use_lists) c.hit_pages.ensures in
    hits-behind _ _ _ _ _ _ _ a b d
