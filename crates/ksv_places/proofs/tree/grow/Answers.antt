use Rattle.ksv_places.proofs.Common.{◌≡◌, length, ◌∙◌, ap, Link, number_at, shelf_at}
use Rattle.ksv_places.proofs.Hooking.{hooked}
use Rattle.ksv_places.proofs.tree.grow.Goals as goal

pub returns-clause-tree : goal.returns-clause-tree
returns-clause-tree c =
    let links = c.args.links.now.items in
    let firsts = number_at c.args.firsts.now in
    let members = shelf_at c.args.members.now in
    let elements = shelf_at c.args.elements.now in
    let firsts2 = number_at c.hook.new.firsts in
    let members2 = shelf_at c.hook.new.members in
    let elements2 = shelf_at c.hook.new.elements in
    let link : Link = record { parent = c.args.path; step = c.args.step; next = c.in_ok-next.next } in
    let n : c.in_ok-number.number ≡ length links = c.in_ok-number.ensures ∙ ap (λ ls. length ls) c.as_slice.ensures.value in
    let h = rw n at c.in_ok-next.ensures.ok in
    let t = hooked links firsts members elements c.requires.tree c.args.path c.requires.there link (λ _. c.args.path) c.args.step firsts2 members2 elements2 h
    (λ _. c.args.step) c.requires.free in
    rw (c.push_reserved.ensures.items, c.reserve.ensures.items) t
