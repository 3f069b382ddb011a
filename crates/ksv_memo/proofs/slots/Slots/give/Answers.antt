use Rattle.ksv_memo.proofs.Common.{◌∙◌, length, slice_set, ap, sym, arith, list_any, zip}
use Rattle.ksv_memo_rules.specs.declared.replies.Slot.TheVariants.{Open}
use Rattle.ksv_memo.proofs.Zipping.{any-zip, count-zip, set-zip}
use Rattle.ksv_memo.proofs.slots.Slots.give.Goals as goal

pub give-requires-clause-none : goal.give-requires-clause-none
give-requires-clause-none g c =
    let t = c.self.inside in
    let eq = g.N.PartialEq.eq in
    sym (any-zip (eq c.args.node.now) (g.P.Places.nodes t.places) t.slots.items c.self.invariant)
    ∙ ap (λ v. list_any (λ p. eq c.args.node.now p.0) v.entries) c.self.view_is ∙ c.requires.none

pub give-requires-clause-place_in : goal.give-requires-clause-place_in
give-requires-clause-place_in g c =
    omega (arith, count-zip (g.P.Places.nodes c.self.inside.places) c.self.inside.slots.items c.self.invariant, ap (λ v. length v.entries) c.self.view_is)

pub write-requires : goal.write-requires
write-requires g c =
    omega (arith, count-zip (g.P.Places.nodes c.self.inside.places) c.self.inside.slots.items c.self.invariant, ap (λ v. length v.entries) c.self.view_is)

-- the place has another node, and its slot is open
pub returns-clause-ok : goal.returns-clause-ok
returns-clause-ok g c =
    let t = c.self.inside in
    (λ i. zip (c.in_ok-give.ensures.ok i) (c.write.ensures i))
    ∙ set-zip (g.P.Places.nodes t.places) t.slots.items c.args.place c.args.node.now Open c.self.invariant
    ∙ ap (λ v. slice_set v.entries c.args.place (c.args.node.now, Open)) c.self.view_is
