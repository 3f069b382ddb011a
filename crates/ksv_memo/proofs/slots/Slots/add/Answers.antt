use Rattle.ksv_memo.proofs.Common.{◌∙◌, ◌++◌, ◌∷◌, [], ap, sym, list_any, zip, arith, common_steps}
use Rattle.ksv_memo_rules.specs.declared.replies.Slot.TheVariants.{Open}
use Rattle.ksv_memo.proofs.Zipping.{any-zip, push-zip}
use Rattle.ksv_memo.proofs.slots.Slots.add.Goals as goal

pub add-requires-clause-none : goal.add-requires-clause-none
add-requires-clause-none g c =
    let t = c.self.inside in
    let eq = g.N.PartialEq.eq in
    sym (any-zip (eq c.args.node.now) (g.P.Places.nodes t.places) t.slots.items c.self.invariant)
    ∙ ap (λ v. list_any (λ p. eq c.args.node.now p.0) v.entries) c.self.view_is ∙ c.requires.none

-- the node and its slot go last
pub returns-clause-ok : goal.returns-clause-ok
returns-clause-ok g c =
    let t = c.self.inside in
    let slots = c.push_reserved.ensures.items ∙ ap (λ ss. ss ++ Open ∷ []) c.reserve.ensures.items in
    (λ i. zip (c.in_ok-add.ensures.ok i) (slots i)) ∙ push-zip (g.P.Places.nodes t.places) t.slots.items c.args.node.now Open c.self.invariant
    ∙ ap (λ v. v.entries ++ (c.args.node.now, Open) ∷ []) c.self.view_is

pub invariant_of-self-2 : goal.invariant_of-self-2
invariant_of-self-2 g c = grind (arith, common_steps)
