use Rattle.ksv_places.proofs.Common.{List, Some, set, sym, ◌∙◌, ap, subst, list_any, on_ok_weaker, Step, NodeKind, Placed, all_named, AllFit}
use Rattle.ksv_nodes.specs.contracts.node.NodePartialEq.TheImpl.{ghosts as node_tests}
use Rattle.ksv_places.proofs.Naming.{either_way, is_none, fit_set, named_set, steps_up}
use Rattle.ksv_places.proofs.places.NodePlacesPlacesNode.give.Goals as goal

pub give-given-requires-clause-none : goal.give-given-requires-clause-none
give-given-requires-clause-none c =
    let ps = c.self.inside.spots.nodes in
    let n = c.args.node.now in
    λ i e. is_none ps n (ap (λ (p : Placed). list_any (node_tests.eq n) p.nodes) c.self.view_is ∙ c.requires.none) i
    (e ∙ ap Some (steps_up n c.steps.result.now c.steps.ensures))

pub invariant_of-self : goal.invariant_of-self
invariant_of-self c =
    let ps : List (NodeKind × List Step) = c.self.inside.spots.nodes in
    let n = c.args.node.now in
    let up = steps_up n c.steps.result.now c.steps.ensures in
    either_way c.give-given.result _ _ (AllFit c.give-given.new.self.nodes)
    (λ e. subst AllFit (sym (e ∙ ap (λ (p : NodeKind × List Step). set ps c.args.place p) up)) (fit_set ps c.args.place n c.self.invariant))
    (λ e. subst AllFit (sym e) c.self.invariant) c.give-given.ensures.ok c.give-given.ensures.err

pub returns-clause-ok : goal.returns-clause-ok
returns-clause-ok c =
    let ps : List (NodeKind × List Step) = c.self.inside.spots.nodes in
    let n = c.args.node.now in
    let place = c.args.place in
    let up = steps_up n c.steps.result.now c.steps.ensures in
    on_ok_weaker c.give-given.result
    (λ e. ap all_named (e ∙ ap (λ (p : NodeKind × List Step). set ps place p) up) ∙ named_set ps place n
    ∙ ap (λ (p : Placed). set p.nodes place n) c.self.view_is) c.give-given.ensures.ok
