use Rattle.ksv_places.proofs.Common.{◌++◌, ◌∷◌, List, [], Some, reverse, sym, ◌∙◌, ap, subst, list_any, on_ok_weaker, Step, NodeKind, Placed, all_named, AllFit}
use Rattle.ksv_places.proofs.Common.{EndsAt}
use Rattle.ksv_nodes.specs.contracts.node.NodePartialEq.TheImpl.{ghosts as node_tests}
use Rattle.ksv_places.proofs.Naming.{either_way, is_none, fit_push, named_push, steps_up}
use Rattle.ksv_places.proofs.places.NodePlacesPlacesNode.add.Goals as goal

pub add-requires-clause-none : goal.add-requires-clause-none
add-requires-clause-none c =
    let ps = c.self.inside.spots.nodes in
    let n = c.args.node.now in
    λ i e. is_none ps n (ap (λ (p : Placed). list_any (node_tests.eq n) p.nodes) c.self.view_is ∙ c.requires.none) i
    (e ∙ ap Some (steps_up n c.steps.result.now c.steps.ensures))

pub add-requires-clause-ends : goal.add-requires-clause-ends
add-requires-clause-ends c =
    subst (λ (q : List Step). EndsAt c.self.inside.spots.paths q c.self.inside.spots.end) (sym c.steps.ensures)
    (subst (λ (p : Placed). EndsAt p.paths (reverse c.args.node.now.path.upward) p.end) (sym c.self.view_is) c.requires.ends)

pub invariant_of-self : goal.invariant_of-self
invariant_of-self c =
    let ps : List (NodeKind × List Step) = c.self.inside.spots.nodes in
    let n = c.args.node.now in
    let up = steps_up n c.steps.result.now c.steps.ensures in
    either_way c.add.result _ _ (AllFit c.add.new.self.nodes)
    (λ e. subst AllFit (sym (e ∙ ap (λ (p : NodeKind × List Step). ps ++ p ∷ []) up)) (fit_push ps n c.self.invariant))
    (λ e. subst AllFit (sym e) c.self.invariant) c.add.ensures.ok c.add.ensures.err

pub returns-clause-ok : goal.returns-clause-ok
returns-clause-ok c =
    let ps : List (NodeKind × List Step) = c.self.inside.spots.nodes in
    let n = c.args.node.now in
    let up = steps_up n c.steps.result.now c.steps.ensures in
    on_ok_weaker c.add.result
    (λ e. ap all_named (e ∙ ap (λ (p : NodeKind × List Step). ps ++ p ∷ []) up) ∙ named_push ps n ∙ ap (λ (p : Placed). p.nodes ++ n ∷ []) c.self.view_is)
    c.add.ensures.ok
