use Rattle.ksv_places.proofs.Common.{◌≡◌, false, List, Some, sym, ◌∙◌, ap, subst, slice_get, list_any, Step, NodeKind, Placed, all_named, AllFit}
use Rattle.std.proofs.Common.{Option, None}
use Rattle.std.specs.Option.{IfSome, IfNone}
use Rattle.ksv_nodes.specs.contracts.node.NodePartialEq.TheImpl.{ghosts as node_tests}
use Rattle.ksv_places.proofs.Naming.{at_named, none_is, apart_named, distinct, steps_up}
use Rattle.ksv_places.proofs.places.NodePlacesPlacesNode.find.Goals as goal

if_some : {A : Type 0} (r : Option A) (P Q : A → Type 0) → ((x : A) → P x → Q x) → IfSome r P → IfSome r Q
if_some None P Q f h = tt
if_some (Some x) P Q f h = f x h

if_none : {A : Type 0} (r : Option A) (P Q : Type 0) → (P → Q) → IfNone r P → IfNone r Q
if_none None P Q f h = f h
if_none (Some x) P Q f h = tt

pub invariant_of-self : goal.invariant_of-self
invariant_of-self c = rw c.find.ensures.nodes c.self.invariant

pub returns-clause-some : goal.returns-clause-some
returns-clause-some c =
    let ps = c.find.new.self.nodes in
    let n = c.args.node.now in
    if_some c.find.result _ (λ i. slice_get (all_named ps) i ≡ Some n) (λ i e.
    at_named ps i n (e ∙ ap Some (steps_up n c.steps.result.now c.steps.ensures))) c.find.ensures.some

pub returns-clause-none : goal.returns-clause-none
returns-clause-none c =
    let ps = c.find.new.self.nodes in
    let n = c.args.node.now in
    let fit = subst AllFit (sym c.find.ensures.nodes) c.self.invariant in
    if_none c.find.result _ (list_any (node_tests.eq n) (all_named ps) ≡ false) (λ none.
    none_is ps fit n (λ i e. none i (e ∙ ap Some (sym (steps_up n c.steps.result.now c.steps.ensures))))) c.find.ensures.none

pub returns-clause-ends : goal.returns-clause-ends
returns-clause-ends c = rw c.steps.ensures at c.find.ensures.ends

pub returns-clause-nodes : goal.returns-clause-nodes
returns-clause-nodes c = ap all_named c.find.ensures.nodes ∙ ap (λ (p : Placed). p.nodes) c.self.view_is

pub returns-clause-unique : goal.returns-clause-unique
returns-clause-unique c =
    let ps : List (NodeKind × List Step) = c.self.inside.spots.nodes in
    rw c.find.ensures.nodes (distinct _ (apart_named ps c.self.invariant c.apart.ensures))
