use Rattle.ksv_places.proofs.Common.{◌≡◌, ◌<◌, ◌++◌, ◌∷◌, List, [], length, get_or, reverse, sym, ◌∙◌, ap, arith, get_or_default, Step, link_at}
use Rattle.ksv_places.proofs.Common.{paths_of}
use Rattle.std.proofs.Common.{append_assoc}
use Rattle.std.proofs.lemmas.List.{append-nil, reverse-reverse}
use Rattle.ksv_places.proofs.Walking.{length-paths, root_at, path_at}
use Rattle.ksv_places.proofs.tree.Tree.steps_of.Goals as goal

pub loop-above-init : goal.loop-above-init
loop-above-init c =
    let links = c.self.inside.links.items in
    let inside : c.args.path < length (paths_of links) = rw c.self.view_is c.requires in
    (omega (arith, length-paths links), ap (λ (xs : List Step). xs ++ get_or (paths_of links) c.args.path []) c.clear.ensures.items)

pub loop-above-preserved : goal.loop-above-preserved
loop-above-preserved c =
    let links = c.self.inside.links.items in
    let k = c.loop-above.above in
    let steps = c.loop-above.steps.items in
    let some : 0 < k = omega (arith, c.loop-above-test.true) in
    let inside : k < length links = c.loop-above.invariant.0 in
    let up : (link_at links k).parent < k = c.self.invariant.up k some inside in
    let link : c.index-link.result.now ≡ link_at links k = c.index-link.ensures ∙ get_or_default links k _ _ inside in
    let l = c.index-link.result.now in
    let pushed : c.push.new.self.items ≡ steps ++ l.step ∷ [] = c.in_ok-push.ensures.items in
    let whole : l.step ∷ get_or (paths_of links) l.parent [] ≡ get_or (paths_of links) k [] =
    rw link (sym (path_at links k some inside up)) in (
      rw link (omega arith),
      ap (λ (xs : List Step). xs ++ get_or (paths_of links) l.parent []) pushed ∙ append_assoc steps (l.step ∷ []) (get_or (paths_of links) l.parent [])
          ∙ ap (λ (xs : List Step). steps ++ xs) whole ∙ c.loop-above.invariant.1,
    )

pub returns : goal.returns
returns c =
    let links = c.self.inside.links.items in
    let steps = c.loop-above.steps.items in
    let end : c.loop-above.above ≡ 0 = c.loop-above-test.false in
    let inside = c.loop-above.invariant.0 in
    let root : get_or (paths_of links) c.loop-above.above [] ≡ [] = ap (λ k. get_or (paths_of links) k []) end ∙ root_at links (omega arith) in
    ap (λ (xs : List Step). reverse xs) c.reverse.ensures.items ∙ reverse-reverse steps ∙ sym (ap (λ (xs : List Step). steps ++ xs) root ∙ append-nil steps)
    ∙ c.loop-above.invariant.1 ∙ ap (λ (ps : List (List Step)). get_or ps c.args.path []) c.self.view_is
