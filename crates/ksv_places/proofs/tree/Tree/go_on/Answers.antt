use Rattle.ksv_places.proofs.Common.{◌<◌, List, [], ◌∷◌, Some, length, get_or, reverse, ◌∙◌, ap, arith, slice_get-get_or, take_all, Step, Name, paths_of}
use Rattle.ksv_places.proofs.Walking.{length-paths, root_at, more}
use Rattle.ksv_places.proofs.Reaching.{more_more, goes_on}
use Rattle.ksv_places.proofs.tree.Tree.go_on.Goals as goal

pub loop-count-init : goal.loop-count-init
loop-count-init c =
    let links = c.plant.new.links.items in
    let there : 0 < length links = c.in_ok-plant.ensures.there in
    let n = length-paths links in
    let grown = rw c.self.view_is at c.plant.ensures.more in
    let on = goes_on c.args.self.now (paths_of links) c.args.steps.now c.args.trace grown (omega arith) (root_at links there) c.requires.ends in
    let lt = on.0 in
    ((c.plant.ensures.tree _ _ _ c.self.invariant, omega arith), grown, on.1)

pub loop-count-preserved : goal.loop-count-preserved
loop-count-preserved c =
    let f = c.in_ok-path.ensures.ok in (
      (c.further.ensures.tree, f.inside),
      more_more _ _ _ c.loop-count.invariant.1 c.further.ensures.more,
      f.is ∙ ap (λ (q : List Step). get_or c.args.steps.now c.loop-count.count (Name 0) ∷ q) c.loop-count.invariant.2
          ∙ more c.args.steps.now c.loop-count.count c.loop-count-test.true,
    )

pub returns-clause-ok : goal.returns-clause-ok
returns-clause-ok c =
    let ps = paths_of c.loop-count.self-inside.links.items in
    let i = c.loop-count.path in
    let lt : i < length ps = omega (arith, length-paths c.loop-count.self-inside.links.items, c.loop-count.invariant.0.1) in
    slice_get-get_or ps i [] lt ∙ ap (λ (q : List Step). Some q)
    (c.loop-count.invariant.2 ∙ ap (λ (xs : List Step). reverse xs) (take_all c.loop-count.count c.args.steps.now c.loop-count-test.false))
