use Rattle.ksv_places.proofs.Common.{◌≡◌, ◌<◌, ℕ, List, [], Some, zero, suc, false, length, get_or, reverse, sym, ◌∙◌, ap, arith, refl}
use Rattle.ksv_places.proofs.Common.{slice_get-get_or, take_all, Step, Name, number_at, shelf_at, look, paths_of}
use Rattle.std.specs.Bool.{◌==◌}
use Rattle.ksv_places.proofs.Walking.{length-paths, root_at, further, inside, no_path, beyond, more}
use Rattle.ksv_places.proofs.Reaching.{stopped, whole}
use Rattle.ksv_places.proofs.tree.Tree.find.Goals as goal

some_there : (n : ℕ) → (n == 0) ≡ false → 0 < n
some_there zero e = absurd (cc)
some_there (suc n) e = omega arith

pub loop-count-init : goal.loop-count-init
loop-count-init c =
    let n : 0 < length c.self.inside.links.items = some_there _
    (ap (λ xs. length xs == 0) (sym c.as_slice.ensures.value) ∙ sym c.is_empty.ensures ∙ c.if-is_empty.false) in
    (n, root_at c.self.inside.links.items n, omega arith, omega arith)

pub returns-then-next-eq0-clause-none : goal.returns-then-next-eq0-clause-none
returns-then-next-eq0-clause-none c =
    let t = c.self.inside in
    let r = c.loop-count.path in
    let s = get_or c.args.steps.now c.loop-count.count (Name 0) in
    let is : look t.links.items (number_at t.firsts) (shelf_at t.members) (shelf_at t.elements) r s ≡ 0 =
    sym (c.look-next.ensures ∙ (λ i. look (c.as_slice-in-loop-count.ensures.value i) (number_at t.firsts) (shelf_at t.members) (shelf_at t.elements) r s))
    ∙ c.if-next-eq0.true in
    rw (← c.self.view_is)
    (λ i lt e. no_path t.links.items (number_at t.firsts) (shelf_at t.members) (shelf_at t.elements) c.self.invariant c.args.steps.now c.loop-count.count r
    c.loop-count-test.true c.loop-count.invariant.0 c.loop-count.invariant.1 is i (omega (arith, length-paths t.links.items)) e)

pub overflow_cast-end : goal.overflow_cast-end
overflow_cast-end c = omega (arith, c.loop-count.invariant.2, c.loop-count.invariant.3)

pub returns-then-next-eq0-clause-ends : goal.returns-then-next-eq0-clause-ends
returns-then-next-eq0-clause-ends c =
    let links = c.self.inside.links.items in
    let r = c.loop-count.path in
    let h = c.loop-count-test.true in
    rw (← c.self.view_is)
    (stopped (paths_of links) c.args.steps.now r c.loop-count.count (omega arith)
    (omega (arith, length-paths links, c.loop-count.invariant.0)) c.loop-count.invariant.1)

pub loop-count-preserved : goal.loop-count-preserved
loop-count-preserved c =
    let t = c.self.inside in
    let r = c.loop-count.path in
    let s = get_or c.args.steps.now c.loop-count.count (Name 0) in
    let k = look t.links.items (number_at t.firsts) (shelf_at t.members) (shelf_at t.elements) r s in
    let is : c.look-next.result ≡ k = c.look-next.ensures
    ∙ (λ i. look (c.as_slice-in-loop-count.ensures.value i) (number_at t.firsts) (shelf_at t.members) (shelf_at t.elements) r s) in
    let some : 0 < k = omega (arith, c.if-next-eq0.false) in
    let past : r < k = beyond t.links.items (number_at t.firsts) (shelf_at t.members) (shelf_at t.elements) c.self.invariant r s some in
    let few = c.loop-count.invariant.2 in (
      rw is (inside t.links.items (number_at t.firsts) (shelf_at t.members) (shelf_at t.elements) c.self.invariant r s c.loop-count.invariant.0 some),
      ap (λ n. get_or (paths_of t.links.items) n []) is ∙ further t.links.items (number_at t.firsts) (shelf_at t.members) (shelf_at t.elements)
          c.self.invariant r s _ c.loop-count.invariant.0
          c.loop-count.invariant.1 some ∙ more c.args.steps.now c.loop-count.count c.loop-count-test.true,
      omega arith,
      c.look-next.type_inv,
    )

pub overflow_cast-end-2 : goal.overflow_cast-end-2
overflow_cast-end-2 c = omega (arith, c.loop-count.invariant.2, c.loop-count.invariant.3, c.loop-count-test.false)

pub returns-clause-some : goal.returns-clause-some
returns-clause-some c =
    let ps = paths_of c.self.inside.links.items in
    let i = c.loop-count.path in
    let lt : i < length ps = omega (arith, length-paths c.self.inside.links.items, c.loop-count.invariant.0) in
    rw (← c.self.view_is)
    (slice_get-get_or ps i [] lt
    ∙ ap Some (c.loop-count.invariant.1 ∙ ap (λ (xs : List Step). reverse xs) (take_all c.loop-count.count c.args.steps.now c.loop-count-test.false)))

pub returns-clause-ends : goal.returns-clause-ends
returns-clause-ends c =
    let ps = paths_of c.self.inside.links.items in
    let i = c.loop-count.path in
    let lt : i < length ps = omega (arith, length-paths c.self.inside.links.items, c.loop-count.invariant.0) in
    rw (← c.self.view_is)
    (whole ps c.args.steps.now i (length c.args.steps.now) refl
    (slice_get-get_or ps i [] lt
    ∙ ap Some (c.loop-count.invariant.1 ∙ ap (λ (xs : List Step). reverse xs)
    (take_all c.loop-count.count c.args.steps.now c.loop-count-test.false))))
