use Rattle.ksv_places.proofs.Common.{◌≡◌, ◌-◌, ◌<◌, Some, reverse, ◌∙◌, sym, ap, arith, slice_get, spots_of, row_at, nodes_of}
use Rattle.std.proofs.Common.{Option, None, IfNone}
use Rattle.ksv_places.specs.Spots.{mark_in}
use Rattle.ksv_places.proofs.Filing.{no_path_node, no_mark_node, marked}
use Rattle.ksv_places.proofs.spots.Spots.find.Goals as goal

if_none : {A : Type 0} (r : Option A) (X : Type 0) → X → IfNone r X
if_none None X x = x
if_none (Some a) X x = tt

pub returns-in_err-path-clause-none : goal.returns-in_err-path-clause-none
returns-in_err-path-clause-none c =
    let t = c.self.inside in
    if_none _ _ (no_path_node t.tree t.rows.items (spots_of t.paths.items t.kinds.items) c.self.invariant.filed c.args.kind (reverse c.args.steps.now)
    c.in_err-path.ensures.none)

pub returns-then-mark-eq0-clause-none : goal.returns-then-mark-eq0-clause-none
returns-then-mark-eq0-clause-none c =
    let t = c.self.inside in
    let r = c.in_ok-path.path in
    let is : mark_in (row_at t.rows.items r) c.args.kind ≡ 0 =
    sym (c.mark_at-mark.ensures ∙ ap (λ rs. mark_in (row_at rs r) c.args.kind) c.as_slice.ensures.value) ∙ c.if-mark-eq0.true in
    no_mark_node t.tree t.rows.items (spots_of t.paths.items t.kinds.items) c.self.invariant.filed c.args.kind (reverse c.args.steps.now) r c.apart.ensures
    c.in_ok-path.ensures.some is

pub returns-clause-some : goal.returns-clause-some
returns-clause-some c =
    let t = c.self.inside in
    let r = c.in_ok-path.path in
    let is : c.mark_at-mark.result ≡ mark_in (row_at t.rows.items r) c.args.kind =
    c.mark_at-mark.ensures ∙ ap (λ rs. mark_in (row_at rs r) c.args.kind) c.as_slice.ensures.value in
    let some : 0 < mark_in (row_at t.rows.items r) c.args.kind = (let h = c.if-mark-eq0.false in omega arith) in
    ap (λ n. slice_get (nodes_of t.tree (spots_of t.paths.items t.kinds.items)) (n - 1)) is
    ∙ marked t.tree t.rows.items (spots_of t.paths.items t.kinds.items) c.self.invariant.filed c.args.kind (reverse c.args.steps.now) r
    c.in_ok-path.ensures.some some
