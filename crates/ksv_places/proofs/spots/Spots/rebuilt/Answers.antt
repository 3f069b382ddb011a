use Rattle.ksv_places.proofs.Common.{◌≡◌, ℕ, suc, ◌+◌, ◌<◌, ◌≤◌, ◌++◌, ◌∷◌, List, [], Some, length, take, reverse, sym, ◌∙◌, ap, arith, slice_get}
use Rattle.ksv_places.proofs.Common.{slice_get-get_or, slice_get_within, get_or_from_slice_get, Step, NodeKind, Head}
use Rattle.std.proofs.Math.Seq.{take-suc}
use Rattle.std.proofs.lemmas.List.{get_or-take, length-take}
use Rattle.ksv_places.proofs.spots.Spots.rebuilt.Goals as goal

-- an element among the first ones is at the same place of the whole
of_whole : {X : Type 0} (xs : List X) (n i : ℕ) (x d : X) → n ≤ length xs → slice_get (take n xs) i ≡ Some x → (i < n) × (slice_get xs i ≡ Some x)
of_whole xs n i x d few e =
    let c = length-take n xs in
    let l : i < n = omega (arith, slice_get_within (take n xs) i x e) in
    (l, slice_get-get_or xs i d (omega arith) ∙ ap Some (sym (get_or-take n xs i d l) ∙ get_or_from_slice_get (take n xs) i x d e))

pub add-requires-clause-none : goal.add-requires-clause-none
add-requires-clause-none c = λ i e.
    let ns : List (NodeKind × List Step) = c.args.self.now.nodes in
    let n = c.loop-place.place in
    let lt : n < length ns = omega (arith, c.loop-place-test.true, c.requires) in
    let node : NodeKind × List Step = (c.in_ok-kind.kind, reverse c.node_at.new.steps.items) in
    let at : slice_get ns n ≡ Some node = c.in_ok-kind.ensures in
    let e1 : slice_get (take n ns) i ≡ Some node = ap (λ (xs : List (NodeKind × List Step)). slice_get xs i)
    (sym (c.find-none.ensures.nodes ∙ c.loop-place.invariant)) ∙ e
    ∙ ap (λ (q : List Step). Some (c.in_ok-kind.kind, reverse q)) c.as_slice-slice.ensures.value in
    let w = of_whole ns n i node (Head, []) (omega arith) e1 in
    let below : i < n = w.0 in
    let same : i ≡ n = c.apart.ensures i n (omega arith) lt (w.1 ∙ sym at) in
    absurd (omega arith)

pub loop-place-preserved : goal.loop-place-preserved
loop-place-preserved c =
    let ns : List (NodeKind × List Step) = c.args.self.now.nodes in
    let n = c.loop-place.place in
    let lt : n < length ns = omega (arith, c.loop-place-test.true, c.requires) in
    let node : NodeKind × List Step = (c.in_ok-kind.kind, reverse c.node_at.new.steps.items) in
    let at : slice_get ns n ≡ Some node = c.in_ok-kind.ensures in
    c.in_ok-add.ensures.ok
    ∙ ap (λ (q : List Step). c.find-none.new.self.nodes ++ (c.in_ok-kind.kind, reverse q) ∷ []) c.as_slice-slice.ensures.value
    ∙ ap (λ (xs : List (NodeKind × List Step)). xs ++ (c.in_ok-kind.kind, reverse c.node_at.new.steps.items) ∷ [])
    (c.find-none.ensures.nodes ∙ c.loop-place.invariant)
    ∙ ap (λ (x : NodeKind × List Step). take n ns ++ x ∷ []) (sym (get_or_from_slice_get ns n node (Head, []) at))
    ∙ sym (take-suc ns n (Head, []) lt)
    ∙ ap (λ k. take k ns) (let k : suc n ≡ n + 1 = omega arith in k)
