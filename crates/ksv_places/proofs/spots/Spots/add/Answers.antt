use Rattle.ksv_places.proofs.Common.{◌≡◌, ℕ, ◌+◌, ◌++◌, ◌∷◌, [], Some, length, set, reverse, ◌∙◌, sym, ap, subst, arith, slice_get, length_push}
use Rattle.ksv_places.proofs.Common.{spots_of, with_mark, row_at, nodes_of, Spotted, EndsAt}
use Rattle.ksv_places.proofs.Filing.{filed_more, nodes_same, open_behind, no_mark, filed_push, nodes_push}
use Rattle.ksv_places.proofs.Pairing.{count, on_err, pushed}
use Rattle.ksv_places.proofs.spots.Spots.add.Goals as goal

pub make_row-requires-clause-ends : goal.make_row-requires-clause-ends
make_row-requires-clause-ends c = subst (λ (s : Spotted). EndsAt s.paths c.args.steps.now s.end) (sym c.self.view_is) c.requires.ends

pub returns-in_err-path-clause-err : goal.returns-in_err-path-clause-err
returns-in_err-path-clause-err c =
    let t = c.self.inside in
    on_err _ _ ((λ i. nodes_of c.make_row.new.tree (spots_of (c.reserve.ensures.items i) (c.reserve-2.ensures.items i)))
    ∙ nodes_same t.tree c.make_row.new.tree t.rows.items c.make_row.new.rows.items (spots_of t.paths.items t.kinds.items) c.self.invariant.filed
    c.make_row.ensures.roomed ∙ ap (λ (s : Spotted). s.nodes) c.self.view_is)

pub invariant_of-self-2 : goal.invariant_of-self-2
invariant_of-self-2 c =
    let t = c.self.inside in
    let paths = c.make_row.new.tree in
    let rows = c.make_row.new.rows.items in
    let spots = spots_of t.paths.items t.kinds.items in
    let path = c.in_ok-path.path in
    let kind = c.args.kind in
    let q = reverse c.args.steps.now in
    let ok = c.in_ok-path.ensures.ok in
    let filed = filed_more t.tree paths t.rows.items rows spots c.self.invariant.filed c.make_row.ensures.roomed in
    let same = nodes_same t.tree paths t.rows.items rows spots c.self.invariant.filed c.make_row.ensures.roomed in
    let free : (i : ℕ) → slice_get (nodes_of paths spots) i ≡ Some (kind, q) → ⊥ = rw (same, ap (λ (s : Spotted). s.nodes) c.self.view_is) c.requires.none in
    let mark : c.in_ok-mark.mark ≡ length spots + 1 =
    c.in_ok-mark.ensures
    ∙ ap (λ n. n + 1) (c.in_ok-count.ensures ∙ ap (λ rs. length rs) c.as_slice.ensures.value
    ∙ sym (count t.paths.items t.kinds.items c.self.invariant.both)) in
    let wrote : c.write.new.rows.items ≡ set rows path (with_mark (row_at rows path) kind (length spots + 1)) =
    c.write.ensures ∙ ap (λ n. set rows path (with_mark (row_at rows path) kind n)) mark in
    let rs = c.push_reserved.ensures.items ∙ ap (λ xs. xs ++ path ∷ []) c.reserve.ensures.items in
    let ks = c.push_reserved-2.ensures.items ∙ ap (λ xs. xs ++ kind ∷ []) c.reserve-2.ensures.items in
    let grown : spots_of c.push_reserved.new.self.items c.push_reserved-2.new.self.items ≡ spots ++ record { path = path; kind = kind } ∷ [] =
    (λ i. spots_of (rs i) (ks i)) ∙ pushed t.paths.items t.kinds.items c.self.invariant.both path kind in
    let none = no_mark paths rows spots filed kind q path ok.0 free in
    let done = filed_push paths rows spots (length spots) (open_behind paths rows spots filed) path kind ok.1 none filed.few (λ _. length spots) in
    let both : length c.push_reserved-2.new.self.items ≡ length c.push_reserved.new.self.items =
    omega (arith, ap length rs, ap length ks, length_push t.paths.items path, length_push t.kinds.items kind, c.self.invariant.both) in
    record {
      both = both;
      filed = rw (wrote, grown) done;
    }

pub returns-clause-ok : goal.returns-clause-ok
returns-clause-ok c =
    let t = c.self.inside in
    let paths = c.make_row.new.tree in
    let rows = c.make_row.new.rows.items in
    let spots = spots_of t.paths.items t.kinds.items in
    let path = c.in_ok-path.path in
    let kind = c.args.kind in
    let q = reverse c.args.steps.now in
    let ok = c.in_ok-path.ensures.ok in
    let same = nodes_same t.tree paths t.rows.items rows spots c.self.invariant.filed c.make_row.ensures.roomed in
    let rs = c.push_reserved.ensures.items ∙ ap (λ xs. xs ++ path ∷ []) c.reserve.ensures.items in
    let ks = c.push_reserved-2.ensures.items ∙ ap (λ xs. xs ++ kind ∷ []) c.reserve-2.ensures.items in
    let grown : spots_of c.push_reserved.new.self.items c.push_reserved-2.new.self.items ≡ spots ++ record { path = path; kind = kind } ∷ [] =
    (λ i. spots_of (rs i) (ks i)) ∙ pushed t.paths.items t.kinds.items c.self.invariant.both path kind in
    rw grown (nodes_push paths spots kind q path ok.0 ∙ ap (λ ns. ns ++ (kind, q) ∷ []) (same ∙ ap (λ (s : Spotted). s.nodes) c.self.view_is))
