use Rattle.ksv_places.proofs.Common.{◌≡◌, ℕ, ◌+◌, ◌<◌, List, Some, length, set, reverse, ◌∙◌, ap, arith, slice_get, length-map, length-set, Step}
use Rattle.ksv_places.proofs.Common.{NodeKind, Row, Spot, spots_of, with_mark, row_at, spot_at, node_of, nodes_of, Spotted}
use Rattle.ksv_places.proofs.Filing.{filed_more, nodes_same, path_in, open_at, still_none, no_mark, filed_set, nodes_set}
use Rattle.ksv_places.proofs.Pairing.{count, on_err, put}
use Rattle.ksv_places.proofs.spots.Spots.give.Goals as goal

place_there : (paths : List (List Step)) (spots : List Spot) (nodes : List (NodeKind × List Step)) (place : ℕ) → nodes_of paths spots ≡ nodes
    → place < length nodes → place < length spots
place_there paths spots nodes place e l = omega (arith, length-map spots (node_of paths), ap (λ (ns : List (NodeKind × List Step)). length ns) e)

pub returns-in_err-path-clause-err : goal.returns-in_err-path-clause-err
returns-in_err-path-clause-err c =
    let t = c.self.inside in
    on_err _ _ (nodes_same t.tree c.make_row.new.tree t.rows.items c.make_row.new.rows.items (spots_of t.paths.items t.kinds.items) c.self.invariant.filed
    c.make_row.ensures.roomed ∙ ap (λ (s : Spotted). s.nodes) c.self.view_is)

path_there : (paths : List (List Step)) (rs : List ℕ) (ks : List NodeKind) (nodes : List (NodeKind × List Step)) (place : ℕ) → length ks ≡ length rs
    → nodes_of paths (spots_of rs ks) ≡ nodes → place < length nodes → place < length rs
path_there paths rs ks nodes place both e l = omega (arith, count rs ks both, place_there paths (spots_of rs ks) nodes place e l)

pub spot_at-spot-requires-clause-there : goal.spot_at-spot-requires-clause-there
spot_at-spot-requires-clause-there c =
    let t = c.self.inside in
    let there = path_there t.tree t.paths.items t.kinds.items _ c.args.place c.self.invariant.both (ap (λ (s : Spotted). s.nodes) c.self.view_is)
    c.requires.place_in in
    let same = ap length c.as_slice.ensures.value in
    omega arith

pub index_mut-requires : goal.index_mut-requires
index_mut-requires c =
    let t = c.self.inside in
    let there = path_there t.tree t.paths.items t.kinds.items _ c.args.place c.self.invariant.both (ap (λ (s : Spotted). s.nodes) c.self.view_is)
    c.requires.place_in in
    omega arith

pub index_mut-requires-2 : goal.index_mut-requires-2
index_mut-requires-2 c =
    let t = c.self.inside in
    let there = path_there t.tree t.paths.items t.kinds.items _ c.args.place c.self.invariant.both (ap (λ (s : Spotted). s.nodes) c.self.view_is)
    c.requires.place_in in
    let both = c.self.invariant.both in
    omega arith

pub write-requires : goal.write-requires
write-requires c =
    let t = c.self.inside in
    let paths = c.make_row.new.tree in
    let rows = c.make_row.new.rows.items in
    let spots = spots_of t.paths.items t.kinds.items in
    let filed = filed_more t.tree paths t.rows.items rows spots c.self.invariant.filed c.make_row.ensures.roomed in
    let there = place_there t.tree spots _ c.args.place (ap (λ (s : Spotted). s.nodes) c.self.view_is) c.requires.place_in in
    let spot : c.spot_at-spot.result ≡ spot_at spots c.args.place =
    c.spot_at-spot.ensures ∙ (λ i. spot_at (spots_of (c.as_slice.ensures.value i) (c.as_slice-2.ensures.value i)) c.args.place) in
    rw spot (path_in paths rows spots filed c.args.place there)

pub invariant_of-self-2 : goal.invariant_of-self-2
invariant_of-self-2 c =
    let t = c.self.inside in
    let paths = c.make_row.new.tree in
    let rows = c.make_row.new.rows.items in
    let spots = spots_of t.paths.items t.kinds.items in
    let place = c.args.place in
    let path = c.in_ok-path.path in
    let kind = c.args.kind in
    let q = reverse c.args.steps.now in
    let ok = c.in_ok-path.ensures.ok in
    let filed = filed_more t.tree paths t.rows.items rows spots c.self.invariant.filed c.make_row.ensures.roomed in
    let same = nodes_same t.tree paths t.rows.items rows spots c.self.invariant.filed c.make_row.ensures.roomed in
    let there = place_there t.tree spots _ place (ap (λ (s : Spotted). s.nodes) c.self.view_is) c.requires.place_in in
    let free : (i : ℕ) → slice_get (nodes_of paths spots) i ≡ Some (kind, q) → ⊥ = rw (same, ap (λ (s : Spotted). s.nodes) c.self.view_is) c.requires.none in
    let mark : c.in_ok-mark.mark ≡ place + 1 = c.in_ok-mark.ensures ∙ ap (λ n. n + 1) c.in_ok-count.ensures in
    let old : Spot = spot_at spots place in
    let spot : c.spot_at-spot.result ≡ old = c.spot_at-spot.ensures
    ∙ (λ i. spot_at (spots_of (c.as_slice.ensures.value i) (c.as_slice-2.ensures.value i)) place) in
    let cleared : List Row = set rows old.path (with_mark (row_at rows old.path) old.kind 0) in
    let wiped : c.write.new.rows.items ≡ cleared = rw spot at c.write.ensures in
    let wrote : c.write-2.new.rows.items ≡ set cleared path (with_mark (row_at cleared path) kind (place + 1)) =
    rw (wiped, mark) at c.write-2.ensures in
    let count = length-set rows old.path (with_mark (row_at rows old.path) old.kind 0) in
    let none = still_none paths rows spots filed place there path kind (no_mark paths rows spots filed kind q path ok.0 free) in
    let inside : path < length cleared = omega (arith, ok.1) in
    let few = filed.few in
    let both : length (set t.kinds.items place kind) ≡ length (set t.paths.items place path) =
    omega (arith, length-set t.kinds.items place kind, length-set t.paths.items place path, c.self.invariant.both) in
    let now = put t.paths.items t.kinds.items c.self.invariant.both place path kind in
    record {
      both = both;
      filed = rw (now, wrote) (filed_set paths cleared spots place (open_at paths rows spots filed place there) path kind inside none (omega arith) there);
    }

pub returns-clause-ok : goal.returns-clause-ok
returns-clause-ok c =
    let t = c.self.inside in
    let paths = c.make_row.new.tree in
    let spots = spots_of t.paths.items t.kinds.items in
    let place = c.args.place in
    let kind = c.args.kind in
    let q = reverse c.args.steps.now in
    let ok = c.in_ok-path.ensures.ok in
    let same = nodes_same t.tree paths t.rows.items c.make_row.new.rows.items spots c.self.invariant.filed c.make_row.ensures.roomed in
    rw (put t.paths.items t.kinds.items c.self.invariant.both place c.in_ok-path.path kind) (nodes_set paths spots place kind q c.in_ok-path.path ok.0
    ∙ ap (λ (ns : List (NodeKind × List Step)). set ns place (kind, q)) (same ∙ ap (λ (s : Spotted). s.nodes) c.self.view_is))
