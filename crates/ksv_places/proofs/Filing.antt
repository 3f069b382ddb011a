-- Nodes by their paths' rows.
use Rattle.ksv_places.proofs.Common.{◌≡◌, ℕ, ◌+◌, ◌-◌, ◌<◌, ◌≤◌, ◌⊎◌, inl, inr, ◌≢◌, set, List, [], ◌∷◌, ◌++◌, length, get_or, Some, refl}
use Rattle.ksv_places.proofs.Common.{sym, ◌∙◌, ap, arith, slice_get, option_map, length-map, get_or_append_left, length_push, length-set}
use Rattle.ksv_places.proofs.Common.{get_or-set_same, get_or-set_other, get_or_push, cases_lt, slice_get-map, slice_get-get_or, slice_get_within}
use Rattle.ksv_places.proofs.Common.{get_or_from_slice_get, Step, NodeKind, Head, Row, Spot, with_mark, row_at, spot_at, node_of, nodes_of, IsFiled, cases_eq}
use Rattle.std.proofs.lemmas.List.{get_or_past, get_or-map, same_lists, map-append, map-set}
use Rattle.ksv_nodes.specs.declared.node.NodeKind.TheVariants.{Value, End, Rest}
use Rattle.ksv_places.specs.Spots.{mark_in, no_row, IsSpotted, IsRoomed, IsOpen}

mark_none : (k : NodeKind) → mark_in no_row k ≡ 0
mark_none k = grind arith

module _ (paths : List (List Step)) (rows : List Row) (spots : List Spot) (filed : IsFiled paths rows spots) where
  -- the path of a node is there
  pub path_in : (i : ℕ) → i < length spots → (spot_at spots i).path < length rows
  path_in i lt = elim (cases_lt (spot_at spots i).path (length rows)) [
    | inl h ↦ h
    | inr h ↦ let zero_is = sym (filed.rowed i lt) ∙ ap (λ (r : Row). mark_in r (spot_at spots i).kind) (get_or_past rows (spot_at spots i).path no_row h) in
        absurd (omega (arith, zero_is, mark_none (spot_at spots i).kind))
  ]

  record Has (i : ℕ) (k : NodeKind) (q : List Step) : Type 0 where
    pub inside : i < length spots
    pub kind : (spot_at spots i).kind ≡ k
    pub path : get_or paths (spot_at spots i).path [] ≡ q
    pub there : (spot_at spots i).path < length paths

  has : (i : ℕ) (k : NodeKind) (q : List Step) → slice_get (nodes_of paths spots) i ≡ Some (k, q) → Has i k q
  has i k q e =
      let lt : i < length spots = omega (arith, length-map spots (node_of paths), slice_get_within (nodes_of paths spots) i (k, q) e) in
      let is : Some (node_of paths (spot_at spots i)) ≡ Some (k, q) =
      sym (slice_get-map (node_of paths) spots i ∙ ap (option_map (node_of paths)) (slice_get-get_or spots i _ lt)) ∙ e in
      let both : node_of paths (spot_at spots i) ≡ (k, q) = cc in
      record {
        inside = lt;
        kind = ap (λ (p : NodeKind × List Step). p.0) both;
        path = ap (λ (p : NodeKind × List Step). p.1) both;
        there = omega (arith, path_in i lt, filed.few);
      }

  -- without a path there is no node
  pub no_path_node : (k : NodeKind) (q : List Step) → ((i : ℕ) → i < length paths → get_or paths i [] ≡ q → ⊥) → (i : ℕ)
      → slice_get (nodes_of paths spots) i ≡ Some (k, q) → ⊥
  no_path_node k q h i e = let n = has i k q e in h (spot_at spots i).path n.there n.path

  -- without a mark in the path's row neither
  pub no_mark_node : (k : NodeKind) (q : List Step) (r : ℕ) → ((i j : ℕ) → i < length paths → j < length paths → get_or paths i [] ≡ get_or paths j [] → i ≡ j)
      → slice_get paths r ≡ Some q → mark_in (row_at rows r) k ≡ 0 → (i : ℕ) → slice_get (nodes_of paths spots) i ≡ Some (k, q) → ⊥
  no_mark_node k q r unique at e i f =
      let n = has i k q f in
      let same : (spot_at spots i).path ≡ r = unique (spot_at spots i).path r n.there (slice_get_within paths r q at)
      (n.path ∙ sym (get_or_from_slice_get paths r q [] at)) in
      let zero_is : i + 1 ≡ 0 = sym (filed.rowed i n.inside) ∙ (λ j. mark_in (row_at rows (same j)) (n.kind j)) ∙ e in
      absurd (omega arith)

  -- with one, it is the node's
  pub marked : (k : NodeKind) (q : List Step) (r : ℕ) → slice_get paths r ≡ Some q → 0 < mark_in (row_at rows r) k
      → slice_get (nodes_of paths spots) (mark_in (row_at rows r) k - 1) ≡ Some (k, q)
  marked k q r at some =
      let n = mark_in (row_at rows r) k in
      let s : IsSpotted spots r k n = filed.spotted r k some in
      slice_get-map (node_of paths) spots (n - 1) ∙ ap (option_map (node_of paths)) (slice_get-get_or spots (n - 1) _ (omega (arith, s.inside)))
      ∙ (λ j. Some (s.kind j, get_or paths (s.path j) [])) ∙ ap (λ (p : List Step). Some (k, p)) (get_or_from_slice_get paths r q [] at)

  -- no two places have one node
  pub one_place : ((i j : ℕ) → i < length paths → j < length paths → get_or paths i [] ≡ get_or paths j [] → i ≡ j) → (i j : ℕ)
      → i < length (nodes_of paths spots) → j < length (nodes_of paths spots) → slice_get (nodes_of paths spots) i ≡ slice_get (nodes_of paths spots) j
      → i ≡ j
  one_place unique i j li lj e =
      let count = length-map spots (node_of paths) in
      let other = spot_at spots j in
      let at : slice_get (nodes_of paths spots) j ≡ Some (node_of paths other) =
      slice_get-map (node_of paths) spots j ∙ ap (option_map (node_of paths)) (slice_get-get_or spots j _ (omega arith)) in
      let a : Has i other.kind (get_or paths other.path []) = has i other.kind (get_or paths other.path []) (e ∙ at) in
      let b : Has j other.kind (get_or paths other.path []) = has j other.kind (get_or paths other.path []) at in
      let same : (spot_at spots i).path ≡ other.path = unique (spot_at spots i).path other.path a.there b.there a.path in
      let mark : i + 1 ≡ j + 1 = sym (filed.rowed i a.inside) ∙ (λ k. mark_in (row_at rows (same k)) (a.kind k)) ∙ filed.rowed j b.inside in
      omega arith

-- two kinds are the same, or a mark of the one leaves that of the other
kinds : (a b : NodeKind) → (a ≡ b) ⊎ ((r : Row) (n : ℕ) → mark_in (with_mark r b n) a ≡ mark_in r a)
kinds Head Head = inl refl
kinds Value Value = inl refl
kinds End End = inl refl
kinds Rest Rest = inl refl
kinds _ _ = inr (λ r n. refl)

mark_now : (r : Row) (k : NodeKind) (n : ℕ) → mark_in (with_mark r k n) k ≡ n
mark_now r k n = grind arith

module _ (paths paths2 : List (List Step)) (rows rows2 : List Row) (spots : List Spot) (filed : IsFiled paths rows spots)
    (roomed : IsRoomed paths paths2 rows rows2) where
  pub filed_more : IsFiled paths2 rows2 spots
  filed_more = record {
    few = roomed.few;
    rowed = λ i lt. rw (roomed.same (spot_at spots i).path) (filed.rowed i lt);
    spotted = λ r k some. rw (roomed.same r) (filed.spotted r k (rw (roomed.same r) at some));
  }

  pub nodes_same : nodes_of paths2 spots ≡ nodes_of paths spots
  nodes_same = same_lists _ _ (length-map spots (node_of paths2) ∙ sym (length-map spots (node_of paths))) (λ k d l.
      let lt : k < length spots = omega (arith, length-map spots (node_of paths2)) in
      let there : (spot_at spots k).path < length paths = omega (arith, path_in paths rows spots filed k lt, filed.few) in
      let same : get_or paths2 (spot_at spots k).path [] ≡ get_or paths (spot_at spots k).path [] =
      rw roomed.more.grown (get_or_append_left paths roomed.more.more [] (spot_at spots k).path there) in
      get_or-map (node_of paths2) spots k _ d lt ∙ ap (λ (q : List Step). ((spot_at spots k).kind, q)) same
      ∙ sym (get_or-map (node_of paths) spots k _ d lt))

-- a mark written into a row
module _ (rows : List Row) (path : ℕ) (kind : NodeKind) (n : ℕ) (inside : path < length rows) where
  abbrev written : List Row
  written = set rows path (with_mark (row_at rows path) kind n)

  now_row : row_at written path ≡ with_mark (row_at rows path) kind n
  now_row = get_or-set_same rows path _ no_row inside

  pub now_mark : mark_in (row_at written path) kind ≡ n
  now_mark = rw now_row (mark_now (row_at rows path) kind n)

  -- all other marks are the same
  pub other_marks : (r : ℕ) (k : NodeKind) → (mark_in (row_at written r) k ≡ mark_in (row_at rows r) k) ⊎ ((r ≡ path) × (k ≡ kind))
  other_marks r k = elim (cases_eq r path) [
    | inr e ↦ inl (rw (get_or-set_other rows path r _ no_row e) refl)
    | inl e ↦ elim (kinds k kind) [
      | inl f ↦ inr (e, f)
      | inr f ↦ inl (rw (e, now_row) (f (row_at rows path) n))
    ]
  ]

-- after the last place there is none
pub open_behind : (paths : List (List Step)) (rows : List Row) (spots : List Spot) → IsFiled paths rows spots → IsOpen rows spots (length spots)
open_behind paths rows spots filed = record {
  rowed = λ i lt ne. filed.rowed i lt;
  spotted = filed.spotted;
  unused = λ r k e. omega (arith, (filed.spotted r k (omega arith)).inside);
}

-- a place is open once its mark is no longer in the row of its node's path
module _ (paths : List (List Step)) (rows : List Row) (spots : List Spot) (filed : IsFiled paths rows spots) (place : ℕ) (there : place < length spots) where
  abbrev spot : Spot
  spot = spot_at spots place

  abbrev cleared : List Row
  cleared = set rows spot.path (with_mark (row_at rows spot.path) spot.kind 0)

  inside : spot.path < length rows
  inside = path_in paths rows spots filed place there

  others : (r : ℕ) (k : NodeKind) → (mark_in (row_at cleared r) k ≡ mark_in (row_at rows r) k) ⊎ ((r ≡ spot.path) × (k ≡ spot.kind))
  others = other_marks rows spot.path spot.kind 0 inside

  gone : (r : ℕ) (k : NodeKind) → (r ≡ spot.path) × (k ≡ spot.kind) → mark_in (row_at cleared r) k ≡ 0
  gone r k e = (λ i. mark_in (row_at cleared (e.0 i)) (e.1 i)) ∙ now_mark rows spot.path spot.kind 0 inside

  pub open_at : IsOpen cleared spots place
  open_at = record {
    rowed = λ i lt ne. elim (others (spot_at spots i).path (spot_at spots i).kind) [
      | inl e ↦ e ∙ filed.rowed i lt
      | inr e ↦ let same : i + 1 ≡ place + 1 = sym (filed.rowed i lt) ∙ (λ j. mark_in (row_at rows (e.0 j)) (e.1 j)) ∙ filed.rowed place there in
          absurd (ne (omega arith))
    ];
    spotted = λ r k some. elim (others r k) [
      | inl e ↦ rw e (filed.spotted r k (rw e at some))
      | inr e ↦ let none = gone r k e in absurd (omega arith)
    ];
    unused = λ r k h. elim (others r k) [
      | inl e ↦
          let m = mark_in (row_at rows r) k in
          let mark : m ≡ place + 1 = sym e ∙ h in
          let s : IsSpotted spots r k m = filed.spotted r k (omega arith) in
          let at : m - 1 ≡ place = omega arith in
          let none = gone r k (sym s.path ∙ ap (λ n. (spot_at spots n).path) at, sym s.kind ∙ ap (λ n. (spot_at spots n).kind) at) in
          omega arith
      | inr e ↦ let none = gone r k e in omega arith
    ];
  }

  -- where a row had no mark it has none now
  pub still_none : (r : ℕ) (k : NodeKind) → mark_in (row_at rows r) k ≡ 0 → mark_in (row_at cleared r) k ≡ 0
  still_none r k h = elim (others r k) [
    | inl e ↦ e ∙ h
    | inr e ↦ gone r k e
  ]

-- an open place is given to a node whose path's row has no mark of its kind
module _ (paths : List (List Step)) (rows : List Row) (spots : List Spot) (place : ℕ) (open_place : IsOpen rows spots place) (path : ℕ) (kind : NodeKind)
    (inside : path < length rows) (no_mark : mark_in (row_at rows path) kind ≡ 0) (few : length rows ≤ length paths) where
  abbrev filled : List Row
  filled = set rows path (with_mark (row_at rows path) kind (place + 1))

  changed : (r : ℕ) (k : NodeKind) → (mark_in (row_at filled r) k ≡ mark_in (row_at rows r) k) ⊎ ((r ≡ path) × (k ≡ kind))
  changed = other_marks rows path kind (place + 1) inside

  here : (r : ℕ) (k : NodeKind) → (r ≡ path) × (k ≡ kind) → mark_in (row_at filled r) k ≡ place + 1
  here r k e = (λ i. mark_in (row_at filled (e.0 i)) (e.1 i)) ∙ now_mark rows path kind (place + 1) inside

  module _ (spots2 : List Spot) (now_spot : spot_at spots2 place ≡ record { path = path; kind = kind }) (there : place < length spots2)
      (more : length spots ≤ length spots2) (old_in : (i : ℕ) → i < length spots2 → i ≢ place → i < length spots)
      (old_spot : (i : ℕ) → i < length spots → i ≢ place → spot_at spots2 i ≡ spot_at spots i) where
    filed_then : IsFiled paths filled spots2
    filed_then = record {
      few = omega (arith, length-set rows path (with_mark (row_at rows path) kind (place + 1)));
      rowed = λ i lt. elim (cases_eq i place) [
        | inl e ↦ rw (e, now_spot) (here path kind (refl, refl))
        | inr ne ↦ let l = old_in i lt ne in rw (old_spot i l ne) (elim (changed (spot_at spots i).path (spot_at spots i).kind) [
          | inl e ↦ e ∙ open_place.rowed i l ne
          | inr e ↦ let zero_is = sym (open_place.rowed i l ne) ∙ (λ j. mark_in (row_at rows (e.0 j)) (e.1 j)) ∙ no_mark in omega arith
        ])
      ];
      spotted = λ r k some. elim (changed r k) [
        | inl e ↦
            let m = mark_in (row_at rows r) k in
            let p : 0 < m = rw e at some in
            let s : IsSpotted spots r k m = open_place.spotted r k p in
            let o : spot_at spots2 (m - 1) ≡ spot_at spots (m - 1) =
            old_spot (m - 1) (omega (arith, s.inside)) (λ f. open_place.unused r k (omega arith)) in
            rw e (record { inside = omega (arith, s.inside); path = rw o s.path; kind = rw o s.kind })
        | inr e ↦
            let m : place + 1 - 1 ≡ place = omega arith in
            rw (here r k e) (record { inside = omega arith; path = rw (m, now_spot) (sym e.0); kind = rw (m, now_spot) (sym e.1) })
      ];
    }

  pub filed_push : place ≡ length spots → IsFiled paths filled (spots ++ record { path = path; kind = kind } ∷ [])
  filed_push e =
      let s : Spot = record { path = path; kind = kind } in
      let n = length_push spots s in
      filed_then (spots ++ s ∷ []) (get_or_push spots s _ place (sym e)) (omega arith) (omega arith) (λ i l ne. omega arith)
      (λ i l ne. get_or_append_left spots (s ∷ []) _ i l)

  pub filed_set : place < length spots → IsFiled paths filled (set spots place (record { path = path; kind = kind }))
  filed_set l =
      let s : Spot = record { path = path; kind = kind } in
      let n = length-set spots place s in
      filed_then (set spots place s) (get_or-set_same spots place s _ l) (omega arith) (omega arith) (λ i l ne. omega arith)
      (λ i l ne. get_or-set_other spots place i s _ ne)

-- the nodes then
pub nodes_push : (paths : List (List Step)) (spots : List Spot) (kind : NodeKind) (q : List Step) (path : ℕ) → slice_get paths path ≡ Some q
    → nodes_of paths (spots ++ record { path = path; kind = kind } ∷ []) ≡ nodes_of paths spots ++ (kind, q) ∷ []
nodes_push paths spots kind q path at = map-append (node_of paths) spots (record { path = path; kind = kind } ∷ [])
    ∙ ap (λ (p : List Step). nodes_of paths spots ++ (kind, p) ∷ []) (get_or_from_slice_get paths path q [] at)

pub nodes_set : (paths : List (List Step)) (spots : List Spot) (place : ℕ) (kind : NodeKind) (q : List Step) (path : ℕ) → slice_get paths path ≡ Some q
    → nodes_of paths (set spots place (record { path = path; kind = kind })) ≡ set (nodes_of paths spots) place (kind, q)
nodes_set paths spots place kind q path at = map-set (node_of paths) spots place (record { path = path; kind = kind })
    ∙ ap (λ (p : List Step). set (nodes_of paths spots) place (kind, p)) (get_or_from_slice_get paths path q [] at)

-- a node that has no place has no mark in its path's row
pub no_mark : (paths : List (List Step)) (rows : List Row) (spots : List Spot) → IsFiled paths rows spots → (kind : NodeKind) (q : List Step) (path : ℕ)
    → slice_get paths path ≡ Some q → ((i : ℕ) → slice_get (nodes_of paths spots) i ≡ Some (kind, q) → ⊥) → mark_in (row_at rows path) kind ≡ 0
no_mark paths rows spots filed kind q path at free = elim (cases_lt 0 (mark_in (row_at rows path) kind)) [
  | inl h ↦ absurd (free _ (marked paths rows spots filed kind q path at h))
  | inr h ↦ omega arith
]
