-- Nodes by their places: each is a kind and a path. A path's row has the marks of its four nodes: a mark is a node's place and one
-- more, or 0 for none. The spot of a place says of which path and kind its node is.
use Rattle.std.specs.Prelude.{◌≡◌, ◌≢◌, ℕ, ◌+◌, ◌-◌, ◌<◌, ◌≤◌, List, [], ◌∷◌, length, map, slice_index_or}
use Rattle.ksv_places.specs.Tree.{IsMore}
use Rattle.ksv_expr_value.specs.declared.step.Step.{Step}
use Rattle.ksv_nodes.specs.declared.node.NodeKind.{NodeKind}
use Rattle.ksv_nodes.specs.declared.node.NodeKind.TheVariants.{Head, Value, End, Rest}
use Rattle.ksv_places.specs.declared.links.Row.{Row}
use Rattle.ksv_places.specs.declared.links.Spot.{Spot}
use Rattle.ksv_places.specs.declared.trace.Trace.{Trace}

-- the mark of a kind in a row
abbrev pub mark_in : Row → NodeKind → ℕ
mark_in r Head = r.head
mark_in r Value = r.value
mark_in r End = r.end
mark_in r Rest = r.rest

-- the row with another mark of a kind
abbrev pub with_mark : Row → NodeKind → ℕ → Row
with_mark r Head n = record { head = n; value = r.value; end = r.end; rest = r.rest }
with_mark r Value n = record { head = r.head; value = n; end = r.end; rest = r.rest }
with_mark r End n = record { head = r.head; value = r.value; end = n; rest = r.rest }
with_mark r Rest n = record { head = r.head; value = r.value; end = r.end; rest = n }

-- the row of a path that has no node
abbrev pub no_row : Row
no_row = record { head = 0; value = 0; end = 0; rest = 0 }

abbrev pub row_at : List Row → ℕ → Row
row_at rows r = slice_index_or rows r no_row

abbrev pub spot_at : List Spot → ℕ → Spot
spot_at spots i = slice_index_or spots i (record { path = 0; kind = Head })

-- the spots of paths and kinds, each of which is a list of its own
abbrev pub spots_of : List ℕ → List NodeKind → List Spot
spots_of [] ks = []
spots_of (r ∷ rs) [] = []
spots_of (r ∷ rs) (k ∷ ks) = record { path = r; kind = k } ∷ spots_of rs ks

-- nodes, each its kind and its steps from the last to the first, the paths by their numbers, and where the last search ended
pub record Spotted : Type 0 where
  pub nodes : List (NodeKind × List Step)
  pub paths : List (List Step)
  pub end : Trace

-- the node of a spot
abbrev pub node_of : List (List Step) → Spot → NodeKind × List Step
node_of paths s = (s.kind, slice_index_or paths s.path [])

-- the nodes by their places
abbrev pub nodes_of : List (List Step) → List Spot → List (NodeKind × List Step)
nodes_of paths spots = map (node_of paths) spots

-- the spot of a mark has this path and this kind
pub record IsSpotted (spots : List Spot) (r : ℕ) (k : NodeKind) (n : ℕ) : Type 0 where
  pub inside : n ≤ length spots
  pub path : (spot_at spots (n - 1)).path ≡ r
  pub kind : (spot_at spots (n - 1)).kind ≡ k

-- the row of each spot's path has its mark, and each mark in a row is that of a spot
pub record IsFiled (paths : List (List Step)) (rows : List Row) (spots : List Spot) : Type 0 where
  pub few : length rows ≤ length paths
  pub rowed : (i : ℕ) → i < length spots → mark_in (row_at rows (spot_at spots i).path) (spot_at spots i).kind ≡ i + 1
  pub spotted : (r : ℕ) (k : NodeKind) → 0 < mark_in (row_at rows r) k → IsSpotted spots r k (mark_in (row_at rows r) k)

-- there are more paths and rows, and all marks are as they were
pub record IsRoomed (paths paths2 : List (List Step)) (rows rows2 : List Row) : Type 0 where
  pub more : IsMore paths paths2
  pub same : (r : ℕ) → row_at rows2 r ≡ row_at rows r
  pub few : length rows2 ≤ length paths2

-- one place is of no node
pub record IsOpen (rows : List Row) (spots : List Spot) (place : ℕ) : Type 0 where
  pub rowed : (i : ℕ) → i < length spots → i ≢ place → mark_in (row_at rows (spot_at spots i).path) (spot_at spots i).kind ≡ i + 1
  pub spotted : (r : ℕ) (k : NodeKind) → 0 < mark_in (row_at rows r) k → IsSpotted spots r k (mark_in (row_at rows r) k)
  pub unused : (r : ℕ) (k : NodeKind) → mark_in (row_at rows r) k ≢ place + 1
