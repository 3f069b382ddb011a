-- With lemmas, which a reader may skip.
-- Each node has a number of its own, which only contracts see; there are finitely many.
use Rattle.std.specs.Prelude.{◌≡◌, ℕ, ◌+◌, ◌*◌, ◌<◌, zero, suc, refl}
use Rattle.std.proofs.Common.{arith, ap}
use Rattle.ksv_expr_value.specs.Numbers.{path_number, path_bound, path_number-one, path_number-below}
use Rattle.ksv_nodes.specs.declared.node.NodeKind.{NodeKind}
use Rattle.ksv_nodes.specs.declared.node.NodeKind.TheVariants.{Head, Value, End, Rest}
use Rattle.ksv_nodes.specs.declared.node.Node.{Node}

-- what is asked, from 0 to 3
kind_number : NodeKind → ℕ
kind_number Head = 0
kind_number Value = 1
kind_number End = 2
kind_number Rest = 3

kind_number-low : (k : NodeKind) → kind_number k < 4
unfolding kind_number
kind_number-low Head = omega arith
kind_number-low Value = omega arith
kind_number-low End = omega arith
kind_number-low Rest = omega arith

kind_of : ℕ → NodeKind
kind_of zero = Head
kind_of (suc zero) = Value
kind_of (suc (suc zero)) = End
kind_of (suc (suc (suc n))) = Rest

kind_of-number : (k : NodeKind) → kind_of (kind_number k) ≡ k
unfolding kind_number kind_of
kind_of-number Head = refl
kind_of-number Value = refl
kind_of-number End = refl
kind_of-number Rest = refl

-- the node's own number
pub node_number : Node → ℕ
node_number n = 4 * path_number n.path + kind_number n.kind

-- a bound above every node's number
pub node_bound : ℕ
node_bound = 4 * path_bound

same_path : (p q a b : ℕ) → a < 4 → b < 4 → 4 * p + a ≡ 4 * q + b → p ≡ q
same_path p q a b la lb e = omega arith

same_kind : (p q a b : ℕ) → a < 4 → b < 4 → 4 * p + a ≡ 4 * q + b → a ≡ b
same_kind p q a b la lb e = omega arith

below_next : (p q a : ℕ) → a < 4 → p < q → 4 * p + a < 4 * q
below_next p q a la h = omega arith

-- nodes of one number are the same
pub node_number-one : (a b : Node) → node_number a ≡ node_number b → a ≡ b
unfolding node_number
node_number-one a b e =
    let la = kind_number-low a.kind in
    let lb = kind_number-low b.kind in
    let path : a.path ≡ b.path = path_number-one a.path b.path (same_path (path_number a.path) (path_number b.path) (kind_number a.kind) (kind_number b.kind) la lb e) in
    let kinds : kind_number a.kind ≡ kind_number b.kind = same_kind (path_number a.path) (path_number b.path) (kind_number a.kind) (kind_number b.kind) la lb e in
    let kind : a.kind ≡ b.kind = (rw (← kind_of-number a.kind) (rw (← kind_of-number b.kind) (ap kind_of kinds))) in
    λ i. record { kind = kind i; path = path i }

-- each node's number is below the bound
pub node_number-below : (a : Node) → node_number a < node_bound
unfolding node_number node_bound
node_number-below a = below_next (path_number a.path) path_bound (kind_number a.kind) (kind_number-low a.kind) (path_number-below a.path)

-- nodes are numbered one to one, below a bound
pub record AreNodesNumbered : Type 0 where
  pub one : (a b : Node) → node_number a ≡ node_number b → a ≡ b
  pub below : (a : Node) → node_number a < node_bound
