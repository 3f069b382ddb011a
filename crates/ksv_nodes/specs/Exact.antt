-- A lemma, which a reader may skip.
-- Nodes that `==` finds equal are the same node.
use Rattle.std.specs.Prelude.{◌≡◌, true}
use Rattle.std.proofs.Common.{rules}
use denote.Enum.Bare.{same_true}
use Rattle.ksv_nodes.specs.contracts.node.NodeKind.{the_type}
use Rattle.std.specs.Cmp.{first_so, second_so}
use Rattle.ksv_expr_value.specs.Exact.{path_exact}
use Rattle.ksv_expr_value.specs.contracts.path.PathPartialEq.TheImpl.{ghosts as path_tests}
use Rattle.ksv_nodes.specs.contracts.node.NodeKindPartialEq.TheImpl.{ghosts as kind_tests}
use Rattle.ksv_nodes.specs.contracts.node.NodePartialEq.TheImpl.{ghosts as node_tests}
use Rattle.ksv_nodes.specs.declared.node.NodeKind.{NodeKind}
use Rattle.ksv_nodes.specs.declared.node.Node.{Node}

-- equal nodes are the same
abbrev pub EqualNodesAreSame : Type 0
EqualNodesAreSame = (a b : Node) → node_tests.eq a b ≡ true → a ≡ b

kind_exact : (a b : NodeKind) → kind_tests.eq a b ≡ true → a ≡ b
kind_exact a b h = same_true the_type (search rules) a b h

pub node_exact : EqualNodesAreSame
node_exact a b h =
    let kind : a.kind ≡ b.kind = kind_exact a.kind b.kind (first_so (kind_tests.eq a.kind b.kind) (path_tests.eq a.path b.path) h) in
    let path : a.path ≡ b.path = path_exact a.path b.path (second_so (kind_tests.eq a.kind b.kind) (path_tests.eq a.path b.path) h) in
    λ i. record { kind = kind i; path = path i }
