-- The faults of nodes: those that rules and expressions raise, and circles.
use Rattle.std.specs.Prelude.{ℕ, List, codes}
use Rattle.ksv_expr_value.specs.Faults.{name_of}
use Rattle.ksv_expr_value.specs.Trail.{Trail}
use Rattle.ksv_expr_value.specs.declared.fault.FaultKind.{FaultKind}
use Rattle.ksv_nodes.specs.declared.node_fault.NodeFault.{NodeFault}
use Rattle.ksv_nodes.specs.declared.node_fault.NodeFault.TheVariants as faults
use Rattle.ksv_nodes.specs.Turning.{fault_at}

-- its name, as replies write it
abbrev pub fault_name : NodeFault → List ℕ
fault_name (faults.Raised f) = name_of f.kind
fault_name (faults.Circle p) = codes "circle"

-- the path where it arose
abbrev pub fault_path : NodeFault → Trail
fault_path (faults.Raised f) = f.path
fault_path (faults.Circle p) = p

-- a fault of a kind that was raised at a path
abbrev pub raised_at : Trail → FaultKind → NodeFault
raised_at p k = faults.Raised (fault_at p k)
