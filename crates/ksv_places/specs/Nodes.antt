-- Nodes, given their kinds and their steps from the last to the first.
use Rattle.std.specs.Prelude.{List, map, IsTrue, Option, Some, None}
use Rattle.std.specs.List.{All}
use Rattle.ksv_expr_value.specs.declared.step.Step.{Step}
use Rattle.ksv_expr_value.specs.Trail.{Trail, fits, root, trail_of}
use Rattle.ksv_nodes.specs.declared.node.Node.{Node}
use Rattle.ksv_nodes.specs.declared.node.NodeKind.{NodeKind}
use Rattle.ksv_places.specs.declared.trace.Trace.{Trace}

-- a path; where there is none, the root's
abbrev pub some_trail : Option Trail → Trail
some_trail None = root
some_trail (Some t) = t

-- the path of these steps; of steps that do not fit, the root's
abbrev pub trail_at : List Step → Trail
trail_at steps = some_trail (trail_of steps)

abbrev pub named : NodeKind × List Step → Node
named p = record { kind = p.0; path = trail_at p.1 }

-- nodes, the paths by their numbers, and where the last search ended
pub record Placed : Type 0 where
  pub nodes : List Node
  pub paths : List (List Step)
  pub end : Trace

abbrev pub all_named : List (NodeKind × List Step) → List Node
all_named ps = map named ps

-- the steps of each fit
abbrev pub AllFit : List (NodeKind × List Step) → Type 0
AllFit ps = All (λ p. IsTrue (fits p.1)) ps
