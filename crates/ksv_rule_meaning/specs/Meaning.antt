-- The meaning of a node: its rule.
use Rattle.ksv_basics.specs.Plan.{Answer, ◌>>=◌}
use Rattle.ksv_expr_value.specs.Trail.{Trail}
use Rattle.ksv_desc.specs.Description.{Description}
use Rattle.ksv_nodes.specs.declared.node.Node.{Node}
use Rattle.ksv_nodes.specs.declared.node.NodeKind.{NodeKind}
use Rattle.ksv_nodes.specs.declared.node.NodeKind.TheVariants as nodes
use Rattle.ksv_nodes.specs.declared.given.Given.{Given}
use Rattle.ksv_nodes.specs.declared.given.Given.TheVariants as givens
use Rattle.ksv_nodes.specs.Rule.{Rule}
use Rattle.ksv_rule_meaning.specs.Heads.{head_of}
use Rattle.ksv_rule_meaning.specs.Values.{value_of}
use Rattle.ksv_rule_meaning.specs.Ends.{end_of, rest_of}

unfoldable pub meaning_of : Description → NodeKind → Trail → Rule Given
meaning_of d nodes.Head p = do
  h ← head_of d p
  Answer (givens.Head h)
meaning_of d nodes.Value p = do
  v ← value_of d p
  Answer (givens.Value v)
meaning_of d nodes.End p = do
  e ← end_of d p
  Answer (givens.End e.place e.last)
meaning_of d nodes.Rest p = do
  r ← rest_of d p
  Answer (givens.Rest r.count r.place)

-- the rule of a node
unfoldable pub rule_of : Description → Node → Rule Given
rule_of d n = meaning_of d n.kind n.path
