use Rattle.ksv_schema.proofs.Common.{view}
use Rattle.ksv_yaml_tree.specs.View.{view as view_node}
use Rattle.ksv_schema.proofs.Each.{each_from_read, each_from_end}
use Rattle.ksv_schema.proofs.values.valid.each_alternative.Goals as goal

pub loop-node-preserved : goal.loop-node-preserved
loop-node-preserved c = each_from_read view_node _ c.args.nodes.now _ view _ _ _ _ _ _ _ _ c.loop-node-test.true c.node-item.is c.alternative-read.ensures
    c.in_ok-made.ensures c.loop-node.invariant

pub returns : goal.returns
returns c = each_from_end view_node _ c.args.nodes.now _ _ _ _ _ c.loop-node-test.false c.loop-node.invariant
