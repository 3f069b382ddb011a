use Rattle.ksv_yaml_tree.specs.View.{view}
use Rattle.ksv_schema.proofs.Items.{items_step, items_end, bytes_faults}
use Rattle.ksv_schema.proofs.values.value.items.Goals as goal

pub loop-node-preserved : goal.loop-node-preserved
loop-node-preserved c = items_step view c.args.nodes.now _ _ _ _ _ _ _ _ c.loop-node-test.true c.node-item.is c.in_ok-made.ensures.value
    c.with_item.ensures.faults c.loop-node.invariant

pub returns-clause-faults : goal.returns-clause-faults
returns-clause-faults c = bytes_faults _ _ _ _ (items_end view c.args.nodes.now _ _ _ _ _ c.loop-node-test.false c.loop-node.invariant)
