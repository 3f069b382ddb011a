use Rattle.ksv_schema.proofs.Common.{arith, view, in_tree, context_of}
use Rattle.ksv_schema.proofs.InPlace.{each_same, done_more, left_less}
use Rattle.ksv_schema.proofs.members.number.number_trees.Goals as goal

pub loop-expr-preserved : goal.loop-expr-preserved
loop-expr-preserved c = record {
  done = done_more view (in_tree (context_of c.args.context.now)) c.loop-expr.exprs c.args.exprs.now c.loop-expr.expr-index c.expr-item.result
      c.number_tree.new.expr (omega arith) c.number_tree.ensures c.loop-expr.invariant.left c.loop-expr.invariant.done;
  left = left_less view (in_tree (context_of c.args.context.now)) c.loop-expr.exprs c.args.exprs.now c.loop-expr.expr-index c.expr-item.result
      c.number_tree.new.expr c.loop-expr.invariant.left;
}

pub returns : goal.returns
returns c = each_same _ _ _ _ c.loop-expr.auto.exprs (λ k below. c.loop-expr.invariant.done k (omega arith))
