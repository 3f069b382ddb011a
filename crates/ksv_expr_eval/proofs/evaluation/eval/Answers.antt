use Rattle.ksv_expr_tree.specs.Tree.{view}
use Rattle.ksv_expr_meaning.proofs.Truths.{bounded_outcome}
use Rattle.ksv_expr_eval.proofs.evaluation.eval.Goals as goal

pub returns-clause-ended : goal.returns-clause-ended
returns-clause-ended c = bounded_outcome c.args.ctx.now (view c.args.expr.now) c.args.replies.now c.outcome.result c.outcome.ensures
