-- A call has less to do than its caller, by the deepest of the expressions that are left.
use Rattle.std.proofs.Common.{◌+◌, ◌*◌, max}
use Rattle.ksv_expr_tree.proofs.tree.Expr.TheLaws.{the_size}
use Rattle.ksv_expr_eval.proofs.evaluation.+value.Given as goal

abbrev pub decreases-value : goal.decreases-value
decreases-value g l = 4 * the_size l.expr.now

abbrev pub decreases-unary_expr : goal.decreases-unary_expr
decreases-unary_expr g l = 4 * the_size l.operand.now + 1

abbrev pub decreases-binary_expr : goal.decreases-binary_expr
decreases-binary_expr g l = 4 * max (the_size l.left.now) (the_size l.right.now) + 1

abbrev pub decreases-truth_of : goal.decreases-truth_of
decreases-truth_of g l = 4 * the_size l.expr.now + 1

abbrev pub decreases-logical_expr : goal.decreases-logical_expr
decreases-logical_expr g l = 4 * max (the_size l.left.now) (the_size l.right.now) + 2

abbrev pub decreases-choice_expr : goal.decreases-choice_expr
decreases-choice_expr g l = 4 * max (the_size l.condition.now) (max (the_size l.yes.now) (the_size l.no.now)) + 2

abbrev pub decreases-field_expr : goal.decreases-field_expr
decreases-field_expr g l = 4 * the_size l.object.now + 1

abbrev pub decreases-special_field_expr : goal.decreases-special_field_expr
decreases-special_field_expr g l = 4 * the_size l.object.now + 1

abbrev pub decreases-call_with_one : goal.decreases-call_with_one
decreases-call_with_one g l = 4 * max (the_size l.object.now) (the_size l.argument.now) + 1

abbrev pub decreases-call_behind : goal.decreases-call_behind
decreases-call_behind g l = 4 * max (the_size l.first.now) (the_size l.second.now) + 1

abbrev pub decreases-call_with_two : goal.decreases-call_with_two
decreases-call_with_two g l = 4 * max (the_size l.object.now) (max (the_size l.first.now) (the_size l.second.now)) + 2

abbrev pub decreases-index_expr : goal.decreases-index_expr
decreases-index_expr g l = 4 * max (the_size l.list.now) (the_size l.place.now) + 1

abbrev pub decreases-cast_expr : goal.decreases-cast_expr
decreases-cast_expr g l = 4 * the_size l.object.now + 1
