use Rattle.ksv_schema.proofs.Common.{◌≡◌, ℕ, ◌<◌, ◌≤◌, get_or, view, in_tree, context_of}
use Rattle.ksv_expr_tree.specs.declared.tree.Expr.{Expr}
use Rattle.ksv_schema.proofs.members.number.number_trees.Given as goal

-- the expressions before this one were given their numbers, and the others are as they were
abbrev pub invariant-loop-expr : goal.invariant-loop-expr
invariant-loop-expr l = record {
  done : (k : ℕ) → k < l.expr-index → (z : Expr) → view (get_or l.exprs k z) ≡ in_tree (context_of l.context) (view (get_or l.initial.exprs k z));
  left : (k : ℕ) (z : Expr) → l.expr-index ≤ k → get_or l.exprs k z ≡ get_or l.initial.exprs k z;
}
