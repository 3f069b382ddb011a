-- An argument by its number.
use Rattle.std.proofs.Common.{◌≡◌, ℕ, zero, suc, ◌<◌, ◌≤◌, List, [], ◌∷◌, length, map, get_or, refl, ap, arith}
use Rattle.ksv_basics.specs.Plan.{Answer}
use Rattle.ksv_expr_tree.specs.Tree.{arguments_of, view}
use Rattle.ksv_expr_tree.specs.declared.tree.Expr.{Expr}
use Rattle.ksv_expr_value.specs.declared.fault.FaultKind.TheVariants as kinds
use Rattle.ksv_nodes.specs.Rule.{raise}
use Rattle.ksv_rule_meaning.specs.Values.{argument_at}

pub is_there : (es : List Expr) (i : ℕ) (e : Expr) → i < length es → e ≡ get_or es i e → argument_at (arguments_of (map view es)) i ≡ Answer (view e)
unfolding argument_at
is_there [] i e inside same = absurd (omega arith)
is_there (x ∷ es) zero e inside same = ap (λ y. Answer (view y)) (cc)
is_there (x ∷ es) (suc i) e inside same = is_there es i e (omega arith) same

pub is_past : (es : List Expr) (i : ℕ) → length es ≤ i → argument_at (arguments_of (map view es)) i ≡ raise kinds.NoSuch
unfolding argument_at
is_past [] i past = refl
is_past (x ∷ es) zero past = absurd (omega arith)
is_past (x ∷ es) (suc i) past = is_past es i (omega arith)
