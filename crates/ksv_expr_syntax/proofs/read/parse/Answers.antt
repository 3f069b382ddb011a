-- A text whose tokens spell nothing, or that has none, spells nothing.
use Rattle.ksv_expr_syntax.proofs.Common.{subst, err_from_is_err_and, Tree, lexemes}
use Rattle.ksv_expr_syntax.specs.Grammar.{IsExpr}
use Rattle.ksv_expr_syntax.proofs.Theorem.{refused_text}
use Rattle.ksv_expr_syntax.proofs.read.parse.Goals as goal

pub returns-in_err-expr-clause-refused : goal.returns-in_err-expr-clause-refused
returns-in_err-expr-clause-refused c =
    let p = err_from_is_err_and c.from_residual-in_err-expr.result c.from_residual-in_err-expr.ensures.1 in
    rw (p.1, p.2) (λ n. refused_text c.args.text.now (lexemes c.in_ok-scan.scan.tokens.items) c.in_ok-scan.scan.fault c.in_ok-scan.ensures
    (subst (λ ts. (e : Tree) → IsExpr (lexemes ts) e → ⊥) c.as_slice.ensures.value (c.in_err-expr.ensures.refused n)))
