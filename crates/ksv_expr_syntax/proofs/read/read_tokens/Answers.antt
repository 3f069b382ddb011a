-- What is read of all the tokens is what they spell.
use Rattle.ksv_expr_syntax.proofs.Common.{err_from_is_err_and, view, lexemes}
use Rattle.ksv_expr_syntax.proofs.Theorem.{spelled, not_read, rest_read, no_more, some_more}
use Rattle.ksv_expr_syntax.proofs.read.read_tokens.Goals as goal

pub returns-in_err-expr-clause-refused : goal.returns-in_err-expr-clause-refused
returns-in_err-expr-clause-refused c =
    let p = err_from_is_err_and c.from_residual.result c.from_residual.ensures.1 in
    rw (p.1, p.2) (λ n. not_read (lexemes c.args.tokens.now) (c.in_err-expr.ensures.is n))

pub returns-then-not-is_empty-clause-refused : goal.returns-then-not-is_empty-clause-refused
returns-then-not-is_empty-clause-refused c = λ n. rest_read (lexemes c.args.tokens.now) (view c.in_ok-expr.expr) (lexemes c.in_ok-expr.rest.tokens.now)
    c.in_ok-expr.rest.parts (some_more c.in_ok-expr.rest.tokens.now c.is_empty.result c.if-not-is_empty.true c.is_empty.ensures) c.in_ok-expr.ensures.is

pub returns-clause-found : goal.returns-clause-found
returns-clause-found c = spelled (lexemes c.args.tokens.now) (view c.in_ok-expr.expr) (lexemes c.in_ok-expr.rest.tokens.now) c.in_ok-expr.rest.parts
    (no_more c.in_ok-expr.rest.tokens.now c.is_empty.result c.if-not-is_empty.false c.is_empty.ensures) c.in_ok-expr.ensures.is
