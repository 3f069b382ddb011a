-- What is read of all the tokens is the type that they spell.
use Rattle.ksv_expr_syntax.proofs.Common.{map, string_bytes, sym, ap, ◌∙◌, err_from_is_err_and, view, arguments_of, lexemes}
use Rattle.ksv_expr_syntax.specs.Code.{type_list}
use Rattle.ksv_expr_syntax.proofs.Theorem.{type_spelled, no_type_path, no_type_list, no_type_end, no_more, some_more}
use Rattle.ksv_expr_syntax.proofs.read.read_type.Goals as goal

pub returns-in_err-path-clause-refused : goal.returns-in_err-path-clause-refused
returns-in_err-path-clause-refused c =
    let p = err_from_is_err_and c.from_residual.result c.from_residual.ensures.1 in
    rw (p.1, p.2) (λ n. no_type_path (lexemes c.args.tokens.now) (c.in_err-path.ensures.is n))

pub returns-in_err-arguments-clause-refused : goal.returns-in_err-arguments-clause-refused
returns-in_err-arguments-clause-refused c =
    let p = err_from_is_err_and c.from_residual-in_err-arguments.result c.from_residual-in_err-arguments.ensures.1 in
    rw (p.1, p.2) (λ n. no_type_list (lexemes c.args.tokens.now) (map string_bytes c.in_ok-path.path.items) (lexemes c.in_ok-path.behind.tokens.now)
    c.in_ok-path.ensures.is
    (ap (λ p. type_list (lexemes c.in_ok-path.behind.tokens.now) p) (sym c.in_ok-path.ensures.same) ∙ c.in_err-arguments.ensures n))

pub returns-then-not-is_empty-clause-refused : goal.returns-then-not-is_empty-clause-refused
returns-then-not-is_empty-clause-refused c = λ n. no_type_end (lexemes c.args.tokens.now) (map string_bytes c.in_ok-path.path.items)
    (lexemes c.in_ok-path.behind.tokens.now) (arguments_of (map view c.in_ok-arguments.arguments.items)) (lexemes c.in_ok-arguments.rest.tokens.now)
    c.in_ok-arguments.rest.parts c.in_ok-path.ensures.is
    (ap (λ p. type_list (lexemes c.in_ok-path.behind.tokens.now) p) (sym c.in_ok-path.ensures.same) ∙ c.in_ok-arguments.ensures)
    (some_more c.in_ok-arguments.rest.tokens.now c.is_empty.result c.if-not-is_empty.true c.is_empty.ensures)

pub returns-clause-found : goal.returns-clause-found
returns-clause-found c = type_spelled (lexemes c.args.tokens.now) (map string_bytes c.in_ok-path.path.items) (lexemes c.in_ok-path.behind.tokens.now)
    (arguments_of (map view c.in_ok-arguments.arguments.items)) (lexemes c.in_ok-arguments.rest.tokens.now) c.in_ok-arguments.rest.parts
    c.in_ok-path.ensures.is (ap (λ p. type_list (lexemes c.in_ok-path.behind.tokens.now) p) (sym c.in_ok-path.ensures.same) ∙ c.in_ok-arguments.ensures)
    (no_more c.in_ok-arguments.rest.tokens.now c.is_empty.result c.if-not-is_empty.false c.is_empty.ensures)
