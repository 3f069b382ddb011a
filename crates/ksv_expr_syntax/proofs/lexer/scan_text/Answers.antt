use Rattle.ksv_expr_syntax.proofs.Common.{sym, ap, ◌∙◌, map-append, Placed, lexemes, cut}
use Rattle.ksv_expr_syntax.specs.Lexemes.{lexeme_of}
use Rattle.ksv_expr_syntax.proofs.Scan.{scan_ends, scan_on, scan_shorter, scan_stuck, empty_is, not_empty}
use Rattle.ksv_expr_syntax.proofs.lexer.scan_text.Goals as goal

pub returns-then-is_empty : goal.returns-then-is_empty
returns-then-is_empty c = scan_ends c.tokens.invariant
    (sym c.skip_spaces-start.ensures ∙ empty_is c.skip_spaces-start.result.now c.is_empty.result c.if-is_empty.true c.is_empty.ensures)

pub tokens-smaller : goal.tokens-smaller
tokens-smaller c = scan_shorter c.tokens.rest.now (record { lexeme = lexeme_of c.in-Ok.token; rest = c.in-Ok.behind.now })
    (ap cut (sym c.skip_spaces-start.ensures) ∙ c.in-Ok.ensures)

pub tokens-preserved : goal.tokens-preserved
tokens-preserved c = scan_on (record { lexeme = lexeme_of c.in-Ok.token; rest = c.in-Ok.behind.now }) (lexemes c.push.new.self.items)
    (lexeme_of c.marked-token.result) c.is_dot_token-dot.result c.tokens.invariant (ap cut (sym c.skip_spaces-start.ensures) ∙ c.in-Ok.ensures)
    c.marked-token.ensures c.is_dot_token-dot.ensures
    (ap lexemes c.in_ok-push-in-Ok.ensures.items ∙ map-append (λ (t : Placed). lexeme_of t.token) c.tokens.tokens.items _)

pub returns-in-Err : goal.returns-in-Err
returns-in-Err c = scan_stuck c.tokens.invariant
    (λ z. not_empty c.skip_spaces-start.result.now c.is_empty.result c.if-is_empty.false c.is_empty.ensures (c.skip_spaces-start.ensures ∙ z))
    (ap cut (sym c.skip_spaces-start.ensures) ∙ c.in-Err.ensures c.in_ok-fault-in-Err.ensures)
