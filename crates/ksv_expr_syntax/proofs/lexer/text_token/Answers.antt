use Rattle.ksv_expr_syntax.proofs.Common.{sym, ap, ◌∙◌, string, constant, cut_at}
use Rattle.ksv_expr_syntax.proofs.Lexing.{text_is, text_none}
use Rattle.ksv_expr_syntax.proofs.lexer.text_token.Goals as goal

pub returns-in_ok-from_str-in-Ok : goal.returns-in_ok-from_str-in-Ok
returns-in_ok-from_str-in-Ok c = text_is c.args.bytes.now c.args.rest.now c.in-Ok.ensures.cases.1
    ∙ ap (λ w. cut_at (constant (string w)) c.args.rest.now) (sym (c.in_ok-from_str-in-Ok.ensures.ok ∙ c.in-Ok.ensures.cases.0))

pub returns-in-Err : goal.returns-in-Err
returns-in-Err c = λ n. text_none c.args.bytes.now c.args.rest.now c.in-Err.ensures.cases.0
