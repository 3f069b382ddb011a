use Rattle.ksv_expr_syntax.proofs.Common.{arith, common_steps}
use Rattle.ksv_expr_syntax.proofs.Lexing.{unicode_read}
use Rattle.ksv_expr_syntax.proofs.lexer.unicode_escape.Goals as goal

pub returns-in-Some-clause-is : goal.returns-in-Some-clause-is
returns-in-Some-clause-is c = unicode_read c.args.text.now c.byte_at.result c.byte_at-2.result c.byte_at-3.result c.byte_at-4.result c.in-Some.character
    c.behind.result.now (omega (arith, c.if-text-lt4.false)) c.byte_at.ensures c.byte_at-2.ensures c.byte_at-3.ensures c.byte_at-4.ensures c.in-Some.ensures
    c.behind.ensures

pub returns-in-Some-clause-shorter : goal.returns-in-Some-clause-shorter
returns-in-Some-clause-shorter c = grind (arith, common_steps)

pub returns-in-None-clause-is : goal.returns-in-None-clause-is
returns-in-None-clause-is c = grind (arith, common_steps)
