use Rattle.ksv_expr_syntax.proofs.Common.{natural}
use Rattle.ksv_expr_syntax.proofs.Lexing.{number_over}
use Rattle.ksv_expr_syntax.proofs.lexer.number_of_digits.Goals as goal

pub returns-in_err-number : goal.returns-in_err-number
returns-in_err-number c = rw c.from_residual.ensures
    (number_over c.args.radix (natural c.args.radix 0 c.args.digits.now) c.digits.number c.in-Some.byte c.digits.rest.now c.in-Some.after.now
    c.digits.invariant c.in-Some.ensures c.if-byte-ne95.true c.in_err-number.ensures)
