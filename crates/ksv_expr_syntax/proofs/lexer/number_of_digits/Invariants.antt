use Rattle.ksv_expr_syntax.proofs.Common.{◌≡◌, length, natural}
use Rattle.ksv_expr_syntax.proofs.lexer.number_of_digits.Given as goal

abbrev pub invariant-digits : goal.invariant-digits
invariant-digits l = natural l.radix 0 l.fn.digits ≡ natural l.radix l.number l.rest

abbrev pub decreases-digits : goal.decreases-digits
decreases-digits l = length l.rest
