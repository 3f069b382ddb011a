use Rattle.ksv_expr_syntax.proofs.Common.{arith, common_steps}
use Rattle.ksv_expr_syntax.proofs.lexer.escape.Goals as goal

pub returns-in-None-clause-is : goal.returns-in-None-clause-is
returns-in-None-clause-is c = grind (arith, common_steps)
