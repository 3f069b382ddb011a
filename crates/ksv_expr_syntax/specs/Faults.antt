-- The codes and texts of refusals.
use Rattle.std.specs.Prelude.{ℕ, List, codes}
use Rattle.ksv_expr_syntax.specs.declared.fault.ExprFaultKind.{ExprFaultKind}
use Rattle.ksv_expr_syntax.specs.declared.fault.ExprFaultKind.TheVariants as kinds

-- the code by which a message names a refusal
abbrev pub code_of : ExprFaultKind → List ℕ
code_of kinds.UnexpectedCharacter = codes "X1"
code_of kinds.UnexpectedEnd = codes "X2"
code_of kinds.LeftOutForm = codes "X3"
code_of kinds.NumberOutsideRange = codes "X4"
code_of kinds.TooLarge = codes "X5"
code_of kinds.NoMemory = codes "X6"

-- what a refusal says in words, after its code
abbrev pub text_of : ExprFaultKind → List ℕ
text_of kinds.UnexpectedCharacter = codes "expression: X1 unexpected character"
text_of kinds.UnexpectedEnd = codes "expression: X2 unexpected end"
text_of kinds.LeftOutForm = codes "expression: X3 left-out form"
text_of kinds.NumberOutsideRange = codes "expression: X4 number outside the range"
text_of kinds.TooLarge = codes "expression: X5 too large"
text_of kinds.NoMemory = codes "expression: X6 no memory"
