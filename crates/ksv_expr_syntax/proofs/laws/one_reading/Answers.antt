-- A text has one cutting, and its tokens one tree.
use Rattle.ksv_expr_syntax.proofs.Theorem.{one_expression, one_type}
use Rattle.ksv_expr_syntax.proofs.laws.one_reading.Goals as goal

pub returns-clause-expressions : goal.returns-clause-expressions
returns-clause-expressions c = one_expression

pub returns-clause-types : goal.returns-clause-types
returns-clause-types c = one_type
