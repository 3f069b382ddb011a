-- A text that is refused spells nothing.
use Rattle.ksv_schema.proofs.Spellings.{expression_is_none}
use Rattle.ksv_schema.proofs.keys.expressions.read_expression.Goals as goal

pub returns-in_default : goal.returns-in_default
returns-in_default c = expression_is_none c.args.text.now (c.in-Err.ensures.refused c.in_default.not-NoMemory)
