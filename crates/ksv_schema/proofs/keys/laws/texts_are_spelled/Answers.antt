use Rattle.ksv_schema.proofs.Expressions.{expression_is_spelled, spelled_is_expression, type_is_spelled, spelled_is_type}
use Rattle.ksv_schema.proofs.keys.laws.texts_are_spelled.Goals as goal

pub returns-clause-expression_sound : goal.returns-clause-expression_sound
returns-clause-expression_sound c = expression_is_spelled

pub returns-clause-expression_complete : goal.returns-clause-expression_complete
returns-clause-expression_complete c = spelled_is_expression

pub returns-clause-type_sound : goal.returns-clause-type_sound
returns-clause-type_sound c = type_is_spelled

pub returns-clause-type_complete : goal.returns-clause-type_complete
returns-clause-type_complete c = spelled_is_type
