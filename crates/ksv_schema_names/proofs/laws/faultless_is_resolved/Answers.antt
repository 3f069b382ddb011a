use Rattle.ksv_schema_names.specs.Names.{Nothing, name_faults}
use Rattle.ksv_schema_names.proofs.Resolving.{resolved, all_resolved}
use Rattle.ksv_schema_names.proofs.laws.faultless_is_resolved.Goals as goal

pub returns-clause-expression : goal.returns-clause-expression
unfolding name_faults
returns-clause-expression c = λ d x n p e fits has h. resolved d x n p fits Nothing e has h

pub returns-clause-arguments : goal.returns-clause-arguments
returns-clause-arguments c = λ d x n p es fits has h. all_resolved d x n p fits es has h
