use Rattle.ksv_schema.proofs.Theorem.{some_refuses, refuses_one}
use Rattle.ksv_schema.proofs.laws.faulty_trees_are_refused.Goals as goal

pub returns-clause-some : goal.returns-clause-some
returns-clause-some c = some_refuses

pub returns-clause-one : goal.returns-clause-one
returns-clause-one c = refuses_one
