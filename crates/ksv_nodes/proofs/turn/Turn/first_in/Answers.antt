use Rattle.ksv_nodes.proofs.Common.{arith}
use Rattle.std.proofs.lemmas.Grind.{common_steps}
use Rattle.ksv_nodes.proofs.turn.Turn.first_in.Goals as goal

pub returns-then-to-from-clause-found : goal.returns-then-to-from-clause-found
returns-then-to-from-clause-found c = grind (arith, common_steps)

pub returns-in_err-place-clause-found : goal.returns-in_err-place-clause-found
returns-in_err-place-clause-found c = grind (arith, common_steps)

pub overflow_cast-result : goal.overflow_cast-result
overflow_cast-result c = grind (arith, common_steps)

pub returns-clause-found : goal.returns-clause-found
returns-clause-found c = grind (arith, common_steps)

pub returns-clause-inside : goal.returns-clause-inside
returns-clause-inside c = grind (arith, common_steps)

pub returns-clause-small : goal.returns-clause-small
returns-clause-small c = grind (arith, common_steps)
