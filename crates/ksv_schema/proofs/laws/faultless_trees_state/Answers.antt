use Rattle.ksv_schema.proofs.Theorem.{tree_states, states_one}
use Rattle.ksv_schema.proofs.laws.faultless_trees_state.Goals as goal

pub returns-clause-some : goal.returns-clause-some
returns-clause-some c = tree_states

pub returns-clause-one : goal.returns-clause-one
returns-clause-one c = states_one
