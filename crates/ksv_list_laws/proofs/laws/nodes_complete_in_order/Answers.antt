use Rattle.ksv_list_laws.proofs.Growing.{up_to_are_completed, values_complete}
use Rattle.ksv_list_laws.proofs.laws.nodes_complete_in_order.Goals as goal

pub returns-clause-up_to : goal.returns-clause-up_to
returns-clause-up_to c = up_to_are_completed

pub returns-clause-values : goal.returns-clause-values
returns-clause-values c = values_complete
