use Rattle.ksv_list_laws.proofs.Growing.{nodes_grow, earlier_are_completed}
use Rattle.ksv_list_laws.proofs.laws.nodes_grow.Goals as goal

pub returns-clause-alone : goal.returns-clause-alone
returns-clause-alone c = nodes_grow

pub returns-clause-earlier : goal.returns-clause-earlier
returns-clause-earlier c = earlier_are_completed
