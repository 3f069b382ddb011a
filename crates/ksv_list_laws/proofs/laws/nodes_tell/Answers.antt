use Rattle.ksv_list_laws.proofs.Telling.{nodes_have_paths, nodes_tell}
use Rattle.ksv_list_laws.proofs.laws.nodes_tell.Goals as goal

pub returns-clause-paths : goal.returns-clause-paths
returns-clause-paths c = nodes_have_paths

pub returns-clause-tell : goal.returns-clause-tell
returns-clause-tell c = nodes_tell
