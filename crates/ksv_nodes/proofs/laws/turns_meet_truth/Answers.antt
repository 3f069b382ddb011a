use Rattle.ksv_nodes.proofs.Resuming.{meets_truth}
use Rattle.ksv_nodes.proofs.laws.turns_meet_truth.Goals as goal

pub returns : goal.returns
returns c = meets_truth
