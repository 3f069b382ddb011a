use Rattle.ksv_rule_meaning.proofs.Direct.{next_meets_truth}
use Rattle.ksv_rule_meaning.proofs.laws.next_meets_truth.Goals as goal

pub returns : goal.returns
returns c = next_meets_truth
