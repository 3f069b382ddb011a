use Rattle.ksv_rule_laws.proofs.Counting.{rests_count, told_counts}
use Rattle.ksv_rule_laws.proofs.laws.rests_count.Goals as goal

pub returns-clause-elements : goal.returns-clause-elements
returns-clause-elements c = rests_count

pub returns-clause-told : goal.returns-clause-told
returns-clause-told c = told_counts
