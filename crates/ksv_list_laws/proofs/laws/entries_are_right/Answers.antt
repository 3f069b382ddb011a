use Rattle.ksv_list_laws.proofs.Entries.{entries_are_right}
use Rattle.ksv_list_laws.proofs.Folding.{folded_stand_in}
use Rattle.ksv_list_laws.proofs.laws.entries_are_right.Goals as goal

pub returns-clause-own : goal.returns-clause-own
returns-clause-own c = entries_are_right

pub returns-clause-folded : goal.returns-clause-folded
returns-clause-folded c = folded_stand_in
