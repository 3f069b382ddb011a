use Rattle.ksv_folds.proofs.Right.{open_sequences_are_right, sequences_are_right, whole_sequences_are_right}
use Rattle.ksv_folds.proofs.laws.sequences_are_right.Goals as goal

pub returns-clause-before : goal.returns-clause-before
returns-clause-before c = sequences_are_right

pub returns-clause-open : goal.returns-clause-open
returns-clause-open c = open_sequences_are_right

pub returns-clause-whole : goal.returns-clause-whole
returns-clause-whole c = whole_sequences_are_right
