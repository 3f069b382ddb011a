use Rattle.ksv_list_laws.proofs.Written.{values_are_written, written_are_plain}
use Rattle.ksv_list_laws.proofs.laws.values_are_written.Goals as goal

pub returns-clause-values : goal.returns-clause-values
returns-clause-values c = values_are_written

pub returns-clause-plain : goal.returns-clause-plain
returns-clause-plain c = written_are_plain
