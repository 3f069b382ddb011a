use Rattle.ksv_desc.proofs.Tabled.{is_table}
use Rattle.ksv_desc.proofs.laws.names_are_tabled.Goals as goal

pub returns : goal.returns
returns c = is_table
