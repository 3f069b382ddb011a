use Rattle.ksv_schema_names.proofs.Noted.{least_told}
use Rattle.ksv_schema_names.proofs.laws.least_is_told.Goals as goal

pub returns : goal.returns
returns c = least_told
