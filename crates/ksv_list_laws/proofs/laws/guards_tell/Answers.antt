use Rattle.ksv_list_laws.proofs.Guards.{guards_tell}
use Rattle.ksv_list_laws.proofs.laws.guards_tell.Goals as goal

pub returns : goal.returns
returns c = guards_tell
