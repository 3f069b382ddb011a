use Rattle.ksv_list_laws.proofs.Shorter.{shorter_stays_plain}
use Rattle.ksv_list_laws.proofs.laws.shorter_stays_plain.Goals as goal

pub returns : goal.returns
returns c = shorter_stays_plain
