use Rattle.ksv_nodes.proofs.Ranges.{look_fits}
use Rattle.ksv_nodes.proofs.laws.readings_fit.Goals as goal

pub returns : goal.returns
returns c = λ reading bytes. look_fits bytes reading
