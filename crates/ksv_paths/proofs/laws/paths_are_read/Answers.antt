use Rattle.ksv_paths.proofs.PathReading.{paths_are_read}
use Rattle.ksv_paths.proofs.laws.paths_are_read.Goals as goal

pub returns : goal.returns
returns c = paths_are_read
