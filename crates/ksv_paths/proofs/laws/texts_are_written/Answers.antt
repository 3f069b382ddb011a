use Rattle.ksv_paths.proofs.PathSpelling.{texts_are_written}
use Rattle.ksv_paths.proofs.laws.texts_are_written.Goals as goal

pub returns : goal.returns
returns c = texts_are_written
