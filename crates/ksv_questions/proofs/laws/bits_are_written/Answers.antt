use Rattle.ksv_questions.proofs.Written.{bits_are_written}
use Rattle.ksv_questions.proofs.laws.bits_are_written.Goals as goal

pub returns : goal.returns
returns c = bits_are_written
