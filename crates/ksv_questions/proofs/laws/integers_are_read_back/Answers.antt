use Rattle.ksv_questions.proofs.ReadBack.{read_back}
use Rattle.ksv_questions.proofs.laws.integers_are_read_back.Goals as goal

pub returns : goal.returns
returns c = read_back
