use Rattle.ksv_questions.proofs.Common.{found_of}
use Rattle.ksv_questions.specs.Dumps.{find_object}
use Rattle.ksv_questions.proofs.AskLemmas.{heard_settled}
use Rattle.ksv_questions.proofs.found.find_object.Goals as goal

pub returns : goal.returns
unfolding find_object
returns g c =
    heard_settled _ _ _ _ (λ r. found_of r) _ c.ask-asked.new.engine c.ask-asked.result c.object_in.result c.ask-asked.ensures c.object_in.ensures
