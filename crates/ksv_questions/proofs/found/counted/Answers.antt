use Rattle.ksv_questions.proofs.Common.{found_of, find_list}
use Rattle.ksv_questions.proofs.AskLemmas.{heard_settled}
use Rattle.ksv_questions.proofs.found.counted.Goals as goal

pub returns : goal.returns
unfolding find_list
returns g c =
    heard_settled _ _ _ _ (λ r. found_of r) _ c.ask-asked.new.engine c.ask-asked.result c.count_in.result c.ask-asked.ensures c.count_in.ensures
