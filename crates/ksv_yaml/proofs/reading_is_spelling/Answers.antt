use Rattle.ksv_yaml.proofs.TextTheorem.{text_sound, text_complete}
use Rattle.ksv_yaml.proofs.reading_is_spelling.Goals as goal

pub returns : goal.returns
returns c = record { sound = text_sound; complete = λ text t. text_complete }
