use Rattle.ksv_yaml.proofs.TextTheorem.{one_tree_of_text}
use Rattle.ksv_yaml.proofs.one_tree.Goals as goal

pub returns : goal.returns
returns c = one_tree_of_text
