use Rattle.ksv_yaml_tree.proofs.Views.{items_seen}
use Rattle.ksv_yaml_tree.proofs.tree.Yaml.items.Goals as goal

pub returns-in-List : goal.returns-in-List
returns-in-List c = items_seen _ _ _ _ c.in-List.is c.as_slice.ensures.value
