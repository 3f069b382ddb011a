use Rattle.ksv_yaml_tree.proofs.Views.{entries_seen}
use Rattle.ksv_yaml_tree.proofs.tree.Yaml.entries.Goals as goal

pub returns-in-Map : goal.returns-in-Map
returns-in-Map c = entries_seen _ _ _ _ c.in-Map.is c.as_slice.ensures.value
